use Rattle.std.proofs.Common.{ℕ, sym, subst}
use Rattle.ipa_history.specs.Clocks.{IsClockOf}
use Rattle.ipa_session.specs.Calms.{IsCalmOf}
use Rattle.ipa_session.specs.Sessions.{SessionParts, IsCalmAt}
use Rattle.ipa_session.proofs.CalmLemmas.{calm_whole}
use Rattle.ipa_session.proofs.session.Session.risen_calm.Goals as goal

pub returns-then-is_found_calm : goal.returns-then-is_found_calm
returns-then-is_found_calm c =
    let here : SessionParts = record { setting = c.self.inside.setting; origin = c.self.inside.origin; seen = c.self.inside.seen; spare = c.self.inside.spare } in
    let held : IsClockOf c.args.self.now.seen c.self.inside.cut = subst (λ (p : SessionParts). IsClockOf p.seen c.self.inside.cut) c.self.view_is c.self.invariant.clock in
    let calm : IsCalmAt here c.self.inside.cut = subst (λ (p : SessionParts). IsCalmAt p c.self.inside.cut) (sym c.self.view_is)
    (c.is_found_calm.ensures c.self.inside.cut held c.if-is_found_calm.true) in
    subst (λ (p : SessionParts). IsCalmOf p.setting.spec p.setting.base p.seen (record { cut = c.self.inside.cut; count = c.len.result })) c.self.view_is
    (subst (λ (n : ℕ). IsCalmOf here.setting.spec here.setting.base here.seen (record { cut = c.self.inside.cut; count = n })) (sym c.len.ensures)
    (calm_whole here c.self.invariant.session c.self.inside.cut c.self.invariant.clock calm))
