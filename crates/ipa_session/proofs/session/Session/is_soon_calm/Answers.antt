use Rattle.std.proofs.Common.{◌≡◌, List, drop, sym, ◌∙◌, subst}
use Rattle.std.specs.Prelude.{All}
use Rattle.ipa_spec.specs.Fits.{IsFit}
use Rattle.ipa_spec.specs.declared.specification.Specification.{Specification}
use Rattle.ipa_history.specs.Clocks.{IsClockOf}
use Rattle.ipa_history.specs.declared.history.Tx.{Tx}
use Rattle.ipa_sets.specs.FactSets.{true_facts}
use Rattle.ipa_session.specs.Calms.{IsSpared}
use Rattle.ipa_session.specs.Sessions.{SessionParts, IsCalmAt}
use Rattle.ipa_session.proofs.CalmLemmas.{calm_soon}
use Rattle.ipa_session.proofs.session.Session.is_soon_calm.Goals as goal

pub returns-then-later-le-FEW : goal.returns-then-later-le-FEW
returns-then-later-le-FEW c cut clock all =
    let here : SessionParts = record { setting = c.self.inside.setting; origin = c.self.inside.origin; seen = c.self.inside.seen; spare = c.self.inside.spare } in
    let is : c.spec-spec.result.now ≡ here.setting.spec = c.spec-spec.ensures.spec ∙ c.accepted.ensures.spec in
    let spared : All (IsSpared here.setting.spec (true_facts c.self.inside.facts) c.self.inside.calm.cut) (drop c.self.inside.calm.count here.seen) =
    subst (λ (zs : List Tx). All (IsSpared here.setting.spec (true_facts c.self.inside.facts) c.self.inside.calm.cut) zs) c.later-later.ensures
    (subst (λ (s : Specification). All (IsSpared s (true_facts c.self.inside.facts) c.self.inside.calm.cut) c.later-later.result.now) is
    (c.all_spare.ensures.0 all)) in
    subst (λ (p : SessionParts). IsCalmAt p cut) c.self.view_is
    (calm_soon here c.self.invariant.session cut (subst (λ (p : SessionParts). IsClockOf p.seen cut) (sym c.self.view_is) clock)
    (subst (λ (s : Specification). IsFit s) is c.spec_is_fit.ensures.fit) c.accepted.ensures.setting c.self.inside.facts
    c.self.invariant.facts_are c.self.inside.calm c.self.invariant.calm_is spared)
