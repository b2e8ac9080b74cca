use Rattle.std.proofs.Common.{◌≡◌, ℕ, ◌+◌, ◌<◌, length, List, [], ◌∷◌, ◌++◌, inl, sym, ◌∙◌, ap, subst}
use Rattle.std.specs.Vec.{vec_capacity}
use Rattle.ipa_clock.specs.declared.cut.Cut.{Cut}
use Rattle.ipa_clock.specs.Cut.{raised}
use Rattle.ipa_spec.specs.declared.specification.Specification.{Specification}
use Rattle.ipa_history.specs.Clocks.{IsClockOf}
use Rattle.ipa_history.specs.declared.history.Tx.{Tx}
use Rattle.ipa_sets.specs.FactSets.{IsFactsOf}
use Rattle.ipa_session.specs.Calms.{next_calm}
use Rattle.ipa_session.specs.Holding.{IsHeld}
use Rattle.ipa_session.specs.Sessions.{SessionParts, IsLawfulNext}
use Rattle.ipa_session.specs.declared.calm.Calm.{Calm}
use Rattle.ipa_session.proofs.HoldingLemmas.{calm_at, history_next, held_next, with_next}
use Rattle.ipa_session.proofs.session.Session.keep_within.Goals as goal

pub take_in-requires : goal.take_in-requires
take_in-requires c =
    let held = c.self.invariant.spare (subst (λ (p : SessionParts). 0 < p.spare) (sym c.self.view_is) c.requires.room) in
    inl held.facts_have

pub push_within-requires-clause-history : goal.push_within-requires-clause-history
push_within-requires-clause-history c =
    history_next (record { setting = c.self.inside.setting; origin = c.self.inside.origin; seen = c.self.inside.seen; spare = c.self.inside.spare })
    c.accepted.ensures.setting c.self.invariant.session c.args.tx
    (subst (λ (p : SessionParts). IsClockOf p.seen c.args.tx.cut) (sym c.self.view_is) c.requires.clock)
    (subst (λ (p : SessionParts). IsLawfulNext p c.args.tx.cut c.args.tx) (sym c.self.view_is) c.requires.lawful)
    (subst (λ (p : SessionParts). length p.seen + 1 < 4294967295) (sym c.self.view_is) c.requires.few)

pub invariant_of-self : goal.invariant_of-self
invariant_of-self c =
    let here : SessionParts = record { setting = c.self.inside.setting; origin = c.self.inside.origin; seen = c.self.inside.seen; spare = c.self.inside.spare } in
    let clock : IsClockOf here.seen c.args.tx.cut = subst (λ (p : SessionParts). IsClockOf p.seen c.args.tx.cut) (sym c.self.view_is) c.requires.clock in
    let lawful : IsLawfulNext here c.args.tx.cut c.args.tx = subst (λ (p : SessionParts). IsLawfulNext p c.args.tx.cut c.args.tx) (sym c.self.view_is) c.requires.lawful in
    let few : length here.seen + 1 < 4294967295 = subst (λ (p : SessionParts). length p.seen + 1 < 4294967295) (sym c.self.view_is) c.requires.few in
    let is : c.spec.result.now ≡ here.setting.spec = c.spec.ensures.spec ∙ c.accepted.ensures.spec in
    let history = history_next here c.accepted.ensures.setting c.self.invariant.session c.args.tx clock lawful few in
    let are : IsFactsOf here.setting.spec here.setting.base (here.seen ++ c.args.tx ∷ []) c.take_in.new.facts =
    subst (λ (s : Specification). IsFactsOf s here.setting.base (here.seen ++ c.args.tx ∷ []) c.take_in.new.facts) is
    (c.take_in.ensures.taken here.setting.base here.seen (subst (λ (s : Specification). IsFactsOf s here.setting.base here.seen c.self.inside.facts) (sym is) c.self.invariant.facts_are) history) in
    let count : c.len.result ≡ length (here.seen ++ c.args.tx ∷ []) = c.len.ensures ∙ ap length c.push_within.ensures.history in
    let calm : c.next-self-inside.result ≡ next_calm c.args.tx.action c.self.inside.calm (calm_at (raised c.self.inside.cut c.args.tx.dot) (length (here.seen ++ c.args.tx ∷ []))) =
    c.next-self-inside.ensures ∙ (ap (λ (d : Cut). next_calm c.args.tx.action c.self.inside.calm (calm_at d c.len.result)) c.raised-self-inside.ensures
    ∙ ap (λ (n : ℕ). next_calm c.args.tx.action c.self.inside.calm (calm_at (raised c.self.inside.cut c.args.tx.dot) n)) count) in
    subst (λ (h : List Tx). IsHeld (record { setting = here.setting; origin = here.origin; seen = h; spare = 0 }) c.raised-self-inside.result c.next-self-inside.result c.take_in.new.facts c.push_within.new.room.items (vec_capacity c.push_within.new.room)) (sym c.push_within.ensures.history)
    (subst (λ (k : Calm). IsHeld (with_next here c.args.tx) c.raised-self-inside.result k c.take_in.new.facts c.push_within.new.room.items (vec_capacity c.push_within.new.room)) (sym calm)
    (subst (λ (d : Cut). IsHeld (with_next here c.args.tx) d (next_calm c.args.tx.action c.self.inside.calm (calm_at (raised c.self.inside.cut c.args.tx.dot) (length (here.seen ++ c.args.tx ∷ [])))) c.take_in.new.facts c.push_within.new.room.items (vec_capacity c.push_within.new.room)) (sym c.raised-self-inside.ensures)
    (held_next here c.accepted.ensures.setting c.self.invariant.session c.args.tx clock lawful few c.self.inside.cut c.self.invariant.clock c.self.inside.calm c.self.invariant.calm_is c.take_in.new.facts are c.push_within.new.room.items c.push_within.ensures.room (vec_capacity c.push_within.new.room))))
