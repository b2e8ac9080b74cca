use Rattle.std.proofs.Common.{◌≡◌, List, sym, ◌∙◌, subst}
use Rattle.ipa_clock.specs.declared.cut.Cut.{Cut}
use Rattle.ipa_spec.specs.Fits.{IsFit}
use Rattle.ipa_spec.specs.declared.specification.Specification.{Specification}
use Rattle.ipa_spec.specs.declared.operations.Action.TheVariants.{Op, Drop}
use Rattle.ipa_logic.specs.Facts.{IsStateOf}
use Rattle.ipa_logic.specs.Groups.{Within}
use Rattle.ipa_logic.specs.Requests.{IsDo}
use Rattle.ipa_logic.specs.declared.facts.Request.TheVariants.{Do}
use Rattle.ipa_logic.specs.declared.facts.Fact.{Fact}
use Rattle.ipa_history.specs.Values.{value_at}
use Rattle.ipa_history.specs.Clocks.{IsClockOf}
use Rattle.ipa_history.specs.Legality.{IsLegal}
use Rattle.ipa_sets.specs.FactSets.{true_facts}
use Rattle.ipa_gate.specs.Verdicts.{IsAtCut}
use Rattle.ipa_gate.specs.VerdictLaws.{moved}
use Rattle.ipa_session.specs.Sessions.{SessionParts, IsNextWith, IsCalmAt, IsDecision}
use Rattle.ipa_session.specs.declared.decision.Decision.TheVariants.{Commit}
use Rattle.ipa_session.proofs.CutLemmas.{state_at, within_at, next_at_cut}
use Rattle.ipa_session.proofs.DecisionLemmas.{decision_commit}
use Rattle.ipa_session.proofs.session.Session.decide_do.Goals as goal

pub reason_within-requires-clause-at : goal.reason_within-requires-clause-at
reason_within-requires-clause-at c =
    let here : SessionParts = record { setting = c.self.inside.setting; origin = c.self.inside.origin; seen = c.self.inside.seen; spare = c.self.inside.spare } in
    let is : c.spec-spec.result.now ≡ here.setting.spec = c.spec-spec.ensures.spec ∙ c.accepted.ensures.spec in
    let fit : IsFit here.setting.spec = subst (λ (s : Specification). IsFit s) is c.spec_is_fit.ensures.fit in
    let held : IsClockOf c.args.self.now.seen c.self.inside.cut = subst (λ (p : SessionParts). IsClockOf p.seen c.self.inside.cut) c.self.view_is c.self.invariant.clock in
    let next : IsNextWith here c.self.inside.cut (Op c.args.op) c.args.args.now c.next-tx.result =
    subst (λ (p : SessionParts). IsNextWith p c.self.inside.cut (Op c.args.op) c.args.args.now c.next-tx.result) (sym c.self.view_is) (c.next-tx.ensures c.self.inside.cut held) in
    let request : IsDo here.setting.spec here.setting.universe c.args.op c.args.args.now =
    subst (λ (p : SessionParts). IsDo p.setting.spec p.setting.universe c.args.op c.args.args.now) (sym c.self.view_is) c.requires.request in
    moved (λ s u b. IsAtCut s u b c.self.inside.seen c.next-tx.result) _ _ _ _ _ _ (sym is) (sym c.universe.ensures)
    (sym c.base.ensures) (next_at_cut here fit c.accepted.ensures.setting c.self.invariant.session c.self.inside.cut
    c.self.invariant.clock (Op c.args.op) c.args.args.now c.next-tx.result next request.declared request.arguments)

pub reason_within-requires-clause-state : goal.reason_within-requires-clause-state
reason_within-requires-clause-state c =
    let here : SessionParts = record { setting = c.self.inside.setting; origin = c.self.inside.origin; seen = c.self.inside.seen; spare = c.self.inside.spare } in
    let is : c.spec-spec.result.now ≡ here.setting.spec = c.spec-spec.ensures.spec ∙ c.accepted.ensures.spec in
    let fit : IsFit here.setting.spec = subst (λ (s : Specification). IsFit s) is c.spec_is_fit.ensures.fit in
    let held : IsClockOf c.args.self.now.seen c.self.inside.cut = subst (λ (p : SessionParts). IsClockOf p.seen c.self.inside.cut) c.self.view_is c.self.invariant.clock in
    let next : IsNextWith here c.self.inside.cut (Op c.args.op) c.args.args.now c.next-tx.result =
    subst (λ (p : SessionParts). IsNextWith p c.self.inside.cut (Op c.args.op) c.args.args.now c.next-tx.result) (sym c.self.view_is) (c.next-tx.ensures c.self.inside.cut held) in
    let state = state_at here fit c.accepted.ensures.setting c.self.invariant.session c.self.inside.cut c.self.invariant.clock
    c.self.inside.facts c.self.invariant.facts_are in
    subst (λ (d : Cut). IsStateOf (value_at c.spec-spec.result.now c.base.result.now c.self.inside.seen d) (true_facts c.self.inside.facts)) (sym next.cut)
    (subst (λ (b : List Fact). IsStateOf (value_at c.spec-spec.result.now b c.self.inside.seen c.self.inside.cut) (true_facts c.self.inside.facts)) (sym c.base.ensures)
    (subst (λ (s : Specification). IsStateOf (value_at s here.setting.base c.self.inside.seen c.self.inside.cut) (true_facts c.self.inside.facts)) (sym is) state))

pub reason_within-requires-clause-operation : goal.reason_within-requires-clause-operation
reason_within-requires-clause-operation c number drops =
    let held : IsClockOf c.args.self.now.seen c.self.inside.cut = subst (λ (p : SessionParts). IsClockOf p.seen c.self.inside.cut) c.self.view_is c.self.invariant.clock in
    let action : c.next-tx.result.action ≡ Op c.args.op = (c.next-tx.ensures c.self.inside.cut held).action_is in
    let both : Op c.args.op ≡ Drop number = sym action ∙ drops in
    absurd (cc)

pub reason_within-requires-clause-within : goal.reason_within-requires-clause-within
reason_within-requires-clause-within c =
    let here : SessionParts = record { setting = c.self.inside.setting; origin = c.self.inside.origin; seen = c.self.inside.seen; spare = c.self.inside.spare } in
    let is : c.spec-spec.result.now ≡ here.setting.spec = c.spec-spec.ensures.spec ∙ c.accepted.ensures.spec in
    let fit : IsFit here.setting.spec = subst (λ (s : Specification). IsFit s) is c.spec_is_fit.ensures.fit in
    let held : IsClockOf c.args.self.now.seen c.self.inside.cut = subst (λ (p : SessionParts). IsClockOf p.seen c.self.inside.cut) c.self.view_is c.self.invariant.clock in
    let calm : IsCalmAt here c.self.inside.cut =
    subst (λ (p : SessionParts). IsCalmAt p c.self.inside.cut) (sym c.self.view_is) (c.requires.calm c.self.inside.cut held) in
    subst (λ (s : Specification). Within s.bounds (true_facts c.self.inside.facts)) (sym is)
    (within_at here fit c.accepted.ensures.setting c.self.invariant.session c.self.inside.cut c.self.invariant.clock
    c.self.inside.facts c.self.invariant.facts_are calm)

pub returns-in-None : goal.returns-in-None
returns-in-None c cut clock =
    let here : SessionParts = record { setting = c.self.inside.setting; origin = c.self.inside.origin; seen = c.self.inside.seen; spare = c.self.inside.spare } in
    let is : c.spec-spec.result.now ≡ here.setting.spec = c.spec-spec.ensures.spec ∙ c.accepted.ensures.spec in
    let fit : IsFit here.setting.spec = subst (λ (s : Specification). IsFit s) is c.spec_is_fit.ensures.fit in
    let request : IsDo here.setting.spec here.setting.universe c.args.op c.args.args.now =
    subst (λ (p : SessionParts). IsDo p.setting.spec p.setting.universe c.args.op c.args.args.now) (sym c.self.view_is) c.requires.request in
    let legal : IsLegal here.setting.spec here.setting.universe here.setting.base here.seen c.next-tx.result =
    moved (λ s u b. IsLegal s u b c.self.inside.seen c.next-tx.result) _ _ _ _ _ _ is c.universe.ensures c.base.ensures c.in-None.ensures in
    subst (λ (p : SessionParts). IsDecision p cut (Do c.args.op c.args.args.now) (Commit c.next-tx.result)) c.self.view_is
    (decision_commit here cut c.args.op c.args.args.now c.next-tx.result
    (subst (λ (p : SessionParts). IsNextWith p cut (Op c.args.op) c.args.args.now c.next-tx.result) (sym c.self.view_is) (c.next-tx.ensures cut clock))
    fit c.accepted.ensures.setting c.self.invariant.session
    (subst (λ (p : SessionParts). IsClockOf p.seen cut) (sym c.self.view_is) clock) request legal)
