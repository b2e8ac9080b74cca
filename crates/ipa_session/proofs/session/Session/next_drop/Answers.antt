use Rattle.std.proofs.Common.{◌≡◌, ℕ, List, sym, ◌∙◌, subst}
use Rattle.ipa_spec.specs.Fits.{IsFit}
use Rattle.ipa_spec.specs.declared.specification.Specification.{Specification}
use Rattle.ipa_spec.specs.declared.operations.Action.TheVariants.{Drop}
use Rattle.ipa_logic.specs.Acceptance.{drop_args}
use Rattle.ipa_logic.specs.Groups.{Within}
use Rattle.ipa_logic.specs.DueDrops.{IsDueDrop}
use Rattle.ipa_history.specs.Clocks.{IsClockOf}
use Rattle.ipa_sets.specs.FactSets.{true_facts, lasts_on}
use Rattle.ipa_sets.specs.Lasts.{age_by_lasts}
use Rattle.ipa_session.specs.Sessions.{SessionParts, IsNextWith, IsCalmAt, IsDueNext}
use Rattle.ipa_session.proofs.CutLemmas.{calm_at}
use Rattle.ipa_session.proofs.DueLemmas.{due_next}
use Rattle.ipa_session.proofs.session.Session.next_drop.Goals as goal

pub returns-in-None : goal.returns-in-None
returns-in-None c cut clock =
    let here : SessionParts = record { setting = c.self.inside.setting; origin = c.self.inside.origin; seen = c.self.inside.seen; spare = c.self.inside.spare } in
    let is : c.spec-spec.result.now ≡ c.self.inside.setting.spec = c.spec-spec.ensures.spec ∙ c.accepted.ensures.spec in
    subst (λ (p : SessionParts). IsCalmAt p cut) c.self.view_is
    (calm_at here (subst (λ (s : Specification). IsFit s) is c.spec_is_fit.ensures.fit) c.accepted.ensures.setting
    c.self.invariant.session cut (subst (λ (p : SessionParts). IsClockOf p.seen cut) (sym c.self.view_is) clock)
    c.self.inside.facts c.self.invariant.facts_are
    (subst (λ (s : Specification). Within s.bounds (true_facts c.self.inside.facts)) is c.in-None.ensures.due))

pub returns-in-Some : goal.returns-in-Some
returns-in-Some c cut clock =
    let here : SessionParts = record { setting = c.self.inside.setting; origin = c.self.inside.origin; seen = c.self.inside.seen; spare = c.self.inside.spare } in
    let is : c.spec-spec.result.now ≡ c.self.inside.setting.spec = c.spec-spec.ensures.spec ∙ c.accepted.ensures.spec in
    let next : IsNextWith c.args.self.now cut (Drop c.in-Some.drop.bound) c.drop_args.result c.next.result = c.next.ensures cut clock in
    let with_args : IsNextWith c.args.self.now cut (Drop c.in-Some.drop.bound) (drop_args c.in-Some.drop.fact) c.next.result =
    subst (λ (args : List ℕ). IsNextWith c.args.self.now cut (Drop c.in-Some.drop.bound) args c.next.result) c.drop_args.ensures next in
    subst (λ (p : SessionParts). IsDueNext p cut c.next.result) c.self.view_is
    (due_next here (subst (λ (s : Specification). IsFit s) is c.spec_is_fit.ensures.fit) c.accepted.ensures.setting
    c.self.invariant.session cut (subst (λ (p : SessionParts). IsClockOf p.seen cut) (sym c.self.view_is) clock)
    c.self.inside.facts c.self.invariant.facts_are c.in-Some.drop.bound c.in-Some.drop.fact
    (subst (λ (s : Specification). IsDueDrop s.bounds (true_facts c.self.inside.facts) (λ g. age_by_lasts (lasts_on c.self.inside.facts g)) c.in-Some.drop.bound c.in-Some.drop.fact) is c.in-Some.ensures.due)
    c.next.result
    (subst (λ (p : SessionParts). IsNextWith p cut (Drop c.in-Some.drop.bound) (drop_args c.in-Some.drop.fact) c.next.result) (sym c.self.view_is) with_args))
