use Rattle.std.proofs.Common.{◌≡◌, sym, ◌∙◌, subst}
use Rattle.ipa_spec.specs.Fits.{IsFit}
use Rattle.ipa_spec.specs.declared.specification.Specification.{Specification}
use Rattle.ipa_logic.specs.Groups.{Within}
use Rattle.ipa_history.specs.Clocks.{IsClockOf}
use Rattle.ipa_sets.specs.FactSets.{true_facts}
use Rattle.ipa_session.specs.Sessions.{SessionParts, IsCalmAt}
use Rattle.ipa_session.proofs.CutLemmas.{calm_at, within_at}
use Rattle.ipa_session.proofs.session.Session.is_calm.Goals as goal

pub returns : goal.returns
returns c cut clock =
    let here : SessionParts = record { setting = c.self.inside.setting; origin = c.self.inside.origin; seen = c.self.inside.seen; spare = c.self.inside.spare } in
    let is : c.spec-spec.result.now ≡ here.setting.spec = c.spec-spec.ensures.spec ∙ c.accepted.ensures.spec in
    let fit : IsFit here.setting.spec = subst (λ (s : Specification). IsFit s) is c.spec_is_fit.ensures.fit in
    let held : IsClockOf here.seen cut = subst (λ (p : SessionParts). IsClockOf p.seen cut) (sym c.self.view_is) clock in (
      λ yes. subst (λ (p : SessionParts). IsCalmAt p cut) c.self.view_is
          (calm_at here fit c.accepted.ensures.setting c.self.invariant.session cut held c.self.inside.facts c.self.invariant.facts_are
          (subst (λ (s : Specification). Within s.bounds (true_facts c.self.inside.facts)) is (c.within.ensures.0 yes))),
      λ calm. c.within.ensures.1 (subst (λ (s : Specification). Within s.bounds (true_facts c.self.inside.facts)) (sym is)
          (within_at here fit c.accepted.ensures.setting c.self.invariant.session cut held c.self.inside.facts c.self.invariant.facts_are
          (subst (λ (p : SessionParts). IsCalmAt p cut) (sym c.self.view_is) calm))),
    )
