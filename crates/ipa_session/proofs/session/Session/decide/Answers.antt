use Rattle.std.proofs.Common.{◌≡◌, sym, ◌∙◌, subst}
use Rattle.ipa_spec.specs.Fits.{IsFit}
use Rattle.ipa_spec.specs.declared.specification.Specification.{Specification}
use Rattle.ipa_logic.specs.declared.facts.Request.{Request}
use Rattle.ipa_logic.specs.declared.facts.Request.TheVariants.{Show}
use Rattle.ipa_history.specs.Clocks.{IsClockOf}
use Rattle.ipa_session.specs.Sessions.{SessionParts, IsDecision}
use Rattle.ipa_session.specs.declared.decision.Decision.TheVariants.{Shown}
use Rattle.ipa_session.proofs.DecisionLemmas.{decision_show}
use Rattle.ipa_session.proofs.session.Session.decide.Goals as goal

pub returns-in_ok-shown-in-Show : goal.returns-in_ok-shown-in-Show
returns-in_ok-shown-in-Show c cut clock =
    let here : SessionParts = record { setting = c.self.inside.setting; origin = c.self.inside.origin; seen = c.self.inside.seen; spare = c.self.inside.spare } in
    let is : c.spec.result.now ≡ here.setting.spec = c.spec.ensures.spec ∙ c.accepted.ensures.spec in
    subst (λ (r : Request). IsDecision c.args.self.now cut r (Shown c.in_ok-shown-in-Show.shown)) (sym c.in-Show.is)
    (subst (λ (p : SessionParts). IsDecision p cut (Show c.in-Show.predicate c.in-Show.places) (Shown c.in_ok-shown-in-Show.shown)) c.self.view_is
    (decision_show here (subst (λ (s : Specification). IsFit s) is c.spec_is_fit.ensures.fit) c.accepted.ensures.setting
    c.self.invariant.session cut (subst (λ (p : SessionParts). IsClockOf p.seen cut) (sym c.self.view_is) clock)
    c.self.inside.facts c.self.invariant.facts_are c.in-Show.predicate c.in-Show.places
    c.in_ok-shown-in-Show.shown c.in_ok-shown-in-Show.ensures))
