-- The states in which a drop breaks an instance are those that answer what is asked of them.
--
--   drop-asked                to hold the fact, with each literal false after the drop, is to answer what the drop asks
--   of-facts-drop             what is asked is of facts over the universe
--   break-meets, meets-break  such a state meets the demands, and one that meets them is such a state
use Rattle.std.proofs.Common.{◌≡◌, ◌↔◌, ℕ, Bool, true, false, not, List, [], Option, Some, ap, slice_get}
use Rattle.std.specs.Option.{option_map_or}
use Rattle.ipa_spec.specs.Actions.{effects_of, sorts_of, sorts_of_vars, drop_effect, drop_effects}
use Rattle.ipa_spec.specs.Fits.{IsFit, LiteralFits, EffectFits}
use Rattle.ipa_spec.specs.declared.specification.Specification.{Specification}
use Rattle.ipa_spec.specs.declared.bounds.Bound.{Bound}
use Rattle.ipa_spec.specs.declared.clauses.Clause.{Clause}
use Rattle.ipa_spec.specs.declared.clauses.Literal.{Literal}
use Rattle.ipa_spec.specs.declared.clauses.Literal.TheVariants.{Holds, Fails, Same, Differ}
use Rattle.ipa_spec.specs.declared.operations.Action.{Action}
use Rattle.ipa_spec.specs.declared.operations.Action.TheVariants.{Drop}
use Rattle.ipa_logic.specs.Facts.{Universe, IsUniverse, IsFact, has}
use Rattle.ipa_logic.specs.Truth.{IsOver, fact_of, literal_true, instance_true}
use Rattle.ipa_logic.specs.Touches.{touch_of, plain_application}
use Rattle.ipa_logic.specs.Acceptance.{IsDropBreakAt, drop_fact}
use Rattle.ipa_logic.specs.FitLaws.{IsFact-fact_of, IsFact-fact_given, IsWhole-drop_effect}
use Rattle.ipa_logic.specs.declared.facts.Fact.{Fact}
use Rattle.ipa_logic.specs.declared.facts.Touch.{Touch}
use Rattle.ipa_logic.specs.declared.facts.Touch.TheVariants as touch
use Rattle.ipa_models.specs.Models.{Meets}
use Rattle.ipa_models.specs.declared.demands.Demand.{Demand}
use Rattle.ipa_pairs.specs.Asked.{Answers, AnswersEach, IsOfFact, AreOfFacts, IsGathered, asked_before, asked_after, asks_of_drop}
use Rattle.ipa_pairs.specs.declared.asking.Asked.{Asked}
use Rattle.ipa_pairs.proofs.AskedLemmas.{each-map, list_any-none, answers-after}
use Rattle.ipa_pairs.proofs.FittingLemmas.{of-decided}

-- what is asked of a fact before the effects is asked of that fact, if of any
of-before : (s : Specification) (universe : Universe) (f : Fact) (touch : Touch) (holds : Bool) → IsFact s universe f → IsOfFact s universe (asked_before f touch holds)
of-before s universe f touch.Adds holds is = of-decided s universe holds
of-before s universe f touch.Removes holds is = of-decided s universe (not holds)
of-before s universe f touch.Nothing holds is = is

of-after : (s : Specification) (universe : Universe) (action : Action) (args sorts values : List ℕ) (l : Literal) → IsUniverse s universe → LiteralFits s sorts l → IsOver universe sorts values → IsOfFact s universe (asked_after s action args values l)
of-after s universe action args sorts values (Holds a) large fits over = of-before s universe (fact_of s values a) (touch_of s action args (fact_of s values a)) false (IsFact-fact_of s universe sorts values a large fits over)
of-after s universe action args sorts values (Fails a) large fits over = of-before s universe (fact_of s values a) (touch_of s action args (fact_of s values a)) true (IsFact-fact_of s universe sorts values a large fits over)
of-after s universe action args sorts values (Same v w) large fits over = of-decided s universe _
of-after s universe action args sorts values (Differ v w) large fits over = of-decided s universe _

module _ (s : Specification) (n : ℕ) (b : Bound) (c : Clause) (universe : Universe) (args values : List ℕ) where
  abbrev asks : List Asked
  asks = asks_of_drop s n b args values c.literals

  abbrev asked : Literal → Asked
  asked l = asked_after s (Drop n) args values l

  -- to hold the fact, with each literal false after the drop, is to answer what the drop asks
  pub drop-asked : (t : Fact → Bool) → AnswersEach t asks ↔ ((t (drop_fact s b args) ≡ true) × (instance_true s (plain_application s (Drop n) args t) values c ≡ false))
  drop-asked t = (
    (λ h. (
      h.0,
      (list_any-none (literal_true s (plain_application s (Drop n) args t) values) c.literals).1
          (λ k l e. (answers-after t s (Drop n) args values l).0 ((each-map (Answers t) asked c.literals).0 h.1 k l e)),
    )),
    (λ h. (
      h.0,
      (each-map (Answers t) asked c.literals).1
          (λ k l e. (answers-after t s (Drop n) args values l).1 ((list_any-none (literal_true s (plain_application s (Drop n) args t) values) c.literals).0 h.1 k l e)),
    )),
  )

  -- what is asked is of facts over the universe
  pub of-facts-drop : IsFit s → IsUniverse s universe → (k : ℕ) → slice_get s.bounds n ≡ Some b → slice_get s.clauses k ≡ Some c → IsOver universe (sorts_of s (Drop n)) args → IsOver universe (sorts_of_vars c.vars) values → AreOfFacts s universe asks
  of-facts-drop fit large k declared g over over_values = (
    IsFact-fact_given s universe (sorts_of s (Drop n)) args (drop_effect s.predicates b) fits large (IsWhole-drop_effect s (sorts_of s (Drop n)) b fits) over,
    (each-map (IsOfFact s universe) asked c.literals).1
        (λ j l e. of-after s universe (Drop n) args (sorts_of_vars c.vars) values l large (fit.literals k j c l g e) over_values),
  )
    where
      first : slice_get (effects_of s (Drop n)) 0 ≡ Some (drop_effect s.predicates b)
      first = ap (λ (o : Option Bound). slice_get (option_map_or (drop_effects s.predicates) o []) 0) declared

      fits : EffectFits s (sorts_of s (Drop n)) (drop_effect s.predicates b)
      fits = fit.effects (Drop n) 0 (drop_effect s.predicates b) first

  module _ (demands : List Demand) (gathered : IsGathered asks demands) where
    pub break-meets : (before : List Fact) → IsDropBreakAt s b n c universe args values before → Meets s universe demands before
    break-meets before h = record {
      state = h.droppable.state;
      keeps = h.droppable.keeps;
      demanded = (gathered.exactly (has before)).0 ((drop-asked (has before)).1 (h.droppable.holds, h.broken));
    }

    pub meets-break : slice_get s.bounds n ≡ Some b → IsUniverse s universe → IsOver universe (sorts_of s (Drop n)) args → IsOver universe (sorts_of_vars c.vars) values → (before : List Fact) → Meets s universe demands before → IsDropBreakAt s b n c universe args values before
    meets-break declared large over over_values before h =
        let parts = (drop-asked (has before)).0 ((gathered.exactly (has before)).1 h.demanded) in
        record {
          droppable = record { declared = declared; sizes = large; arguments = over; state = h.state; keeps = h.keeps; holds = parts.0 };
          clause_values = over_values;
          broken = parts.1;
        }
