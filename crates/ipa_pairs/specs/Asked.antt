-- What is asked of a state so that it can stand after an action, or before a drop.
--
--   Answers t asked                the facts that t tells answer what is asked
--   AnswersEach t asks             they answer each of it
--   AreOfFacts s universe asks     what is asked is of facts over the universe
--   IsGathered asks demands        the demands ask for just what is asked
--   asked_for s values l holds     what is asked so that the literal is true, or so that it is false
--   asked_by_touch f touch         what is asked of a fact that an action touches so
--   asked_by_need                  what a need asks of the state after its action
--   asks_of_action s universe action args   all that is asked of a state that the action can have left
--   asked_after                    what is asked before the effects so that the literal is false after them
--   asks_of_drop                   all that is asked of a state in which the drop breaks the instance
--   IsFitting                      a state that keeps all clauses and may stand after the action, with the literal as
--                                  wanted
--   IsFirstFitting                 the first such state
use Rattle.std.specs.Prelude.{◌≡◌, ◌↔◌, ℕ, Bool, true, false, not, List, [], ◌∷◌, ◌++◌, map, Option, None, Some, if◌then◌else◌}
use Rattle.std.specs.List.{AllByRecursion}
use Rattle.ipa_spec.specs.Actions.{needs_of}
use Rattle.ipa_spec.specs.declared.specification.Specification.{Specification}
use Rattle.ipa_spec.specs.declared.clauses.Literal.{Literal}
use Rattle.ipa_spec.specs.declared.clauses.Literal.TheVariants.{Holds, Fails, Same, Differ}
use Rattle.ipa_spec.specs.declared.operations.Action.{Action}
use Rattle.ipa_spec.specs.declared.operations.Action.TheVariants.{Drop}
use Rattle.ipa_spec.specs.declared.bounds.Bound.{Bound}
use Rattle.ipa_sat.specs.Formula.{IsBefore}
use Rattle.ipa_logic.specs.Facts.{Universe, IsFact, IsState, has}
use Rattle.ipa_logic.specs.Truth.{Keeps, fact_of, same_value, literal_true}
use Rattle.ipa_logic.specs.Touches.{touch_of, touches_need}
use Rattle.ipa_logic.specs.Conflicts.{StandsAfter}
use Rattle.ipa_logic.specs.Acceptance.{drop_fact}
use Rattle.ipa_logic.specs.declared.facts.Fact.{Fact}
use Rattle.ipa_logic.specs.declared.facts.Touch.{Touch}
use Rattle.ipa_logic.specs.declared.facts.Touch.TheVariants as touch
use Rattle.ipa_ground.specs.Enumeration.{facts_over}
use Rattle.ipa_models.specs.Models.{AreFacts, AsDemanded, truths}
use Rattle.ipa_models.specs.declared.demands.Demand.{Demand}
use Rattle.ipa_pairs.specs.declared.asking.Asked.{Asked}
use Rattle.ipa_pairs.specs.declared.asking.Asked.TheVariants.{Nothing, Impossible, OfFact}

-- the facts that t tells answer what is asked
abbrev pub Answers : (Fact → Bool) → Asked → Type 0
Answers t Nothing = Unit {0}
Answers t Impossible = ⊥
Answers t (OfFact d) = t d.fact ≡ d.holds

-- they answer each of it
abbrev pub AnswersEach : (Fact → Bool) → List Asked → Type 0
AnswersEach t asks = AllByRecursion (Answers t) asks

-- what is asked is asked of a fact over the universe, if of any
abbrev pub IsOfFact : Specification → Universe → Asked → Type 0
IsOfFact s universe Nothing = Unit {0}
IsOfFact s universe Impossible = Unit {0}
IsOfFact s universe (OfFact d) = IsFact s universe d.fact

-- each of it is
abbrev pub AreOfFacts : Specification → Universe → List Asked → Type 0
AreOfFacts s universe asks = AllByRecursion (IsOfFact s universe) asks

-- the demands ask for just what is asked, and of no other facts
pub record IsGathered (asks : List Asked) (demands : List Demand) : Type 0 where
  pub exactly : (t : Fact → Bool) → AnswersEach t asks ↔ AsDemanded t demands
  pub facts : (s : Specification) (universe : Universe) → AreOfFacts s universe asks → AreFacts s universe demands

-- that a fact is true, or that it is not
abbrev pub of_fact : Fact → Bool → Asked
of_fact f holds = OfFact (record { fact = f; holds = holds })

-- what holds whatever the facts are asks nothing, and what does not is impossible
abbrev pub decided : Bool → Asked
decided holds = if holds then Nothing else Impossible

-- what is asked so that the literal is true, or so that it is false
abbrev pub asked_for : Specification → List ℕ → Literal → Bool → Asked
asked_for s values (Holds a) holds = of_fact (fact_of s values a) holds
asked_for s values (Fails a) holds = of_fact (fact_of s values a) (not holds)
asked_for s values (Same v w) holds =
    decided (if holds then same_value s values v w else not (same_value s values v w))
asked_for s values (Differ v w) holds =
    decided (if not holds then same_value s values v w else not (same_value s values v w))

-- a fact that is added is true after the action, and one that is removed is not
abbrev pub asked_by_touch : Fact → Touch → Asked
asked_by_touch f touch.Adds = of_fact f true
asked_by_touch f touch.Removes = of_fact f false
asked_by_touch f touch.Nothing = Nothing

-- a need that the effects of its action do not touch still holds
abbrev pub asked_by_need : Specification → Action → List ℕ → Literal → Asked
asked_by_need s action args l = if touches_need s action args l then Nothing else asked_for s args l true

-- all that is asked of a state that the action can have left
abbrev pub asks_of_action : Specification → Universe → Action → List ℕ → List Asked
asks_of_action s universe action args =
    map (λ f. asked_by_touch f (touch_of s action args f)) (facts_over s.predicates universe)
    ++ map (asked_by_need s action args) (needs_of s action)

-- where anything is wanted of the literal, it is asked
abbrev pub asks_of_literal : Specification → List ℕ → Literal → Option Bool → List Asked
asks_of_literal s values l None = []
asks_of_literal s values l (Some holds) = asked_for s values l holds ∷ []

-- what is asked of a fact before the effects so that it is true after them, or so that it is not
abbrev pub asked_before : Fact → Touch → Bool → Asked
asked_before f touch.Adds holds = decided holds
asked_before f touch.Removes holds = decided (not holds)
asked_before f touch.Nothing holds = of_fact f holds

-- what is asked before the effects so that the literal is false after them
abbrev pub asked_after : Specification → Action → List ℕ → List ℕ → Literal → Asked
asked_after s action args values (Holds a) =
    asked_before (fact_of s values a) (touch_of s action args (fact_of s values a)) false
asked_after s action args values (Fails a) =
    asked_before (fact_of s values a) (touch_of s action args (fact_of s values a)) true
asked_after s action args values (Same v w) = decided (not (same_value s values v w))
asked_after s action args values (Differ v w) = decided (same_value s values v w)

-- all that is asked of a state in which the drop of the bound breaks the instance: it holds the fact, and each literal
-- is false after the drop
abbrev pub asks_of_drop : Specification → ℕ → Bound → List ℕ → List ℕ → List Literal → List Asked
asks_of_drop s n b args values literals =
    of_fact (drop_fact s b args) true ∷ map (asked_after s (Drop n) args values) literals

-- the literal is as wanted, where anything is wanted of it
abbrev pub IsAsWanted : Specification → List ℕ → Literal → Option Bool → (Fact → Bool) → Type 0
IsAsWanted s values l None t = Unit {0}
IsAsWanted s values l (Some holds) t = literal_true s t values l ≡ holds

-- a state that keeps all clauses, may stand after the action, and in which the literal is as wanted
pub record IsFitting (s : Specification) (universe : Universe) (action : Action) (args values : List ℕ) (l : Literal)
    (wanted : Option Bool) (state : List Fact) : Type 0 where
  pub is_state : IsState s universe state
  pub keeps : Keeps s universe (has state)
  pub stands : StandsAfter s universe action args (has state)
  pub literal : IsAsWanted s values l wanted (has state)

-- the first of them, by the truth of the instance's fact literals and of all facts, false before true
pub record IsFirstFitting (s : Specification) (universe : Universe) (action : Action) (args values : List ℕ)
    (literals : List Literal) (l : Literal) (wanted : Option Bool) (state : List Fact) : Type 0 where
  pub fits : IsFitting s universe action args values l wanted state
  pub first : (other : List Fact) → IsFitting s universe action args values l wanted other →
      IsBefore (truths s universe values literals (has other)) (truths s universe values literals (has state)) → ⊥
