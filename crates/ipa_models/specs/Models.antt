-- The first state over a universe that keeps all clauses and meets some demands.
--
--   AreFacts s universe demands        each demand is of a fact over the universe
--   Meets s universe demands facts     the state keeps all clauses, and each demanded fact is true or not as demanded
--   truths s universe values literals t   the truth of the instance's fact literals in clause order, and then of all
--                                      facts in order
--   IsFirstMeeting                     the first state that meets the demands, by these truths, false before true
--   Setting                            the specification and the universe that models are sought for
use Rattle.std.specs.Prelude.{◌≡◌, ℕ, Bool, List, ◌++◌, map, filter}
use Rattle.std.specs.List.{All}
use Rattle.ipa_spec.specs.declared.specification.Specification.{Specification}
use Rattle.ipa_spec.specs.declared.clauses.Literal.{Literal}
use Rattle.ipa_sat.specs.Formula.{IsBefore}
use Rattle.ipa_logic.specs.Facts.{Universe, IsFact, IsState, has}
use Rattle.ipa_logic.specs.Truth.{Keeps, literal_true}
use Rattle.ipa_logic.specs.Touches.{is_of_fact}
use Rattle.ipa_logic.specs.declared.facts.Fact.{Fact}
use Rattle.ipa_ground.specs.Enumeration.{facts_over}
use Rattle.ipa_models.specs.declared.demands.Demand.{Demand}

-- the specification and the universe that models are sought for
pub record Setting : Type 0 where
  pub spec : Specification
  pub universe : Universe

-- each demand is of a fact over the universe
abbrev pub AreFacts : Specification → Universe → List Demand → Type 0
AreFacts s universe demands = All (λ d. IsFact s universe d.fact) demands

-- each demanded fact is true or not, as it is demanded
abbrev pub AsDemanded : (Fact → Bool) → List Demand → Type 0
AsDemanded t demands = All (λ d. t d.fact ≡ d.holds) demands

-- the state keeps all clauses over the universe and meets the demands
pub record Meets (s : Specification) (universe : Universe) (demands : List Demand) (facts : List Fact) : Type 0 where
  pub state : IsState s universe facts
  pub keeps : Keeps s universe (has facts)
  pub demanded : AsDemanded (has facts) demands

-- the truth of the instance's fact literals, in clause order, and then of all facts over the universe, in order
abbrev pub truths : Specification → Universe → List ℕ → List Literal → (Fact → Bool) → List Bool
truths s universe values literals t =
    map (literal_true s t values) (filter is_of_fact literals) ++ map t (facts_over s.predicates universe)

-- the state meets the demands, and no state before it does: states are ordered by the truth of the instance's fact
-- literals and then of all facts, false before true
pub record IsFirstMeeting (s : Specification) (universe : Universe) (values : List ℕ) (literals : List Literal)
    (demands : List Demand) (state : List Fact) : Type 0 where
  pub meets : Meets s universe demands state
  pub first : (other : List Fact) → Meets s universe demands other →
      IsBefore (truths s universe values literals (has other)) (truths s universe values literals (has state)) → ⊥
