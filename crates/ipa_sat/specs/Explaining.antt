-- The words of the explanation of a conflict: how a false clause becomes a learned one.
--
--   HasReason cs before s     the step s was decided, or is the open literal of a clause of cs
--   Gathers from but old new  the literals of `from` but one have come to the literals old
--   Resolves c r l new        new is the resolvent of the clauses c and r on the literal l of r
--   Explains cs old now c     the clause c follows by units, and is false under what is left of the steps
--   IsLearned cs old now d    the steps were cut at a decision, and what was learned, d, forces a literal then
--   touches c steps           one of the steps makes a literal of the clause c false
--   LeavesAlone steps c k     the steps from place k on make no literal of c false
--   IsFree steps c k          so do those from the decision at place k on
--   CutsTo k old now          steps from place k on were taken back
--   Jumps d old now           what was learned, d, is so still, with fewer steps
use Rattle.std.specs.Prelude.{◌≡◌, ◌<◌, ◌≤◌, ◌++◌, ◌||◌, ℕ, List, ◌∷◌, Bool, true, false, Some, None, slice_get, drop, take, length}
use Rattle.std.specs.List.{list_all, list_any}
use Rattle.ipa_sat.specs.declared.cnf.Lit.{Lit}
use Rattle.ipa_sat.specs.declared.trail.Taken.{Taken}
use Rattle.ipa_sat.specs.declared.explain.Learned.{Learned}
use Rattle.ipa_sat.specs.Trail.{Course, known, IsNew, EachStep}
use Rattle.ipa_sat.specs.Refutation.{has, is_same, opposite, FollowsByUnits}
use Rattle.ipa_sat.specs.Looking.{are_false, are_false_but}

-- the clause that a step follows from: its other literals were false before the step
pub record IsReason (cs : List (List Lit)) (before : List Taken) (s : Taken) : Type 0 where
  pub clause : List Lit
  pub place : slice_get cs s.reason ≡ Some clause
  pub rest : are_false_but before s.lit clause ≡ true

-- a step that was not decided follows from its clause
pub record HasReason (cs : List (List Lit)) (before : List Taken) (s : Taken) : Type 0 where
  pub reason : s.decided ≡ false → IsReason cs before s

-- the literals of `from` but one have come to those that were there
pub record Gathers (from : List Lit) (but : Lit) (old new : List Lit) : Type 0 where
  pub kept : (m : Lit) → has old m ≡ true → has new m ≡ true
  pub came : list_all (λ m. is_same but m || has new m) from ≡ true
  pub only : (P : Lit → Bool)
      → list_all P old ≡ true → list_all (λ m. is_same but m || P m) from ≡ true → list_all P new ≡ true

-- the resolvent of two clauses on a literal of the second
pub record Resolves (c reason : List Lit) (l : Lit) (new : List Lit) : Type 0 where
  pub kept : list_all (λ m. is_same (opposite l) m || has new m) c ≡ true
  pub came : list_all (λ m. is_same l m || has new m) reason ≡ true
  pub only : (P : Lit → Bool)
      → list_all (λ m. is_same (opposite l) m || P m) c ≡ true
      → list_all (λ m. is_same l m || P m) reason ≡ true
      → list_all P new ≡ true

-- a clause that follows by unit propagation and is false under what is left of the steps
pub record Explains (cs : List (List Lit)) (old now : Course) (c : List Lit) : Type 0 where
  pub vars : now.vars ≡ old.vars
  pub rest : List Taken
  pub steps : old.steps ≡ now.steps ++ rest
  pub follows : FollowsByUnits cs c
  pub is_broken : are_false now.steps c ≡ true

-- a learned clause: the steps were cut at a decision, and under what is left of them it forces a literal
pub record IsLearned (cs : List (List Lit)) (old now : Course) (learned : Learned) : Type 0 where
  pub vars : now.vars ≡ old.vars
  pub decision : Taken
  pub rest : List Taken
  pub steps : old.steps ≡ now.steps ++ decision ∷ rest
  pub decided : decision.decided ≡ true
  pub follows : FollowsByUnits cs learned.clause.items
  pub in_range : learned.lit.var < now.vars
  pub unknown : known now.steps learned.lit.var ≡ None
  pub forced : are_false_but now.steps learned.lit learned.clause.items ≡ true
  pub new : EachStep (IsNew now.vars) now.steps

-- whether one of the steps makes a literal of the clause false
abbrev pub touches : List Lit → List Taken → Bool
touches c steps = list_any (λ s. has c (opposite s.lit)) steps

-- the steps from a place on leave the clause alone
pub record LeavesAlone (steps : List Taken) (c : List Lit) (place : ℕ) : Type 0 where
  pub within : place ≤ length steps
  pub untouched : touches c (drop place steps) ≡ false

-- from the decision at this place on the steps leave the clause alone
pub record IsFree (steps : List Taken) (c : List Lit) (place : ℕ) : Type 0 where
  pub front : List Taken
  pub decision : Taken
  pub rest : List Taken
  pub parts : steps ≡ front ++ decision ∷ rest
  pub at : length front ≡ place
  pub decided : decision.decided ≡ true
  pub untouched : touches c (decision ∷ rest) ≡ false

-- steps were taken back down to a place
pub record CutsTo (place : ℕ) (old now : Course) : Type 0 where
  pub vars : now.vars ≡ old.vars
  pub same : take place now.steps ≡ take place old.steps

-- what was learned is so still, with fewer steps
pub record Jumps (learned : Learned) (old now : Course) : Type 0 where
  pub kept : (cs : List (List Lit)) (first : Course)
      → IsLearned cs first old learned → IsLearned cs first now learned
