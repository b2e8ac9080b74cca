-- The words of the check of a refutation: unit propagation over a trail.
--
--   lits steps                 the literals that the steps take
--   SameLiterals A B           each literal of A is among B, and the other way round
--   Denies old now seen        the new steps take the denials of the literals seen
--   DeniesMore old new l       so they do with one more literal l
--   Clashes A                  a literal and its opposite are among A
--   HasClause cs P             one of the clauses cs has the property P
--   RestBetween cs steps a b   the clauses from place a on up to b are at rest
--   AreAtRest cs steps         all clauses are at rest
--   FindsAmong cs n steps a b s  the status s is right of the clauses from place a on up to b
--   Finds cs n steps s         the status s is right of all clauses
--   Spreads cs old new         the new steps begin with the old ones, and refute no more
use Rattle.std.specs.Prelude.{◌≡◌, ◌<◌, ◌≤◌, ◌++◌, ℕ, List, [], ◌∷◌, true, Some, slice_get, map}
use Rattle.ipa_sat.specs.declared.cnf.Lit.{Lit}
use Rattle.ipa_sat.specs.declared.trail.Taken.{Taken}
use Rattle.ipa_sat.specs.declared.check.Found.{Found}
use Rattle.ipa_sat.specs.declared.check.Found.TheVariants.{Empty, Takes, Rests}
use Rattle.ipa_sat.specs.Trail.{Course}
use Rattle.ipa_sat.specs.Refutation.{has, is_denied, denials, Refutes}
use Rattle.ipa_sat.specs.Looking.{are_false, IsUnit, AtRest}

-- the literals that the steps take
abbrev pub lits : List Taken → List Lit
lits steps = map (λ s. s.lit) steps

-- two lists have the same literals
pub record SameLiterals (A B : List Lit) : Type 0 where
  pub to : (l : Lit) → has A l ≡ true → has B l ≡ true
  pub from : (l : Lit) → has B l ≡ true → has A l ≡ true

-- the literals that the steps take are the denials of those that were seen
pub record Denies (old now : Course) (seen : List Lit) : Type 0 where
  pub vars : now.vars ≡ old.vars
  pub same : SameLiterals (lits now.steps) (denials seen)

-- one more literal was denied
pub record DeniesMore (old new : Course) (l : Lit) : Type 0 where
  pub more : (first : Course) (seen : List Lit) → Denies first old seen → Denies first new (seen ++ l ∷ [])

-- a literal and its opposite
pub record Clashes (A : List Lit) : Type 0 where
  pub lit : Lit
  pub there : has A lit ≡ true
  pub denied : is_denied A lit ≡ true

-- a clause with a property
pub record HasClause (cs : List (List Lit)) (P : List Lit → Type 0) : Type 0 where
  pub place : ℕ
  pub clause : List Lit
  pub at : slice_get cs place ≡ Some clause
  pub holds : P clause

-- the clauses of a range of places are at rest
pub record RestBetween (cs : List (List Lit)) (steps : List Taken) (from to : ℕ) : Type 0 where
  pub rests : (k : ℕ) (c : List Lit) → from ≤ k → k < to → slice_get cs k ≡ Some c → AtRest steps c

-- all clauses are at rest
pub record AreAtRest (cs : List (List Lit)) (steps : List Taken) : Type 0 where
  pub rests : (k : ℕ) (c : List Lit) → slice_get cs k ≡ Some c → AtRest steps c

-- what was found among the clauses of a range of places
abbrev pub FindsAmong : List (List Lit) → ℕ → List Taken → ℕ → ℕ → Found → Type 0
FindsAmong cs n steps from to Empty = HasClause cs (λ c. are_false steps c ≡ true)
FindsAmong cs n steps from to (Takes l k) = HasClause cs (λ c. IsUnit n steps c l)
FindsAmong cs n steps from to Rests = RestBetween cs steps from to

-- what was found among all clauses
abbrev pub Finds : List (List Lit) → ℕ → List Taken → Found → Type 0
Finds cs n steps Empty = HasClause cs (λ c. are_false steps c ≡ true)
Finds cs n steps (Takes l k) = HasClause cs (λ c. IsUnit n steps c l)
Finds cs n steps Rests = AreAtRest cs steps

-- the new steps refute only what the old ones did, and have their literals
pub record Spreads (cs : List (List Lit)) (old new : Course) : Type 0 where
  pub vars : new.vars ≡ old.vars
  pub back : Refutes cs (lits new.steps) → Refutes cs (lits old.steps)
  pub on : (l : Lit) → has (lits old.steps) l ≡ true → has (lits new.steps) l ≡ true
