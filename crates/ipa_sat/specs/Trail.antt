-- The words of the trail of a search: the literals that are taken to be true, in order.
--
--   Course               what a trail is seen as: the number of variables, and the steps
--   denial v             the step that denies variable v at will
--   implied l k          the step that takes a literal l, which follows from the clause at place k
--   known steps v        the value that the steps give to variable v, if they give one
--   EachStep P steps     P holds of what stands before each step, and of the step
--   IsNew n before s     the step s is of one of n variables, and of none of the steps before
--   IsCourse steps vs    each step is new, and vs are the values that the steps give
--   AgreesWith steps b   the assignment b has each value that the steps give
use Rattle.std.specs.Prelude.{◌≡◌, ◌<◌, ◌^◌, ◌==◌, ◌++◌, ℕ, List, [], ◌∷◌, Bool, true, false, Option, Some, None, length, slice_index_or, if◌then◌else◌}
use Rattle.ipa_sat.specs.declared.cnf.Lit.{Lit}
use Rattle.ipa_sat.specs.declared.trail.Taken.{Taken}
use Rattle.ipa_sat.specs.Formula.{value}

-- the number of variables, and the steps in the order in which they were taken
pub record Course : Type 0 where
  pub vars : ℕ
  pub steps : List Taken

-- the step that denies a variable at will
abbrev pub denial : ℕ → Taken
denial v = record { lit = record { var = v; positive = false }; decided = true; reason = 0 }

-- the step that takes a literal which follows from the clause at a place
abbrev pub implied : Lit → ℕ → Taken
implied l k = record { lit = l; decided = false; reason = k }

-- the value that the steps give to a variable, if they give one
abbrev pub known : List Taken → ℕ → Option Bool
known [] v = None
known (s ∷ steps) v = if s.lit.var == v then Some s.lit.positive else known steps v

-- a fact of what stands before each step, and of the step
pub record EachStep (P : List Taken → Taken → Type 0) (steps : List Taken) : Type 0 where
  pub each : (before : List Taken) (s : Taken) (after : List Taken) → steps ≡ before ++ s ∷ after → P before s

-- a step of one of n variables, of which no step before it is
pub record IsNew (n : ℕ) (before : List Taken) (s : Taken) : Type 0 where
  pub in_range : s.lit.var < n
  pub fresh : known before s.lit.var ≡ None

-- each step is new, and the values are those that the steps give; variables are numbers of 32 bits
pub record IsCourse (steps : List Taken) (values : List (Option Bool)) : Type 0 where
  pub small : length values < 2 ^ 32
  pub new : EachStep (IsNew (length values)) steps
  pub cached : (v : ℕ) → slice_index_or values v None ≡ known steps v

-- the assignment has each value that the steps give
pub record AgreesWith (steps : List Taken) (b : List Bool) : Type 0 where
  pub at : (v : ℕ) (x : Bool) → known steps v ≡ Some x → value b v ≡ x
