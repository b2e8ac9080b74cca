-- The words of a look at one clause: what the values that steps give make of it.
--
--   is_false steps l         the steps make the literal l false
--   are_false steps c        they make each literal of the clause c false
--   are_false_but steps l c  they make each literal of c false but l
--   IsUnit n steps c l       they leave l open, and make every other literal of c false
--   AtRest steps c           a literal of c is true, or two different ones are open
--   Tells n steps c s        the status s of the clause c is right
--   Sees n steps c o         what is known of a part c of a clause, where o is its open literal, if it has one
--   SeesOn n steps o l next  the same with one more literal l, after which `next` is the open one
--   RestsFrom n steps o l    a clause that has l after such a part is at rest
use Rattle.std.specs.Prelude.{◌≡◌, ◌<◌, ◌++◌, ◌||◌, ℕ, List, [], ◌∷◌, Bool, true, false, not, Option, Some, None}
use Rattle.std.specs.Bool.{beq}
use Rattle.std.specs.List.{list_all}
use Rattle.ipa_sat.specs.declared.cnf.Lit.{Lit}
use Rattle.ipa_sat.specs.declared.trail.Taken.{Taken}
use Rattle.ipa_sat.specs.declared.look.Status.{Status}
use Rattle.ipa_sat.specs.declared.look.Status.TheVariants.{Broken, Forced, Open}
use Rattle.ipa_sat.specs.Trail.{known}
use Rattle.ipa_sat.specs.Refutation.{is_same, has}

-- whether a value, if there is one, is not this sign
abbrev pub falsifies : Option Bool → Bool → Bool
falsifies None p = false
falsifies (Some x) p = not (beq x p)

-- whether a literal is false under the steps' values
abbrev pub is_false : List Taken → Lit → Bool
is_false steps l = falsifies (known steps l.var) l.positive

-- whether each literal is false
abbrev pub are_false : List Taken → List Lit → Bool
are_false steps c = list_all (is_false steps) c

-- whether each literal but this one is false
abbrev pub are_false_but : List Taken → Lit → List Lit → Bool
are_false_but steps l c = list_all (λ m. is_same l m || is_false steps m) c

-- the clause forces an open literal
pub record IsUnit (n : ℕ) (steps : List Taken) (c : List Lit) (l : Lit) : Type 0 where
  pub in_range : l.var < n
  pub unknown : known steps l.var ≡ None
  pub rest : are_false_but steps l c ≡ true

-- the clause asks for nothing: a literal of it is true, or two different ones are open
pub record AtRest (steps : List Taken) (c : List Lit) : Type 0 where
  pub unbroken : are_false steps c ≡ true → ⊥
  pub forces : (l : Lit) → are_false_but steps l c ≡ true → known steps l.var ≡ Some l.positive

-- the status of a clause is right; a clause at rest has a hint, of which nothing is claimed
abbrev pub Tells : ℕ → List Taken → List Lit → Status → Type 0
Tells n steps c Broken = are_false steps c ≡ true
Tells n steps c (Forced l) = IsUnit n steps c l
Tells n steps c (Open hint) = AtRest steps c

-- a part of a clause with one open literal
pub record HasOpen (n : ℕ) (steps : List Taken) (c : List Lit) (l : Lit) : Type 0 where
  pub takes : IsUnit n steps c l
  pub among : has c l ≡ true

-- what is known of a part of a clause with this only open literal, or with none
abbrev pub Sees : ℕ → List Taken → List Lit → Option Lit → Type 0
Sees n steps c None = are_false steps c ≡ true
Sees n steps c (Some l) = HasOpen n steps c l

-- one more literal was seen
pub record SeesOn (n : ℕ) (steps : List Taken) (only : Option Lit) (l : Lit) (next : Option Lit) : Type 0 where
  pub on : (c : List Lit) → Sees n steps c only → Sees n steps (c ++ l ∷ []) next

-- one more literal puts a clause at rest
pub record RestsFrom (n : ℕ) (steps : List Taken) (only : Option Lit) (l : Lit) : Type 0 where
  pub rests : (c rest : List Lit) → Sees n steps c only → AtRest steps (c ++ l ∷ rest)
