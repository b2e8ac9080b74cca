-- The words of refutations: what leads by unit propagation to an empty clause.
--
--   opposite l           the opposite of the literal l
--   is_same l m          the literals l and m are the same
--   has A l              l is among the literals A
--   is_denied A l        the opposite of l is
--   is_or_denied A l m   m is l, or its opposite is among A
--   Refutes cs A         from the literals A, unit propagation over the clauses cs leads to an empty clause
--   denials c            the literals that deny the clause c
--   FollowsByUnits cs c  the denial of c leads to an empty clause over cs
--   clauses_of steps     the clauses that the steps of a refutation are
--   AreDerived cs ss     each clause of ss follows so from cs and the earlier ones
--   EndsEmpty ss         the last of the clauses ss has no literals
--   IsRefutation cs ss   both
use Rattle.std.specs.Prelude.{◌≡◌, ◌++◌, ◌||◌, ◌&&◌, ◌==◌, ℕ, List, [], ◌∷◌, Bool, true, not, Some, slice_get, map}
use Rattle.std.specs.Bool.{beq}
use Rattle.std.specs.List.{list_all, list_any}
use Rattle.ipa_sat.specs.declared.cnf.Lit.{Lit}
use Rattle.ipa_sat.specs.declared.refutation.Step.{Step}

-- the opposite of a literal
abbrev pub opposite : Lit → Lit
opposite l = record { var = l.var; positive = not l.positive }

-- whether two literals are the same
abbrev pub is_same : Lit → Lit → Bool
is_same l m = (l.var == m.var) && beq l.positive m.positive

-- whether a literal is among others
abbrev pub has : List Lit → Lit → Bool
has A l = list_any (λ m. is_same m l) A

-- whether a literal is false where others are true
abbrev pub is_denied : List Lit → Lit → Bool
is_denied A l = has A (opposite l)

-- whether a literal is this one, or false where others are true
abbrev pub is_or_denied : List Lit → Lit → Lit → Bool
is_or_denied A l m = is_same l m || is_denied A m

-- unit propagation leads to an empty clause: two opposite literals are true, or each literal of a clause is
-- false, or a clause whose literals but one are false makes that one true, and so on. A literal counts once.
pub data Refutes (cs : List (List Lit)) : List Lit → Type 0 where
  clash : (A : List Lit) (l : Lit) → has A l ≡ true → is_denied A l ≡ true → Refutes cs A
  broken : (A : List Lit) (k : ℕ) (c : List Lit)
      → slice_get cs k ≡ Some c → list_all (is_denied A) c ≡ true → Refutes cs A
  forced : (A : List Lit) (k : ℕ) (c : List Lit) (l : Lit)
      → slice_get cs k ≡ Some c → list_all (is_or_denied A l) c ≡ true → Refutes cs (l ∷ A) → Refutes cs A

-- the literals that deny a clause
abbrev pub denials : List Lit → List Lit
denials c = map opposite c

-- the denial of a clause leads to an empty clause
abbrev pub FollowsByUnits : List (List Lit) → List Lit → Type 0
FollowsByUnits cs c = Refutes cs (denials c)

-- the clauses of a list of steps
abbrev pub clauses_of : List Step → List (List Lit)
clauses_of steps = map (λ s. s.lits) steps

-- each step follows from the clauses and the earlier steps
pub record AreDerived (cs steps : List (List Lit)) : Type 0 where
  pub each : (before : List (List Lit)) (c : List Lit) (after : List (List Lit))
      → steps ≡ before ++ c ∷ after → FollowsByUnits (cs ++ before) c

-- the last step has no literals
pub record EndsEmpty (steps : List (List Lit)) : Type 0 where
  pub front : List (List Lit)
  pub last : steps ≡ front ++ [] ∷ []

-- each step follows from the clauses and the earlier steps, and the last has no literals
pub record IsRefutation (cs steps : List (List Lit)) : Type 0 where
  pub derived : AreDerived cs steps
  pub ends : EndsEmpty steps
