-- Clauses that are kept, by the search of their values from the first on.
use Rattle.std.proofs.Common.{◌≡◌, ℕ, ◌+◌, Bool, List, arith, Some, slice_get}
use Rattle.ipa_spec.specs.Actions.{sorts_of_vars}
use Rattle.ipa_spec.specs.declared.specification.Specification.{Specification}
use Rattle.ipa_spec.specs.declared.clauses.Clause.{Clause}
use Rattle.ipa_logic.specs.Facts.{Universe}
use Rattle.ipa_logic.specs.Truth.{instance_true, IsFirstBroken}
use Rattle.ipa_logic.specs.Values.{PassFrom, IsFirstFrom}
use Rattle.ipa_logic.specs.ClauseLaws.{KeepBelow, keep-next, keep-first}
use Rattle.ipa_logic.specs.declared.facts.Fact.{Fact}

module _ (s : Specification) (universe : Universe) (t : Fact → Bool) where
  -- the test of a clause's values
  abbrev pub passes : Clause → List ℕ → Bool
  passes c v = instance_true s t v c

  -- the clause is kept where all values pass
  pub keep-passed : (n : ℕ) (c : Clause) (values : List ℕ) → slice_get s.clauses n ≡ Some c → KeepBelow s universe t n → PassFrom (passes c) universe (sorts_of_vars c.vars) values 0 → KeepBelow s universe t (n + 1)
  keep-passed n c values e b f = keep-next s universe t n c e b (record { instances = λ v o. f.passes v o (λ j j0. absurd (omega arith)) })

  -- and its first values that do not pass are the first broken instance
  pub first-failed : (n : ℕ) (c : Clause) (values r : List ℕ) → slice_get s.clauses n ≡ Some c → KeepBelow s universe t n → IsFirstFrom (passes c) universe (sorts_of_vars c.vars) values 0 r → IsFirstBroken s universe t n r
  first-failed n c values r e b f = keep-first s universe t n c r e b f.over f.fails (λ v o w. f.earlier v o (λ j j0. absurd (omega arith)) w)
