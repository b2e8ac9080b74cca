-- How two lists of facts compare.
--
--   AreTrueIn s t        each fact of the second is one of the first
--   AreIn p s t          each fact of the first that is of the predicate is one of the second
--   AreInUpTo n s t      so is each of a predicate below n
use Rattle.std.specs.Prelude.{◌≡◌, ℕ, ◌<◌, true, List}
use Rattle.ipa_logic.specs.Facts.{has}
use Rattle.ipa_logic.specs.declared.facts.Fact.{Fact}

-- each fact of the second is one of the first
pub record AreTrueIn (s t : List Fact) : Type 0 where
  pub each : (f : Fact) → has t f ≡ true → has s f ≡ true

-- each fact of the first that is of the predicate is one of the second
pub record AreIn (p : ℕ) (s t : List Fact) : Type 0 where
  pub each : (f : Fact) → f.predicate ≡ p → has s f ≡ true → has t f ≡ true

-- so is each of a predicate below n
pub record AreInUpTo (n : ℕ) (s t : List Fact) : Type 0 where
  pub each : (f : Fact) → f.predicate < n → has s f ≡ true → has t f ≡ true
