-- The range of a state that has the facts of one predicate.
--
--   IsStart p after lo   no fact of predicate p above `after` is before this start, and the start is not past the predicate
--   IsEnd p hi           this end is past the facts of predicate p
use Rattle.std.specs.Prelude.{◌≡◌, ℕ, ◌<◌, ◌≤◌, true, Option}
use Rattle.std.specs.BTreeMap.Range.{is_from_start}
use Rattle.std.specs.Range.Bound.{MatchBound}
use Rattle.std.specs.declared.ops.Bound.{Bound}
use Rattle.ipa_logic.specs.Facts.{fact_cmp}
use Rattle.ipa_logic.specs.Views.{is_above}
use Rattle.ipa_logic.specs.declared.facts.Fact.{Fact}

-- no fact of predicate p above `after` is before this start, and the start is not past the predicate
pub record IsStart (p : ℕ) (after : Option Fact) (lo : Bound Fact) : Type 0 where
  pub early : (f : Fact) → f.predicate ≡ p → is_above after f ≡ true → is_from_start fact_cmp lo f ≡ true
  pub within : MatchBound lo (λ a. a.predicate ≤ p) (λ a. a.predicate ≤ p) (Unit {0})

-- this end is past the facts of predicate p
pub record IsEnd (p : ℕ) (hi : Bound Fact) : Type 0 where
  pub past : MatchBound hi (λ b. p < b.predicate) (λ b. p < b.predicate) (Unit {0})
