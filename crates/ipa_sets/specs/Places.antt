-- Places in lists of facts in order.
--
--   IsSplit q xs i        the facts before place i pass the test, and those from it on do not
--   is_at xs i f          the fact stands at the place
--   is_passed p after g   the fact g comes before each fact of predicate p above `after`
--   next_at p x           the fact, if there is one and it is of predicate p
use Rattle.std.specs.Prelude.{◌≡◌, ℕ, ◌<◌, ◌≤◌, Bool, true, false, not, ◌==◌, nat_lt, List, length, slice_get, slice_index_or, Option, Some, None, if◌then◌else◌}
use Rattle.std.specs.Option.{option_map_or}
use Rattle.std.specs.Ordering.{is_eq}
use Rattle.ipa_logic.specs.Facts.{fact_cmp}
use Rattle.ipa_logic.specs.Views.{is_above}
use Rattle.ipa_logic.specs.declared.facts.Fact.{Fact}

-- the facts before the place pass the test, and those from it on do not
pub record IsSplit (q : Fact → Bool) (xs : List Fact) (i : ℕ) : Type 0 where
  pub within : i ≤ length xs
  pub before : (k : ℕ) (d : Fact) → k < i → q (slice_index_or xs k d) ≡ true
  pub after : (k : ℕ) (d : Fact) → i ≤ k → k < length xs → q (slice_index_or xs k d) ≡ false

-- the fact stands at the place
abbrev pub is_at : List Fact → ℕ → Fact → Bool
is_at xs i f = option_map_or (λ g. is_eq (fact_cmp g f)) (slice_get xs i) false

-- the fact comes before each fact of the predicate above `after`
abbrev pub is_passed : ℕ → Option Fact → Fact → Bool
is_passed p after g = if g.predicate == p then not (is_above after g) else nat_lt g.predicate p

-- the fact, if there is one and it is of the predicate
abbrev pub next_at : ℕ → Option Fact → Option Fact
next_at p None = None
next_at p (Some g) = if g.predicate == p then Some g else None
