-- Facts that fit a pattern, and truths that are told of facts.
--
--   fits_at x a             the element is the one in the place, or the place has any
--   fits p f                the fact has the pattern's predicate and its elements in their places
--   leads last x a rest     the element comes before the one in the place, or is it and the rest follows; `last` where
--                           the place has any
--   is_within last p f      the fact comes before those that begin as the pattern does, or, if `last`, is one of them
--   concerns s t f          the fact fits the pattern of one of the transaction's effects
--   IsTold test fs bs i     at the place stands whether the fact there passes the test
--   TellsAnew test fs these old new   what is told stays told, and the places of these facts are told
--   truth_in w start table f   the truth of a fact by a table of rows, over the facts of the base
use Rattle.std.specs.Prelude.{◌≡◌, ℕ, ◌<◌, Bool, true, false, ◌==◌, ◌&&◌, ◌||◌, nat_lt, List, length, slice_index, slice_index_or, Option, Some, None}
use Rattle.std.specs.List.{list_any}
use Rattle.std.specs.Option.{option_map_or}
use Rattle.ipa_spec.specs.Actions.{effects_of}
use Rattle.ipa_spec.specs.declared.specification.Specification.{Specification}
use Rattle.ipa_logic.specs.Facts.{has}
use Rattle.ipa_logic.specs.declared.facts.Fact.{Fact}
use Rattle.ipa_history.specs.declared.history.Tx.{Tx}
use Rattle.ipa_sets.specs.Keys.{key_of}
use Rattle.ipa_sets.specs.Lasts.{value_by_lasts}
use Rattle.ipa_sets.specs.Rows.{RowTable, lasts_in}
use Rattle.ipa_sets.specs.declared.patterns.Pattern.{Pattern}

-- the element is the one in the place, or the place has any
abbrev pub fits_at : Option ℕ → ℕ → Bool
fits_at x a = option_map_or (λ n. n == a) x true

-- the fact has the pattern's predicate, and its elements in their places
abbrev pub fits : Pattern → Fact → Bool
fits p f = (p.predicate == f.predicate) && (fits_at (slice_index_or p.places 0 None) (slice_index f.args 0)
    && (fits_at (slice_index_or p.places 1 None) (slice_index f.args 1)
    && fits_at (slice_index_or p.places 2 None) (slice_index f.args 2)))

-- the element comes before the one in the place, or is it and the rest follows; `last` where the place has any
abbrev pub leads : Bool → Option ℕ → ℕ → Bool → Bool
leads last x a rest = option_map_or (λ n. nat_lt a n || ((a == n) && rest)) x last

-- the fact comes before those that begin as the pattern does, or, if `last`, is one of them
abbrev pub is_within : Bool → Pattern → Fact → Bool
is_within last p f = leads last (Some p.predicate) f.predicate
    (leads last (slice_index_or p.places 0 None) (slice_index f.args 0)
    (leads last (slice_index_or p.places 1 None) (slice_index f.args 1)
    (leads last (slice_index_or p.places 2 None) (slice_index f.args 2) last)))

-- the fact fits the pattern of one of the transaction's effects
abbrev pub concerns : Specification → Tx → Fact → Bool
concerns s t f = list_any (λ e. fits (key_of s t.args e).pattern f) (effects_of s t.action)

-- at the place stands whether the fact there passes the test
pub record IsTold (test : Fact → Bool) (facts : List Fact) (truths : List Bool) (i : ℕ) : Type 0 where
  pub at : (d : Fact) → i < length facts → slice_index_or truths i false ≡ test (slice_index_or facts i d)

-- what is told stays told, and the places of these facts are told
pub record TellsAnew (test : Fact → Bool) (facts : List Fact) (these : Fact → Bool) (old new : List Bool) : Type 0 where
  pub long : length new ≡ length old
  pub kept : (i : ℕ) → IsTold test facts old i → IsTold test facts new i
  pub told : (i : ℕ) (d : Fact) → i < length facts → these (slice_index_or facts i d) ≡ true →
      IsTold test facts new i

-- the truth of a fact by a table of rows, over the facts of the base
unfoldable pub truth_in : List Bool → List Fact → RowTable → Fact → Bool
truth_in adds_win start table f =
    value_by_lasts (slice_index_or adds_win f.predicate false) (has start f) (lasts_in table f)
