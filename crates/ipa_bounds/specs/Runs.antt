-- Walks through facts in order of their keys.
--
--   has_key b key f              the fact has this key
--   with_key b key s             the facts that have it
--   count_before b last count f  the number of facts before f that have its key, where the last of them and the number
--                                with its key are given
--   IsHighest b seen last        no fact seen has a key after that of the last
--   IsCounted b seen last count over   no key seen is over the bound, and the last one has this count; or `over` has the
--                                least key that is
--   IsRun b seen last count over what is known after these facts
--   IsFound b state found        the least key over the bound is found, unless the keys fall
use Rattle.std.specs.Prelude.{◌≡◌, ℕ, ◌<◌, ◌≤◌, Bool, true, false, List, [], length, filter, Option, Some, None, MatchOption}
use Rattle.std.specs.Ordering.{nat_cmp, is_lt, is_eq, match_ordering}
use Rattle.std.specs.Cmp.Lexicographic.{slice_cmp}
use Rattle.ipa_spec.specs.declared.bounds.Bound.{Bound}
use Rattle.ipa_logic.specs.Groups.{key_of}
use Rattle.ipa_logic.specs.DueDrops.{IsWithin, IsLeastOver}
use Rattle.ipa_logic.specs.declared.facts.Fact.{Fact}
use Rattle.ipa_bounds.specs.declared.runs.Found.{Found}
use Rattle.ipa_bounds.specs.declared.runs.Found.TheVariants.{InOrder, OutOfOrder}

-- the fact has this key
abbrev pub has_key : Bound → List ℕ → Fact → Bool
has_key b key f = is_eq (slice_cmp nat_cmp (key_of b f) key)

-- the facts that have this key
abbrev pub with_key : Bound → List ℕ → List Fact → List Fact
with_key b key s = filter (has_key b key) s

-- the number of facts before f that have its key, or `None` where its key is below that of the last
abbrev pub count_before : Bound → Option Fact → ℕ → Fact → Option ℕ
count_before b None count f = Some 0
count_before b (Some last) count f =
    match_ordering (slice_cmp nat_cmp (key_of b f) (key_of b last)) None (Some count) (Some 0)

-- no fact seen has a key after that of the last
pub record IsHighest (b : Bound) (seen : List Fact) (last : Fact) : Type 0 where
  pub highest : (key : List ℕ) → is_lt (slice_cmp nat_cmp (key_of b last) key) ≡ true → length (with_key b key seen) ≡ 0

-- no key seen is over the bound, and the last one has this count
pub record IsWithinSeen (b : Bound) (seen : List Fact) (last : Fact) (count : ℕ) : Type 0 where
  pub groups : (key : List ℕ) → length (with_key b key seen) ≤ b.most
  pub counted : count ≡ length (with_key b (key_of b last) seen)

-- the fact has the least key seen that is over the bound, and the last fact no lesser one
pub record IsOverSeen (b : Bound) (seen : List Fact) (last over : Fact) : Type 0 where
  pub exceeds : b.most < length (with_key b (key_of b over) seen)
  pub least : (key : List ℕ) → is_lt (slice_cmp nat_cmp key (key_of b over)) ≡ true →
      length (with_key b key seen) ≤ b.most
  pub passed : is_lt (slice_cmp nat_cmp (key_of b last) (key_of b over)) ≡ false

-- no key seen is over the bound, and the last one has this count; or `over` has the least key that is
abbrev pub IsCounted : Bound → List Fact → Fact → ℕ → Option Fact → Type 0
IsCounted b seen last count None = IsWithinSeen b seen last count
IsCounted b seen last count (Some over) = IsOverSeen b seen last over

-- what is known after these facts
abbrev pub IsRun : Bound → List Fact → Option Fact → ℕ → Option Fact → Type 0
IsRun b seen None count over = (seen ≡ []) × (over ≡ None)
IsRun b seen (Some last) count over = IsHighest b seen last × IsCounted b seen last count over

-- the least key over the bound is found, unless the keys fall
abbrev pub IsFound : Bound → List Fact → Found → Type 0
IsFound b state (InOrder over) = MatchOption over (IsWithin b state) (λ f. IsLeastOver b (key_of b f) state)
IsFound b state OutOfOrder = Unit {0}
