-- Groups of facts, and the bounds on their sizes.
--
--   key_of b f            the elements of the fact in all places but the counted one
--   group_of b key state  the true facts of the bound's predicate with this key, in order
--   Within bounds state   no group of a bound has more facts than the bound allows
use Rattle.std.specs.Prelude.{◌≡◌, ℕ, ◌≤◌, Bool, ◌&&◌, ◌==◌, List, length, filter, slice_get, slice_set, Some}
use Rattle.std.specs.Ordering.{nat_cmp, is_eq}
use Rattle.std.specs.Cmp.Lexicographic.{slice_cmp}
use Rattle.ipa_spec.specs.declared.bounds.Bound.{Bound}
use Rattle.ipa_logic.specs.declared.facts.Fact.{Fact}

-- the elements of the fact in all places but the counted one, where 0 stands
abbrev pub key_of : Bound → Fact → List ℕ
key_of b f = slice_set f.args b.counted 0

-- the fact is of the bound's predicate and has this key
abbrev pub is_in_group : Bound → List ℕ → Fact → Bool
is_in_group b key f = (f.predicate == b.predicate) && is_eq (slice_cmp nat_cmp (key_of b f) key)

-- the group of a key: the true facts of the bound's predicate that have it, in order
abbrev pub group_of : Bound → List ℕ → List Fact → List Fact
group_of b key state = filter (is_in_group b key) state

-- no group of a bound has more facts than the bound allows
pub record Within (bounds : List Bound) (state : List Fact) : Type 0 where
  pub groups : (n : ℕ) (b : Bound) (key : List ℕ) → slice_get bounds n ≡ Some b → length (group_of b key state) ≤ b.most
