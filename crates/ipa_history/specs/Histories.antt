-- Histories: transactions in an order in which each stands after those that it has seen.
--
--   IsMember xs x       x is one of the list
--   is_before u t       u is before t: it is in the cut at which t was made
--   number_of o h       how many transactions of this origin the list has
--   StandsIn h d c      a transaction with this dot stands in the list, and its cut is below the cut
--   IsNamedIn h d t     t is the member with this dot
--   NoneNamedIn h d     no member has this dot
--   IsHistory h         a list of transactions is a history
--   IsClosed h c        a cut of a history is closed
--   members_of h c      the members of a cut, in the order of the history
use Rattle.std.specs.Prelude.{◌≡◌, ℕ, ◌+◌, ◌<◌, ◌≤◌, Bool, ◌==◌, List, length, take, filter, slice_get, Some}
use Rattle.std.specs.List.{count_by}
use Rattle.ipa_clock.specs.declared.dot.Dot.{Dot}
use Rattle.ipa_clock.specs.declared.cut.Cut.{Cut}
use Rattle.ipa_clock.specs.Cut.{count_of, Covers, is_covered, IsBelow}
use Rattle.ipa_history.specs.declared.history.Tx.{Tx}

-- x is one of the list
pub record IsMember {X : Type 0} (xs : List X) (x : X) : Type 0 where
  pub place : ℕ
  pub at : slice_get xs place ≡ Some x

-- u is before t: it is in the cut at which t was made
abbrev pub is_before : Tx → Tx → Bool
is_before u t = is_covered t.cut u.dot

-- how many transactions of this origin the list has
abbrev pub number_of : ℕ → List Tx → ℕ
number_of origin h = count_by (λ t. t.dot.origin == origin) h

-- a transaction with this dot stands in the list, and its cut is below the cut
pub record StandsIn (h : List Tx) (d : Dot) (c : Cut) : Type 0 where
  pub tx : Tx
  pub member : IsMember h tx
  pub named : tx.dot ≡ d
  pub below : IsBelow tx.cut c

-- t is a member with this dot
pub record IsNamedIn (h : List Tx) (d : Dot) (t : Tx) : Type 0 where
  pub member : IsMember h t
  pub named : t.dot ≡ d

-- no member has this dot
pub record NoneNamedIn (h : List Tx) (d : Dot) : Type 0 where
  pub none : (t : Tx) → IsMember h t → t.dot ≡ d → ⊥

-- the numbers of each origin are 1, 2, 3 and so on; a cut has number - 1 at its own origin; and each
-- member of a cut stands earlier, with a cut that is below it
pub record IsHistory (h : List Tx) : Type 0 where
  pub few : length h < 4294967295
  pub origins : (t : Tx) → IsMember h t → t.dot.origin < 16
  pub numbers : (k : ℕ) (t : Tx) → slice_get h k ≡ Some t → t.dot.number ≡ number_of t.dot.origin (take k h) + 1
  pub own : (t : Tx) → IsMember h t → count_of t.cut t.dot.origin + 1 ≡ t.dot.number
  pub seen : (k : ℕ) (t : Tx) (d : Dot) → slice_get h k ≡ Some t → 0 < d.number → Covers t.cut d →
      StandsIn (take k h) d t.cut

-- the cut has no more than the history's count of any origin, and the cut of each of its members is below it
pub record IsClosed (h : List Tx) (c : Cut) : Type 0 where
  pub within : (origin : ℕ) → count_of c origin ≤ number_of origin h
  pub below : (t : Tx) → IsMember h t → Covers c t.dot → IsBelow t.cut c

-- the members of a cut, in the order of the history
abbrev pub members_of : List Tx → Cut → List Tx
members_of h c = filter (λ t. is_covered c t.dot) h
