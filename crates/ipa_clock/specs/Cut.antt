-- Dots and cuts as counts. A cut has a count for each origin, and an origin past its last has none.
--     count_of cut origin     how many transactions of this origin the cut has
--     Covers cut dot          the transaction with this dot is in the cut
--     is_covered cut dot      the same, as a test
--     IsBefore dot cut        the transaction with this dot is before one with this cut
--     IsBelow left right      each transaction of the left cut is in the right one
--     empty                   the cut with no transaction
--     joined left right       the cut with the transactions of both
--     raised cut dot          the cut with the transactions of this origin up to this dot
use Rattle.std.specs.Prelude.{ℕ, Bool, nat_le, ◌≤◌, List, [], ◌∷◌, max, replicate, slice_index, slice_set}
use Rattle.ipa_clock.specs.declared.dot.Dot.{Dot}
use Rattle.ipa_clock.specs.declared.cut.Cut.{Cut}

-- the cut's count of this origin
abbrev pub count_of : Cut → ℕ → ℕ
count_of cut origin = slice_index cut.counts origin

-- the transaction with this dot is in the cut: its number is at most the count of its origin
abbrev pub Covers : Cut → Dot → Type 0
Covers cut dot = dot.number ≤ count_of cut dot.origin

-- the same, as a test
abbrev pub is_covered : Cut → Dot → Bool
is_covered cut dot = nat_le dot.number (count_of cut dot.origin)

-- the transaction with this dot is before one that was made at this cut: it is in the cut
abbrev pub IsBefore : Dot → Cut → Type 0
IsBefore dot cut = Covers cut dot

-- each count is at most the other's
pub record IsBelow (left right : Cut) : Type 0 where
  pub counts : (origin : ℕ) → count_of left origin ≤ count_of right origin

-- the cut with no transaction
abbrev pub empty : Cut
empty = record { counts = replicate 16 0 }

-- the greater of the counts at each place
abbrev pub greater_counts : List ℕ → List ℕ → List ℕ
greater_counts [] theirs = theirs
greater_counts (mine ∷ rest) [] = mine ∷ rest
greater_counts (mine ∷ rest) (theirs ∷ others) = max mine theirs ∷ greater_counts rest others

-- the greater of the counts of each origin
abbrev pub joined : Cut → Cut → Cut
joined left right = record { counts = greater_counts left.counts right.counts }

-- the dot's number in place of the count of its origin
abbrev pub raised : Cut → Dot → Cut
raised cut dot = record { counts = slice_set cut.counts dot.origin dot.number }
