-- Where a cut is not a closed cut of some entries.
--
--   IsFirstGap c clock o        the first origin of which the cut has more than the clock
--   IsFirstOpen h c place u     the first member of the cut whose own cut is not below it
--   HasFirstOpen h c u          it stands in some place
--   LastsBelow h c              the cut of the last member of each origin is below the cut
use Rattle.std.specs.Prelude.{◌≡◌, ℕ, ◌<◌, ◌≤◌, List, slice_get, Some}
use Rattle.ipa_clock.specs.declared.cut.Cut.{Cut}
use Rattle.ipa_clock.specs.Cut.{count_of, Covers, IsBelow}
use Rattle.ipa_history.specs.Histories.{IsMember}
use Rattle.ipa_history.specs.declared.history.Tx.{Tx}

-- of this origin the cut has more transactions than the clock, and of none before it
pub record IsFirstGap (c clock : Cut) (o : ℕ) : Type 0 where
  pub origin : o < 16
  pub lacks : count_of clock o < count_of c o
  pub least : (k : ℕ) → k < o → count_of c k ≤ count_of clock k

-- the transaction in this place is the first member of the cut whose own cut is not below the cut
pub record IsFirstOpen (h : List Tx) (c : Cut) (place : ℕ) (u : Tx) : Type 0 where
  pub at : slice_get h place ≡ Some u
  pub covered : Covers c u.dot
  pub above : IsBelow u.cut c → ⊥
  pub earlier : (k : ℕ) (v : Tx) → k < place → slice_get h k ≡ Some v → Covers c v.dot → IsBelow v.cut c

-- it is the first such member, in some place
pub record HasFirstOpen (h : List Tx) (c : Cut) (u : Tx) : Type 0 where
  pub place : ℕ
  pub first : IsFirstOpen h c place u

-- the cut of the last member of this origin is below the cut
pub record LastBelow (h : List Tx) (c : Cut) (o : ℕ) : Type 0 where
  pub below : (t : Tx) → IsMember h t → t.dot.origin ≡ o → t.dot.number ≡ count_of c o → IsBelow t.cut c

-- the cut of the last member of each origin is below the cut
pub record LastsBelow (h : List Tx) (c : Cut) : Type 0 where
  pub each : (o : ℕ) → o < 16 → LastBelow h c o
