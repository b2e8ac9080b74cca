-- Members of a history by origin, and of its cuts.
--
--   before-number     of one origin the lesser number is before the greater
--   cut_inside        the members of a cut are members
use Rattle.std.proofs.Common.{◌≡◌, ℕ, ◌<◌, true, List, ap, arith}
use Rattle.ipa_clock.specs.declared.cut.Cut.{Cut}
use Rattle.ipa_clock.specs.Cut.{count_of, is_covered}
use Rattle.ipa_history.specs.Histories.{IsMember, is_before, IsHistory, members_of}
use Rattle.ipa_history.specs.HistoryLaws.{covers_covered}
use Rattle.ipa_history.specs.MemberLaws.{filter_member}
use Rattle.ipa_history.specs.declared.history.Tx.{Tx}

module _ (h : List Tx) (is : IsHistory h) where
  -- of one origin the lesser number is before the greater
  pub before-number : (t u : Tx) → IsMember h u → u.dot.origin ≡ t.dot.origin → t.dot.number < u.dot.number →
      is_before t u ≡ true
  before-number t u mu e less =
      let own = is.own u mu in
      let here : count_of u.cut u.dot.origin ≡ count_of u.cut t.dot.origin = ap (λ (o : ℕ). count_of u.cut o) e in
      covers_covered u.cut t.dot (omega (arith, less, own, here))

-- the members of a cut are members
pub cut_inside : (h : List Tx) (c : Cut) (u : Tx) → IsMember (members_of h c) u → IsMember h u
cut_inside h c u m = let k = filter_member (λ t. is_covered c t.dot) h u m in k.member
