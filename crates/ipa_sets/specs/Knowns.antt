-- Room for known facts.
--
--   HasPlaces n k      there is room for n more facts, and for their truths
--   fewer-places       where there is room for more there is for fewer
use Rattle.std.proofs.Common.{ℕ, ◌+◌, ◌≤◌, arith}
use Rattle.std.specs.Vec.{vec_len, vec_capacity}
use Rattle.ipa_sets.specs.declared.known.Known.{Known}

-- there is room for n more facts, and for their truths
pub record HasPlaces (n : ℕ) (k : Known) : Type 0 where
  pub facts : vec_len k.facts + n ≤ vec_capacity k.facts
  pub truths : vec_len k.truths + n ≤ vec_capacity k.truths

-- where there is room for more there is for fewer
pub fewer-places : (n m : ℕ) (k : Known) → n ≤ m → HasPlaces m k → HasPlaces n k
fewer-places n m k few room = record {
  facts = let r = room.facts in omega (arith, few, r);
  truths = let r = room.truths in omega (arith, few, r);
}
