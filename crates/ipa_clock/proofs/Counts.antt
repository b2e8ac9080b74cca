-- Counts place by place.
use Rattle.std.proofs.Common.{◌≡◌, ◌≢◌, ℕ, ◌+◌, ◌<◌, ◌≤◌, List, length, max, get_or, set, arith, below_more, sym, ◌∙◌}
use Rattle.std.proofs.lemmas.List.{get_or-set_other, get_or-set_same, length-set}
use Rattle.std.proofs.lemmas.Grind.{same_number_lists}
use Rattle.ipa_clock.specs.Cut.{greater_counts}
use Rattle.ipa_clock.specs.Lemmas.{slice_index-greater_counts, length-greater_counts}

-- the greater counts stand at the places below this one, and the old ones at the others
pub record GreaterBelow (place : ℕ) (mine theirs counts : List ℕ) : Type 0 where
  pub sized : length counts ≡ length mine
  pub below : (k : ℕ) → k < place → get_or counts k 0 ≡ max (get_or mine k 0) (get_or theirs k 0)
  pub above : (k : ℕ) → place ≤ k → get_or counts k 0 ≡ get_or mine k 0

-- one more place
pub GreaterBelow-more : (place count : ℕ) (mine theirs counts : List ℕ) →
    GreaterBelow place mine theirs counts → place < length mine →
    count ≡ max (get_or counts place 0) (get_or theirs place 0) →
    GreaterBelow (place + 1) mine theirs (set counts place count)
GreaterBelow-more place count mine theirs counts so_far in_range greater = record {
  sized = length-set _ _ _ ∙ so_far.sized;
  below =
      below_more _ _
      (λ k small. let other : k ≢ place = omega arith in rw get_or-set_other (so_far.below k small))
      (let there : place < length counts = omega (arith, so_far.sized) in
      rw get_or-set_same (rw (← so_far.above place (omega arith)) greater));
  above = λ k large.
      let other : k ≢ place = omega arith in rw get_or-set_other (so_far.above k (omega arith));
}

-- all places
pub greater_counts-from_below : (place : ℕ) (mine theirs counts : List ℕ) →
    GreaterBelow place mine theirs counts → length mine ≤ place →
    length theirs ≡ length mine → counts ≡ greater_counts mine theirs
greater_counts-from_below place mine theirs counts all past sized =
    same_number_lists counts (greater_counts mine theirs)
    (omega (arith, all.sized, length-greater_counts mine theirs))
    (λ k small. all.below k (omega (arith, all.sized))
    ∙ sym (slice_index-greater_counts mine theirs k))
