-- The first transaction in which a history parts from a log.
use Rattle.std.proofs.Common.{◌≡◌, ℕ, ◌<◌, ◌≤◌, List, length, get_or}
use Rattle.ipa_history.specs.Histories.{IsMember}
use Rattle.ipa_history.specs.declared.history.Tx.{Tx}
use Rattle.ipa_gate.specs.Agreements.{HasAll, IsParted, IsDivergence}
use Rattle.ipa_gate.specs.declared.answers.Diverged.{Diverged}
use Rattle.ipa_gate.specs.Fronts.{UpTo}
use Rattle.ipa_gate.proofs.WalkLemmas.{item_at, earlier, each_member}

module _ (h seen items : List Tx) (k : ℕ) (same : items ≡ seen) (before : UpTo (IsMember h) items k) where
  pub divergence_found : (d : Tx) (diverged : Diverged) → k < length items → IsParted h (get_or items k d) diverged →
      IsDivergence h seen diverged
  divergence_found d diverged inside parted = record {
    place = k;
    tx = get_or items k d;
    at = item_at seen items k same d inside;
    parted = parted;
    earlier = earlier seen items k same before;
  }

  pub all_there : length items ≤ k → HasAll h seen
  all_there past = record { each = each_member seen items k same past before }
