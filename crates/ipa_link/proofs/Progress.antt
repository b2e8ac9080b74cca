-- A pour, frame by frame.
use Rattle.std.proofs.Common.{◌≡◌, ℕ, ◌+◌, ◌<◌, ◌≤◌, List, [], ◌∷◌, ◌++◌, length, take, drop, sym, ◌∙◌, ap, subst, arith, length-drop}
use Rattle.ipa_history.specs.declared.history.Tx.{Tx}
use Rattle.ipa_gate.specs.Settings.{SettingParts}
use Rattle.ipa_gate.specs.Logs.{LogParts}
use Rattle.ipa_link.specs.Deliveries.{entries_left}
use Rattle.ipa_link.specs.Pours.{IsReceipt, IsPour, bytes_of, is_fresh, is_known, is_refused, is_heard}
use Rattle.ipa_link.specs.Counting.{IsStep, AreBelow}
use Rattle.ipa_link.specs.declared.pouring.Poured.{Poured}
use Rattle.ipa_link.specs.declared.pouring.Stop.TheVariants.{End}
use Rattle.ipa_link.proofs.Steps.{entries_left_by-push, AreReceipts-push, how_many-push, one_if-few, bytes_of-push, some_read}

-- what a pour has come to before it stops
pub record SoFar (start : LogParts) (bytes : List ℕ) (p : Poured) (log : LogParts) : Type 0 where
  pub pour : IsPour start.setting start.entries bytes p log.entries
  pub setting : log.setting ≡ start.setting
  pub below : AreBelow p
  pub going : p.stop ≡ End

-- the pour with one frame more
pub stepped : (s : SettingParts) (h : List Tx) (bytes : List ℕ) (p q : Poured) (mid after : List Tx) →
    IsPour s h bytes p mid → IsStep s mid (drop p.read bytes) p q after → IsPour s h bytes q after
stepped s h bytes p q mid after is step =
    let r = step.receipt in
    let read = step.read in
    let whole = step.front.whole in
    let within = is.within in
    record {
      receipts = is.receipts ++ r ∷ [];
      taken = AreReceipts-push s h is.receipts r is.taken (subst (λ (e : List Tx). IsReceipt s e r) is.left step.taken);
      read = subst (λ (n : ℕ). bytes_of (is.receipts ++ r ∷ []) ≡ take n bytes) (sym read)
          (bytes_of-push bytes is.receipts r p.read step.size is.read step.front);
      within = omega (arith, read, whole, within, length-drop p.read bytes);
      tally = record {
        fresh = omega (arith, step.added.fresh, is.tally.fresh, how_many-push is_fresh is.receipts r);
        known = omega (arith, step.added.known, is.tally.known, how_many-push is_known is.receipts r);
        refused = omega (arith, step.added.refused, is.tally.refused, how_many-push is_refused is.receipts r);
        heard = omega (arith, step.added.heard, is.tally.heard, how_many-push is_heard is.receipts r);
      };
      left = step.left
          ∙ (ap (λ (e : List Tx). entries_left e r.frame r.answer) is.left ∙ sym (entries_left_by-push h is.receipts r));
    }

-- a count that grows by one at most, beside bytes that grow by one at least
grown : (a b n read more size : ℕ) → a ≤ read → b ≡ a + n → n ≤ 1 → more ≡ read + size → 0 < size → b ≤ more
grown a b n read more size low added few grows some = omega arith

pub below_more : (s : SettingParts) (rest : List ℕ) (p q : Poured) (mid after : List Tx) → AreBelow p →
    IsStep s mid rest p q after → AreBelow q
below_more s rest p q mid after is step =
    let some = some_read rest step.receipt.frame step.size step.front in
    record {
      fresh = grown _ _ _ _ _ _ is.fresh step.added.fresh (one_if-few (is_fresh step.receipt.answer)) step.read some;
      known = grown _ _ _ _ _ _ is.known step.added.known (one_if-few (is_known step.receipt.answer)) step.read some;
      refused = grown _ _ _ _ _ _ is.refused step.added.refused (one_if-few (is_refused step.receipt.answer)) step.read some;
      heard = grown _ _ _ _ _ _ is.heard step.added.heard (one_if-few (is_heard step.receipt.answer)) step.read some;
    }

-- the bytes that are left get fewer
pub less_left : (s : SettingParts) (bytes : List ℕ) (p q : Poured) (mid after : List Tx) → p.read < length bytes →
    IsStep s mid (drop p.read bytes) p q after → p.read < q.read
less_left s bytes p q mid after more step =
    let some = some_read (drop p.read bytes) step.receipt.frame step.size step.front in
    let read = step.read in
    omega (arith, some, read)
