-- One frame more of a pour.
--
--   is_wanting answer        memory was wanting
--   one_if b                 1 or 0
--   AddsOne p answer q       the counts after one more answer
--   IsStep s h rest p q after      a frame at the front of the rest was taken, and counted
--   IsHalt rest stop         why none was taken
--   AreBelow p               each count is at most the number of bytes read
use Rattle.std.specs.Prelude.{◌≡◌, ℕ, ◌+◌, ◌≤◌, Bool, true, false, List}
use Rattle.ipa_history.specs.declared.history.Tx.{Tx}
use Rattle.ipa_frame.specs.Frames.{IsRead, Refuses}
use Rattle.ipa_frame.specs.declared.frame.Frame.TheVariants.{Carry}
use Rattle.ipa_gate.specs.Settings.{SettingParts}
use Rattle.ipa_gate.specs.declared.answers.OfferFault.{OfferFault}
use Rattle.ipa_gate.specs.declared.answers.OfferFault.TheVariants.{Shape, Differs, Gap, OpenCut, Full, Illegal}
use Rattle.ipa_gate.specs.declared.answers.OfferFault.TheVariants.{NoMemory as Wanting}
use Rattle.ipa_link.specs.Deliveries.{entries_left}
use Rattle.ipa_link.specs.Pours.{Receipt, IsReceipt, is_fresh, is_known, is_refused, is_heard}
use Rattle.ipa_link.specs.declared.delivery.Delivered.{Delivered}
use Rattle.ipa_link.specs.declared.delivery.Delivered.TheVariants.{Taken, Refused, Heard, Garbled}
use Rattle.ipa_link.specs.declared.pouring.Poured.{Poured}
use Rattle.ipa_link.specs.declared.pouring.Stop.{Stop}
use Rattle.ipa_link.specs.declared.pouring.Stop.TheVariants.{End, Garbled as Ill, NoMemory}

-- the fault is want of memory
abbrev pub is_no_memory : OfferFault → Bool
is_no_memory Shape = false
is_no_memory (Differs here there) = false
is_no_memory (Gap origin have need) = false
is_no_memory (OpenCut member) = false
is_no_memory Full = false
is_no_memory (Illegal reason) = false
is_no_memory Wanting = true

-- memory was wanting
abbrev pub is_wanting : Delivered → Bool
is_wanting (Taken taken) = false
is_wanting (Refused fault) = is_no_memory fault
is_wanting (Heard cut) = false
is_wanting (Garbled fault) = false

-- 1 where the test passed
abbrev pub one_if : Bool → ℕ
one_if true = 1
one_if false = 0

-- the counts after one more answer
pub record AddsOne (p : Poured) (answer : Delivered) (q : Poured) : Type 0 where
  pub fresh : q.fresh ≡ p.fresh + one_if (is_fresh answer)
  pub known : q.known ≡ p.known + one_if (is_known answer)
  pub refused : q.refused ≡ p.refused + one_if (is_refused answer)
  pub heard : q.heard ≡ p.heard + one_if (is_heard answer)

-- a frame at the front of the rest was taken, counted and read
pub record IsStep (s : SettingParts) (h : List Tx) (rest : List ℕ) (p q : Poured) (after : List Tx) : Type 0 where
  pub receipt : Receipt
  pub size : ℕ
  pub front : IsRead rest receipt.frame size
  pub taken : IsReceipt s h receipt
  pub added : AddsOne p receipt.answer q
  pub read : q.read ≡ p.read + size
  pub left : after ≡ entries_left h receipt.frame receipt.answer

-- a transaction stands at the front of the rest
pub record BeginsWithTx (rest : List ℕ) : Type 0 where
  pub tx : Tx
  pub size : ℕ
  pub front : IsRead rest (Carry tx) size

-- no frame stands at the front of the rest, or memory was wanting
abbrev pub IsHalt : List ℕ → Stop → Type 0
IsHalt rest End = ⊥
IsHalt rest (Ill fault) = Refuses rest fault
IsHalt rest NoMemory = BeginsWithTx rest

-- each count is at most the number of bytes read
pub record AreBelow (p : Poured) : Type 0 where
  pub fresh : p.fresh ≤ p.read
  pub known : p.known ≤ p.read
  pub refused : p.refused ≤ p.read
  pub heard : p.heard ≤ p.read
