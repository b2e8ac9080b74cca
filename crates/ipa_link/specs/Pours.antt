-- What a log makes of frames that stand one after the other.
--
--   Receipt                        a frame, and what the log answered it
--   entries_left_by h receipts     the entries of a log after all of these, one after the other
--   IsReceipt s h r                a frame that a log with these entries answers so, without want of memory
--   AreReceipts s h receipts       each is a receipt of the log in its turn
--   bytes_of receipts              the bytes of the frames, one after the other
--   is_fresh, is_known, is_refused, is_heard     whether the answer is one of these
--   how_many passes receipts       the number of those with such an answer
--   IsTally receipts poured        the four counts are those of the receipts
--   IsPour s h bytes poured after  the frames that were read are the first bytes, and were taken one after the other
--   IsStop bytes read stop         why it went no further
use Rattle.std.specs.Prelude.{◌≡◌, ◌≢◌, ℕ, ◌<◌, ◌≤◌, Bool, true, false, List, [], ◌∷◌, length, filter, take, drop}
use Rattle.std.specs.List.{flat_map}
use Rattle.ipa_history.specs.declared.history.Tx.{Tx}
use Rattle.ipa_frame.specs.Frames.{frame_bytes, IsFrame, IsRead, Refuses}
use Rattle.ipa_frame.specs.declared.frame.Frame.{Frame}
use Rattle.ipa_frame.specs.declared.frame.Frame.TheVariants.{Carry}
use Rattle.ipa_frame.specs.declared.frame.FrameFault.{FrameFault}
use Rattle.ipa_gate.specs.Settings.{SettingParts}
use Rattle.ipa_gate.specs.declared.answers.Taken.TheVariants.{New, Known}
use Rattle.ipa_gate.specs.declared.answers.OfferFault.TheVariants.{NoMemory as Wanting}
use Rattle.ipa_link.specs.Deliveries.{IsAnswered, entries_left}
use Rattle.ipa_link.specs.declared.delivery.Delivered.{Delivered}
use Rattle.ipa_link.specs.declared.delivery.Delivered.TheVariants.{Taken, Refused, Heard, Garbled}
use Rattle.ipa_link.specs.declared.pouring.Poured.{Poured}
use Rattle.ipa_link.specs.declared.pouring.Stop.{Stop}
use Rattle.ipa_link.specs.declared.pouring.Stop.TheVariants.{End, Garbled as Ill, NoMemory}

-- a frame, and what the log answered it
pub record Receipt : Type 0 where
  pub frame : Frame
  pub answer : Delivered

-- the entries of a log after all of these, one after the other
abbrev pub entries_left_by : List Tx → List Receipt → List Tx
entries_left_by h [] = h
entries_left_by h (r ∷ rest) = entries_left_by (entries_left h r.frame r.answer) rest

-- a frame that a log with these entries answers so, without want of memory
pub record IsReceipt (s : SettingParts) (h : List Tx) (r : Receipt) : Type 0 where
  pub is_frame : IsFrame r.frame
  pub answered : IsAnswered s h r.frame r.answer
  pub memory : r.answer ≢ Refused Wanting

-- each is a receipt of the log with the entries that those before it left
abbrev pub AreReceipts : SettingParts → List Tx → List Receipt → Type 0
AreReceipts s h [] = Unit {0}
AreReceipts s h (r ∷ rest) = IsReceipt s h r × AreReceipts s (entries_left h r.frame r.answer) rest

-- the bytes of the frames, one after the other
abbrev pub bytes_of : List Receipt → List ℕ
bytes_of receipts = flat_map (λ (r : Receipt). frame_bytes r.frame) receipts

-- a transaction was appended
abbrev pub is_fresh : Delivered → Bool
is_fresh (Taken New) = true
is_fresh (Taken Known) = false
is_fresh (Refused fault) = false
is_fresh (Heard cut) = false
is_fresh (Garbled fault) = false

-- a transaction was an entry already
abbrev pub is_known : Delivered → Bool
is_known (Taken New) = false
is_known (Taken Known) = true
is_known (Refused fault) = false
is_known (Heard cut) = false
is_known (Garbled fault) = false

-- a transaction was refused
abbrev pub is_refused : Delivered → Bool
is_refused (Taken taken) = false
is_refused (Refused fault) = true
is_refused (Heard cut) = false
is_refused (Garbled fault) = false

-- a frame told what its sender has
abbrev pub is_heard : Delivered → Bool
is_heard (Taken taken) = false
is_heard (Refused fault) = false
is_heard (Heard cut) = true
is_heard (Garbled fault) = false

-- the number of those whose answer passes the test
abbrev pub how_many : (Delivered → Bool) → List Receipt → ℕ
how_many passes receipts = length (filter (λ (r : Receipt). passes r.answer) receipts)

-- the four counts are those of the receipts
pub record IsTally (receipts : List Receipt) (p : Poured) : Type 0 where
  pub fresh : p.fresh ≡ how_many is_fresh receipts
  pub known : p.known ≡ how_many is_known receipts
  pub refused : p.refused ≡ how_many is_refused receipts
  pub heard : p.heard ≡ how_many is_heard receipts

-- the bytes that were read are those of frames, which the log took in their order and answered as counted, and these
-- are the entries that they left
pub record IsPour (s : SettingParts) (h : List Tx) (bytes : List ℕ) (p : Poured) (after : List Tx) : Type 0 where
  pub receipts : List Receipt
  pub taken : AreReceipts s h receipts
  pub read : bytes_of receipts ≡ take p.read bytes
  pub within : p.read ≤ length bytes
  pub tally : IsTally receipts p
  pub left : after ≡ entries_left_by h receipts

-- bytes are left, and at their front stands no frame, for this fault
pub record HasIllRest (bytes : List ℕ) (read : ℕ) (fault : FrameFault) : Type 0 where
  pub more : read < length bytes
  pub refused : Refuses (drop read bytes) fault

-- bytes are left, and at their front stands the frame of a transaction
pub record HasNext (bytes : List ℕ) (read : ℕ) : Type 0 where
  pub more : read < length bytes
  pub tx : Tx
  pub size : ℕ
  pub front : IsRead (drop read bytes) (Carry tx) size

-- all bytes were read; or the rest begins with no frame; or it begins with a transaction, for which memory was wanting
abbrev pub IsStop : List ℕ → ℕ → Stop → Type 0
IsStop bytes read End = read ≡ length bytes
IsStop bytes read (Ill fault) = HasIllRest bytes read fault
IsStop bytes read NoMemory = HasNext bytes read
