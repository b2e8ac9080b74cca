-- What a log makes of a frame, and of bytes that are delivered to it.
--
--   IsAnswered s h frame answer     a log of the setting with these entries answers the frame so
--   entries_left h frame answer     its entries after that
--   HasRest bytes                   a frame stands at the front of the bytes, and more bytes follow
--   IsGarbled bytes fault           no frame fills the bytes, and this is why
--   IsDelivery s h bytes answer after     the bytes are answered so, and these are the entries after that
--   IfUnoffered answer P            where nothing was offered to the log, P holds
use Rattle.std.specs.Prelude.{◌≡◌, ℕ, ◌<◌, ◌⊎◌, List, length}
use Rattle.ipa_history.specs.declared.history.Tx.{Tx}
use Rattle.ipa_frame.specs.Frames.{IsRead, Refuses}
use Rattle.ipa_frame.specs.declared.frame.Frame.{Frame}
use Rattle.ipa_frame.specs.declared.frame.Frame.TheVariants.{Carry, Have}
use Rattle.ipa_frame.specs.declared.frame.FrameFault.{FrameFault}
use Rattle.ipa_frame.specs.declared.frame.FrameFault.TheVariants.{BadLength}
use Rattle.ipa_gate.specs.Settings.{SettingParts}
use Rattle.ipa_gate.specs.Offers.{IsTakenAs, IsOfferFault, entries_after}
use Rattle.ipa_link.specs.declared.delivery.Delivered.{Delivered}
use Rattle.ipa_link.specs.declared.delivery.Delivered.TheVariants.{Taken, Refused, Heard, Garbled}

-- a transaction is answered as its offer is; what a sender has is handed back
abbrev pub IsAnswered : SettingParts → List Tx → Frame → Delivered → Type 0
IsAnswered s h (Carry tx) (Taken taken) = IsTakenAs s h tx taken
IsAnswered s h (Carry tx) (Refused fault) = IsOfferFault s h tx fault
IsAnswered s h (Carry tx) (Heard cut) = ⊥
IsAnswered s h (Carry tx) (Garbled fault) = ⊥
IsAnswered s h (Have cut) (Taken taken) = ⊥
IsAnswered s h (Have cut) (Refused fault) = ⊥
IsAnswered s h (Have cut) (Heard heard) = heard ≡ cut
IsAnswered s h (Have cut) (Garbled fault) = ⊥

-- those after the offer, where a transaction was taken; else those that there were
abbrev pub entries_left : List Tx → Frame → Delivered → List Tx
entries_left h (Carry tx) (Taken taken) = entries_after h tx taken
entries_left h (Carry tx) (Refused fault) = h
entries_left h (Carry tx) (Heard cut) = h
entries_left h (Carry tx) (Garbled fault) = h
entries_left h (Have cut) answer = h

-- a frame stands at the front of the bytes, and more bytes follow
pub record HasRest (bytes : List ℕ) : Type 0 where
  pub frame : Frame
  pub size : ℕ
  pub front : IsRead bytes frame size
  pub more : size < length bytes

-- at the front of the bytes stands no frame, for this fault; or one stands there and more bytes follow, which is a
-- bad length
abbrev pub IsGarbled : List ℕ → FrameFault → Type 0
IsGarbled bytes fault = Refuses bytes fault ⊎ (HasRest bytes × (fault ≡ BadLength))

-- a frame fills the bytes, is answered so, and leaves these entries
pub record IsReceived (s : SettingParts) (h : List Tx) (bytes : List ℕ) (answer : Delivered) (after : List Tx) :
    Type 0 where
  pub frame : Frame
  pub fills : IsRead bytes frame (length bytes)
  pub answered : IsAnswered s h frame answer
  pub left : after ≡ entries_left h frame answer

-- no frame fills the bytes, for this fault, and the entries stay
pub record IsIgnored (h : List Tx) (bytes : List ℕ) (fault : FrameFault) (after : List Tx) : Type 0 where
  pub garbled : IsGarbled bytes fault
  pub left : after ≡ h

-- the frame that fills the bytes is answered, or the bytes are garbled
abbrev pub IsDelivery : SettingParts → List Tx → List ℕ → Delivered → List Tx → Type 0
IsDelivery s h bytes (Taken taken) after = IsReceived s h bytes (Taken taken) after
IsDelivery s h bytes (Refused fault) after = IsReceived s h bytes (Refused fault) after
IsDelivery s h bytes (Heard cut) after = IsReceived s h bytes (Heard cut) after
IsDelivery s h bytes (Garbled fault) after = IsIgnored h bytes fault after

-- where nothing was offered to the log, P holds
abbrev pub IfUnoffered : Delivered → Type 0 → Type 0
IfUnoffered (Taken taken) P = Unit {0}
IfUnoffered (Refused fault) P = Unit {0}
IfUnoffered (Heard cut) P = P
IfUnoffered (Garbled fault) P = P
