-- The laws of deliveries and pours, which src/laws.rt carries.
--
--   OneFault          bytes have one fault at most
--   NoneIsRefused     they have none where a frame stands at their front
--   OneStop           a pour that has read so many of some bytes stops in one way
--   Receives          a log with these entries answers the frame so, and these are its entries after that
--   WrittenIsReceived     the delivery of a frame's bytes is answered as the frame is
use Rattle.std.specs.Prelude.{◌≡◌, ℕ, List}
use Rattle.ipa_history.specs.declared.history.Tx.{Tx}
use Rattle.ipa_frame.specs.Frames.{frame_bytes, IsFrame, IsRead, Refuses}
use Rattle.ipa_frame.specs.declared.frame.Frame.{Frame}
use Rattle.ipa_frame.specs.declared.frame.FrameFault.{FrameFault}
use Rattle.ipa_gate.specs.Settings.{SettingParts}
use Rattle.ipa_link.specs.Deliveries.{IsAnswered, entries_left, IsDelivery}
use Rattle.ipa_link.specs.Pours.{IsStop}
use Rattle.ipa_link.specs.declared.delivery.Delivered.{Delivered}
use Rattle.ipa_link.specs.declared.pouring.Stop.{Stop}

-- bytes have one fault at most
abbrev pub OneFault : Type 0
OneFault = (bytes : List ℕ) (one two : FrameFault) → Refuses bytes one → Refuses bytes two → one ≡ two

-- they have none where a frame stands at their front
abbrev pub NoneIsRefused : Type 0
NoneIsRefused =
    (bytes : List ℕ) (frame : Frame) (size : ℕ) (fault : FrameFault) → IsRead bytes frame size → Refuses bytes fault → ⊥

-- a pour that has read so many of some bytes stops in one way
abbrev pub OneStop : Type 0
OneStop = (bytes : List ℕ) (read : ℕ) (one two : Stop) → IsStop bytes read one → IsStop bytes read two → one ≡ two

-- a log with these entries answers the frame so, and these are its entries after that
pub record Receives (s : SettingParts) (h : List Tx) (frame : Frame) (answer : Delivered) (after : List Tx) :
    Type 0 where
  pub answered : IsAnswered s h frame answer
  pub left : after ≡ entries_left h frame answer

-- the delivery of a frame's bytes is answered as the frame is
abbrev pub WrittenIsReceived : Type 0
WrittenIsReceived =
    (s : SettingParts) (h : List Tx) (frame : Frame) (answer : Delivered) (after : List Tx) → IsFrame frame →
    IsDelivery s h (frame_bytes frame) answer after → Receives s h frame answer after
