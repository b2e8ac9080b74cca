-- The delivery of a frame's bytes.
use Rattle.std.proofs.Common.{◌≡◌, ℕ, ◌≤◌, List, length, refl, sym, ap, subst, arith, inl, inr}
use Rattle.ipa_history.specs.declared.history.Tx.{Tx}
use Rattle.ipa_frame.specs.Frames.{frame_bytes, IsFrame, Agrees, IsRead}
use Rattle.ipa_frame.specs.Laws.{OneFrame}
use Rattle.ipa_frame.specs.declared.frame.Frame.{Frame}
use Rattle.ipa_frame.specs.declared.frame.FrameFault.{FrameFault}
use Rattle.ipa_gate.specs.Settings.{SettingParts}
use Rattle.ipa_link.specs.Deliveries.{IsAnswered, entries_left, HasRest, IsGarbled, IsReceived}
use Rattle.ipa_link.specs.Laws.{Receives, WrittenIsReceived}
use Rattle.ipa_link.specs.declared.delivery.Delivered.{Delivered}
use Rattle.ipa_link.specs.declared.delivery.Delivered.TheVariants.{Taken, Refused, Heard, Garbled}
use Rattle.ipa_link.proofs.Stops.{none_is_refused}

Agrees-self : (bytes : List ℕ) → Agrees bytes bytes
Agrees-self bytes = record { same = λ place there within. refl }

-- no number is above itself
fits : (n : ℕ) → n ≤ n
fits n = omega arith

-- a frame fills its bytes
fills : (frame : Frame) → IsFrame frame → IsRead (frame_bytes frame) frame (length (frame_bytes frame))
fills frame is = record {
  is_frame = is;
  sized = refl;
  whole = fits (length (frame_bytes frame));
  agrees = Agrees-self (frame_bytes frame);
}

-- and no other stands at their front
one_front : OneFrame → (frame other : Frame) (size : ℕ) → IsFrame frame → IsRead (frame_bytes frame) other size →
    frame ≡ other
one_front law frame other size is read =
    law (frame_bytes frame) frame other is (fits (length (frame_bytes frame))) (Agrees-self (frame_bytes frame))
    read.is_frame read.agrees

received : OneFrame → (s : SettingParts) (h : List Tx) (frame : Frame) (answer : Delivered) (after : List Tx) →
    IsFrame frame → IsReceived s h (frame_bytes frame) answer after → Receives s h frame answer after
received law s h frame answer after is got =
    let same : got.frame ≡ frame = sym (one_front law frame got.frame (length (frame_bytes frame)) is got.fills) in
    record {
      answered = subst (λ (f : Frame). IsAnswered s h f answer) same got.answered;
      left = subst (λ (f : Frame). after ≡ entries_left h f answer) same got.left;
    }

no_rest : OneFrame → (frame : Frame) → IsFrame frame → HasRest (frame_bytes frame) → ⊥
no_rest law frame is rest =
    let same = one_front law frame rest.frame rest.size is rest.front in
    let long : length (frame_bytes frame) ≡ length (frame_bytes rest.frame)
    = ap (λ (f : Frame). length (frame_bytes f)) same in
    let sized = rest.front.sized in
    let more = rest.more in
    absurd (omega (arith, long, sized, more))

not_garbled : OneFrame → (frame : Frame) (fault : FrameFault) → IsFrame frame → IsGarbled (frame_bytes frame) fault → ⊥
not_garbled law frame fault is garbled = elim garbled [
  | inl refused ↦ none_is_refused law (frame_bytes frame) frame (length (frame_bytes frame)) fault (fills frame is) refused
  | inr rest ↦ no_rest law frame is rest.0
]

pub written_is_received : OneFrame → WrittenIsReceived
written_is_received law s h frame (Taken taken) after is got = received law s h frame (Taken taken) after is got
written_is_received law s h frame (Refused fault) after is got = received law s h frame (Refused fault) after is got
written_is_received law s h frame (Heard cut) after is got = received law s h frame (Heard cut) after is got
written_is_received law s h frame (Garbled fault) after is got = absurd (not_garbled law frame fault is got.garbled)
