-- The frame that stands at the front of some bytes is read: no refusal holds there.
use Rattle.std.proofs.Common.{◌≡◌, ℕ, ◌<◌, ◌≤◌, ◌⊎◌, List, length, get_or, take, Result, Ok, Err, arith, ap, sym, ◌∙◌, inl, inr}
use Rattle.std.specs.Prelude.{MatchResult}
use Rattle.std.proofs.lemmas.List.{get_or-take, length-take}
use Rattle.ipa_frame.specs.declared.frame.Frame.{Frame}
use Rattle.ipa_frame.specs.declared.frame.Frame.TheVariants.{Carry, Have}
use Rattle.ipa_frame.specs.declared.frame.FrameFault.{FrameFault}
use Rattle.ipa_frame.specs.declared.frame.FrameFault.TheVariants.{Short, BadKind, BadLength, BadField}
use Rattle.ipa_frame.specs.Frames.{frame_bytes, IsFrame, Agrees, IsRead, Refuses}
use Rattle.ipa_frame.proofs.Agreement.{AgreesFrom, agrees_from}
use Rattle.ipa_frame.proofs.Carrying.{carry_reads, length-carry}
use Rattle.ipa_frame.proofs.Refusing.{have_reads, length-have}
use Rattle.ipa_frame.proofs.OneFrame.{one_frame}

kind_of : (bytes : List ℕ) (frame : Frame) → IsFrame frame → length (frame_bytes frame) ≤ length bytes → AgreesFrom bytes 0 (frame_bytes frame) →
    (get_or bytes 0 0 ≡ 1) ⊎ (get_or bytes 0 0 ≡ 2)
kind_of bytes (Carry tx) is_frame whole h =
    let size = length-carry tx is_frame.range.count is_frame.widths.counts.sized is_frame.widths.arguments in
    inl ((carry_reads bytes tx is_frame.range.count is_frame.widths.counts.sized h).kind.at (omega (arith, size)))
kind_of bytes (Have cut) is_frame whole h =
    let size = length-have cut is_frame.widths.sized in
    inr ((have_reads bytes cut h).kind.at (omega (arith, size)))

front_agrees : (bytes ys : List ℕ) → Agrees bytes ys → Agrees (take 3 bytes) ys
front_agrees bytes ys h = record {
  same = λ place there lt.
      let within : place < 3 = omega (arith, length-take 3 bytes) in
      let reached : place < length bytes = omega (arith, length-take 3 bytes) in
      get_or-take 3 bytes place 0 within ∙ h.same place reached lt;
}

not_refused : (bytes : List ℕ) (fault : FrameFault) → Refuses bytes fault → (frame : Frame) → IsFrame frame →
    length (frame_bytes frame) ≤ length bytes → Agrees bytes (frame_bytes frame) → ⊥
not_refused bytes Short h frame is_frame whole agrees =
    let same : frame ≡ h.frame = one_frame bytes frame h.frame is_frame whole agrees h.is_frame h.agrees in
    let size : length (frame_bytes frame) ≡ length (frame_bytes h.frame) = ap (λ (f : Frame). length (frame_bytes f)) same in
    omega (arith, size, h.longer)
not_refused bytes BadKind h frame is_frame whole agrees =
    elim (kind_of bytes frame is_frame whole (agrees_from bytes (frame_bytes frame) agrees)) [ inl e ↦ h.no_carry e | inr e ↦ h.no_have e ]
not_refused bytes BadLength h frame is_frame whole agrees = h.none.none frame is_frame (front_agrees bytes (frame_bytes frame) agrees)
not_refused bytes BadField h frame is_frame whole agrees = h.none.none frame is_frame agrees

pub found : (bytes : List ℕ) (result : Result (Frame × ℕ) FrameFault) →
    MatchResult result (λ read. IsRead bytes read.0 read.1) (λ fault. Refuses bytes fault) →
    (frame : Frame) → IsFrame frame → length (frame_bytes frame) ≤ length bytes → Agrees bytes (frame_bytes frame) →
    result ≡ Ok (frame, length (frame_bytes frame))
found bytes (Ok read) h frame is_frame whole agrees =
    let same : read.0 ≡ frame = sym (one_frame bytes frame read.0 is_frame whole agrees h.is_frame h.agrees) in
    let size : read.1 ≡ length (frame_bytes frame) = h.sized ∙ ap (λ (f : Frame). length (frame_bytes f)) same in
    let answer : Frame → ℕ → Result (Frame × ℕ) FrameFault = λ f n. Ok (f, n) in
    ap (λ (f : Frame). answer f read.1) same ∙ ap (answer frame) size
found bytes (Err fault) h frame is_frame whole agrees = absurd (not_refused bytes fault h frame is_frame whole agrees)
