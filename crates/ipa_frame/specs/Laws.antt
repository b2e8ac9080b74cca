-- The law of frames, which src/laws.rt carries.
--     OneFrame      where a frame stands at the front of some bytes, no other frame agrees with them
use Rattle.std.specs.Prelude.{◌≡◌, ℕ, ◌≤◌, List, length}
use Rattle.ipa_frame.specs.declared.frame.Frame.{Frame}
use Rattle.ipa_frame.specs.Frames.{frame_bytes, IsFrame, Agrees}

-- where a frame stands at the front of some bytes, no other frame agrees with them
abbrev pub OneFrame : Type 0
OneFrame =
    (bytes : List ℕ) (frame other : Frame) → IsFrame frame → length (frame_bytes frame) ≤ length bytes →
    Agrees bytes (frame_bytes frame) → IsFrame other → Agrees bytes (frame_bytes other) → frame ≡ other
