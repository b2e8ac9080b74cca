-- One frame more of a pour, by its parts.
use Rattle.std.proofs.Common.{◌≡◌, ◌≢◌, ℕ, ◌+◌, ◌<◌, ◌≤◌, Bool, true, false, List, [], ◌∷◌, ◌++◌, length, take, drop, refl, sym, ◌∙◌, ap, arith, length-append}
use Rattle.std.specs.Prelude.{filter, if◌then◌else◌}
use Rattle.std.proofs.Math.Seq.{take-add}
use Rattle.std.proofs.lemmas.Bool.{false≢true}
use Rattle.std.proofs.lemmas.List.{get_or-take, length-take, append-nil}
use Rattle.std.proofs.lemmas.List.Elements.{filter-append}
use Rattle.std.proofs.lemmas.Grind.{same_number_lists, flat_map-append}
use Rattle.ipa_history.specs.declared.history.Tx.{Tx}
use Rattle.ipa_frame.specs.Frames.{frame_bytes, IsRead}
use Rattle.ipa_frame.specs.declared.frame.Frame.{Frame}
use Rattle.ipa_frame.specs.declared.frame.Frame.TheVariants.{Carry, Have}
use Rattle.ipa_gate.specs.Settings.{SettingParts}
use Rattle.ipa_gate.specs.declared.answers.OfferFault.TheVariants.{NoMemory as Wanting}
use Rattle.ipa_link.specs.Deliveries.{entries_left}
use Rattle.ipa_link.specs.Pours.{Receipt, IsReceipt, AreReceipts, entries_left_by, bytes_of, how_many}
use Rattle.ipa_link.specs.Counting.{is_wanting, one_if}
use Rattle.ipa_link.specs.declared.delivery.Delivered.{Delivered}
use Rattle.ipa_link.specs.declared.delivery.Delivered.TheVariants.{Refused}

-- the entries after one frame more
pub entries_left_by-push : (h : List Tx) (receipts : List Receipt) (r : Receipt) →
    entries_left_by h (receipts ++ r ∷ []) ≡ entries_left (entries_left_by h receipts) r.frame r.answer
entries_left_by-push h [] r = refl
entries_left_by-push h (x ∷ rest) r = entries_left_by-push (entries_left h x.frame x.answer) rest r

-- one frame more is taken by the log that those before it left
pub AreReceipts-push : (s : SettingParts) (h : List Tx) (receipts : List Receipt) (r : Receipt) → AreReceipts s h receipts →
    IsReceipt s (entries_left_by h receipts) r → AreReceipts s h (receipts ++ r ∷ [])
AreReceipts-push s h [] r before is = (is, tt)
AreReceipts-push s h (x ∷ rest) r before is =
    (before.0, AreReceipts-push s (entries_left h x.frame x.answer) rest r before.1 is)

-- of a list of one, as many pass as the test says
length-if : (b : Bool) (r : Receipt) → length (if b then r ∷ [] else []) ≡ one_if b
length-if true r = refl
length-if false r = refl

-- one more is counted where it passes
pub how_many-push : (passes : Delivered → Bool) (receipts : List Receipt) (r : Receipt) →
    how_many passes (receipts ++ r ∷ []) ≡ how_many passes receipts + one_if (passes r.answer)
how_many-push passes receipts r =
    ap length (filter-append (λ (x : Receipt). passes x.answer) receipts (r ∷ []))
    ∙ (length-append (filter (λ (x : Receipt). passes x.answer) receipts) (filter (λ (x : Receipt). passes x.answer) (r ∷ []))
    ∙ ap (λ (n : ℕ). how_many passes receipts + n) (length-if (passes r.answer) r))

-- one at most
pub one_if-few : (b : Bool) → one_if b ≤ 1
one_if-few true = omega arith
one_if-few false = omega arith

-- the frame that stands at the front is the front
pub front_bytes : (rest : List ℕ) (frame : Frame) (size : ℕ) → IsRead rest frame size → take size rest ≡ frame_bytes frame
front_bytes rest frame size is =
    let sized = is.sized in
    let whole = is.whole in
    let long : length (take size rest) ≡ size = omega (arith, length-take size rest, whole) in
    same_number_lists (take size rest) (frame_bytes frame) (long ∙ sized) (λ k lt.
    let within : k < size = omega (arith, long, lt) in
    get_or-take size rest k 0 within ∙ is.agrees.same k (omega (arith, within, whole)) (omega (arith, within, sized)))

-- the bytes with one frame more
pub bytes_of-push : (bytes : List ℕ) (receipts : List Receipt) (r : Receipt) (read size : ℕ) →
    bytes_of receipts ≡ take read bytes → IsRead (drop read bytes) r.frame size →
    bytes_of (receipts ++ r ∷ []) ≡ take (read + size) bytes
bytes_of-push bytes receipts r read size before is =
    let whole : bytes_of (receipts ++ r ∷ []) ≡ bytes_of receipts ++ (frame_bytes r.frame ++ [])
    = flat_map-append (λ (x : Receipt). frame_bytes x.frame) receipts (r ∷ []) in
    let last : frame_bytes r.frame ++ [] ≡ take size (drop read bytes)
    = append-nil (frame_bytes r.frame) ∙ sym (front_bytes (drop read bytes) r.frame size is) in
    let joined : bytes_of receipts ++ (frame_bytes r.frame ++ []) ≡ take read bytes ++ take size (drop read bytes) = cc in
    whole ∙ (joined ∙ sym (take-add read size bytes))

-- each frame has bytes
pub frame_bytes-some : (frame : Frame) → 0 < length (frame_bytes frame)
unfolding frame_bytes
frame_bytes-some (Carry tx) = omega arith
frame_bytes-some (Have cut) = omega arith

pub some_read : (rest : List ℕ) (frame : Frame) (size : ℕ) → IsRead rest frame size → 0 < size
some_read rest frame size is = let sized = is.sized in omega (arith, sized, frame_bytes-some frame)

-- where memory was not wanting, that is not the answer
pub not_wanting : (answer : Delivered) → is_wanting answer ≡ false → answer ≢ Refused Wanting
not_wanting answer other same = false≢true (sym other ∙ ap is_wanting same)
