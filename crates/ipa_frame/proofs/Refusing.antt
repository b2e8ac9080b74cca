-- Each way out of reading, over plain bytes.
use Rattle.std.proofs.Common.{◌≡◌, ◌≢◌, ℕ, ◌+◌, ◌*◌, ◌<◌, ◌≤◌, ◌⊎◌, List, length, get_or, take, arith, ap, sym, ◌∙◌, inl, inr}
use Rattle.std.proofs.lemmas.Bool.{cases_lt}
use Rattle.std.proofs.lemmas.List.{get_or_past, get_or-take, length-take}
use Rattle.std.proofs.lemmas.Grind.{get_or_default_zero}
use Rattle.ipa_clock.specs.declared.cut.Cut.{Cut}
use Rattle.ipa_frame.specs.declared.frame.Frame.{Frame}
use Rattle.ipa_frame.specs.declared.frame.Frame.TheVariants.{Carry, Have}
use Rattle.ipa_frame.specs.Frames.{numbers, frame_bytes, IsFrame, Agrees, NoFrameAgrees, SomeFrameAgrees, IsRead, IsShort, IsBadKind, IsBadLength, IsBadField}
use Rattle.ipa_frame.specs.Reading.{numbers_at, carried, FieldsStand}
use Rattle.ipa_frame.proofs.Agreement.{ReadsAt, AgreesFrom, agrees_from, from_agrees, reads_as, read_there, reads_front}
use Rattle.ipa_frame.proofs.Fields.{length-numbers_at}
use Rattle.ipa_frame.proofs.Numbers.{AreBytes, numbers_agree, numbers_fit, length-numbers}
use Rattle.ipa_frame.proofs.Carrying.{carry_reads, carried_agrees, carried_is_frame, carried_count, fields_stand, fillers_stand, length-carry}

pub there_if : (bytes : List ℕ) (place filler : ℕ) → get_or bytes place filler ≢ filler → place < length bytes
there_if bytes place filler other =
    elim (cases_lt place (length bytes)) [
      | inl there ↦ there
      | inr past ↦ absurd (other (get_or_past bytes place filler past))
    ]

first_is : (bytes : List ℕ) (value : ℕ) → 0 < length bytes → get_or bytes 0 1 ≡ value → get_or bytes 0 0 ≡ value
first_is bytes value there e = sym (get_or_default_zero bytes 0 1 there) ∙ e

kind_is : (bytes : List ℕ) → 0 < length bytes → (get_or bytes 0 1 ≡ 1) ⊎ (get_or bytes 0 1 ≡ 2) → (get_or bytes 0 0 ≡ 1) ⊎ (get_or bytes 0 0 ≡ 2)
kind_is bytes there kind = elim kind [ inl e ↦ inl (first_is bytes 1 there e) | inr e ↦ inr (first_is bytes 2 there e) ]

pub bad_kind : (bytes : List ℕ) → get_or bytes 0 1 ≢ 1 → get_or bytes 0 1 ≢ 2 → IsBadKind bytes
bad_kind bytes no_carry no_have =
    let there : 0 < length bytes = there_if bytes 0 1 no_carry in
    let same : get_or bytes 0 1 ≡ get_or bytes 0 0 = get_or_default_zero bytes 0 1 there in
    record {
      there = there;
      no_carry = λ e. no_carry (same ∙ e);
      no_have = λ e. no_have (same ∙ e);
    }

-- ---- the frame that tells what its sender has

pub record HaveReads (bytes : List ℕ) (them : List ℕ) : Type 0 where
  pub kind : ReadsAt bytes 0 2
  pub high : ReadsAt bytes 1 0
  pub low : ReadsAt bytes 2 64
  pub counts : AgreesFrom bytes 3 (numbers them)

pub have_reads : (bytes : List ℕ) (cut : Cut) → AgreesFrom bytes 0 (frame_bytes (Have cut)) → HaveReads bytes cut.counts
unfolding frame_bytes
have_reads bytes cut h = record { kind = h.0; high = h.1.0; low = h.1.1.0; counts = h.1.1.1 }

abbrev pub cut_at : List ℕ → Cut
cut_at bytes = record { counts = numbers_at 16 bytes 3 }

have_agrees : (bytes : List ℕ) → AreBytes bytes → get_or bytes 0 1 ≡ 2 → get_or bytes 1 0 ≡ 0 → get_or bytes 2 64 ≡ 64 →
    AgreesFrom bytes 0 (frame_bytes (Have (cut_at bytes)))
unfolding frame_bytes
have_agrees bytes fits kind high low =
    (reads_as bytes 0 1 2 kind, (reads_as bytes 1 0 0 high, (reads_as bytes 2 64 64 low, numbers_agree 16 bytes 3 fits)))

have_is_frame : (bytes : List ℕ) → AreBytes bytes → IsFrame (Have (cut_at bytes))
have_is_frame bytes fits = record {
  range = tt;
  widths = record { sized = length-numbers_at 16 bytes 3; fit = λ place. numbers_fit 16 bytes 3 place fits };
}

pub length-have : (cut : Cut) → length cut.counts ≡ 16 → length (frame_bytes (Have cut)) ≡ 67
unfolding frame_bytes
length-have cut sized = omega (arith, length-numbers cut.counts)

pub short_have : (bytes : List ℕ) → AreBytes bytes → get_or bytes 0 1 ≡ 2 → get_or bytes 1 0 ≡ 0 → get_or bytes 2 64 ≡ 64 → length bytes < 67 → IsShort bytes
short_have bytes fits kind high low less =
    let size = length-have (cut_at bytes) (length-numbers_at 16 bytes 3) in
    record {
      frame = Have (cut_at bytes);
      is_frame = have_is_frame bytes fits;
      agrees = from_agrees bytes (frame_bytes (Have (cut_at bytes))) (have_agrees bytes fits kind high low);
      longer = omega (arith, size);
    }

pub read_have_is : (bytes : List ℕ) → AreBytes bytes → get_or bytes 0 1 ≡ 2 → get_or bytes 1 0 ≡ 0 → get_or bytes 2 64 ≡ 64 → 67 ≤ length bytes →
    IsRead bytes (Have (cut_at bytes)) 67
read_have_is bytes fits kind high low enough = record {
  is_frame = have_is_frame bytes fits;
  sized = sym (length-have (cut_at bytes) (length-numbers_at 16 bytes 3));
  whole = enough;
  agrees = from_agrees bytes (frame_bytes (Have (cut_at bytes))) (have_agrees bytes fits kind high low);
}

-- ---- lengths that no frame has

abbrev NoCarryFront : List ℕ → Type 0
NoCarryFront bytes = (k : ℕ) → k ≤ 4 → ReadsAt bytes 0 1 → ReadsAt bytes 1 0 → ReadsAt bytes 2 (72 + 2 * k) → ⊥

abbrev NoHaveFront : List ℕ → Type 0
NoHaveFront bytes = ReadsAt bytes 0 2 → ReadsAt bytes 1 0 → ReadsAt bytes 2 64 → ⊥

no_front_of : (bytes : List ℕ) → NoCarryFront bytes → NoHaveFront bytes → (frame : Frame) → IsFrame frame →
    AgreesFrom (take 3 bytes) 0 (frame_bytes frame) → ⊥
no_front_of bytes no_carry no_have (Carry tx) is_frame h =
    let r = carry_reads (take 3 bytes) tx is_frame.range.count is_frame.widths.counts.sized h in
    no_carry tx.count is_frame.range.count (reads_front 3 bytes 0 1 (omega arith) r.kind) (reads_front 3 bytes 1 0 (omega arith) r.high)
    (reads_front 3 bytes 2 (72 + 2 * tx.count) (omega arith) r.low)
no_front_of bytes no_carry no_have (Have cut) is_frame h =
    let r = have_reads (take 3 bytes) cut h in
    no_have (reads_front 3 bytes 0 2 (omega arith) r.kind) (reads_front 3 bytes 1 0 (omega arith) r.high) (reads_front 3 bytes 2 64 (omega arith) r.low)

no_front : (bytes : List ℕ) → NoCarryFront bytes → NoHaveFront bytes → NoFrameAgrees (take 3 bytes)
no_front bytes no_carry no_have = record {
  none = λ frame is_frame agrees. no_front_of bytes no_carry no_have frame is_frame (agrees_from (take 3 bytes) (frame_bytes frame) agrees);
}

pub bad_high : (bytes : List ℕ) → (get_or bytes 0 1 ≡ 1) ⊎ (get_or bytes 0 1 ≡ 2) → get_or bytes 1 0 ≢ 0 → IsBadLength bytes
bad_high bytes kind other =
    let there : 1 < length bytes = there_if bytes 1 0 other in
    record {
      kind = kind_is bytes (omega arith) kind;
      none = no_front bytes (λ k small first high low. other (read_there bytes 1 0 0 there high)) (λ first high low. other (read_there bytes 1 0 0 there high));
    }

pub bad_carry_low : (bytes : List ℕ) → get_or bytes 0 1 ≡ 1 → ((k : ℕ) → k ≤ 4 → get_or bytes 2 72 ≢ 72 + 2 * k) → IsBadLength bytes
bad_carry_low bytes kind none =
    let there : 2 < length bytes = there_if bytes 2 72 (none 0 (omega arith)) in
    let first : 0 < length bytes = omega arith in
    record {
      kind = inl (first_is bytes 1 first kind);
      none = no_front bytes (λ k small one high low. none k small (read_there bytes 2 72 (72 + 2 * k) there low))
          (λ two high low. omega (arith, read_there bytes 0 1 2 first two, kind));
    }

pub bad_have_low : (bytes : List ℕ) → get_or bytes 0 1 ≡ 2 → get_or bytes 2 64 ≢ 64 → IsBadLength bytes
bad_have_low bytes kind other =
    let there : 2 < length bytes = there_if bytes 2 64 other in
    let first : 0 < length bytes = omega arith in
    record {
      kind = inr (first_is bytes 2 first kind);
      none = no_front bytes (λ k small one high low. omega (arith, read_there bytes 0 1 1 first one, kind))
          (λ two high low. other (read_there bytes 2 64 64 there low));
    }

-- ---- the frame that carries a transaction

-- the first three bytes are those of a frame with so many arguments, as far as they are there
pub record IsCarryFront (bytes : List ℕ) (count : ℕ) : Type 0 where
  pub small : count ≤ 4
  pub kind : get_or bytes 0 1 ≡ 1
  pub high : get_or bytes 1 0 ≡ 0
  pub low : get_or bytes 2 72 ≡ 72 + 2 * count

agrees_with_carried : (bytes : List ℕ) (count : ℕ) → AreBytes bytes → IsCarryFront bytes count → FieldsStand bytes count →
    Agrees bytes (frame_bytes (Carry (carried bytes count)))
agrees_with_carried bytes count fits front stand =
    from_agrees bytes (frame_bytes (Carry (carried bytes count))) (carried_agrees bytes count fits front.small front.kind front.high front.low stand)

length-carried : (bytes : List ℕ) (count : ℕ) → AreBytes bytes → count ≤ 4 → FieldsStand bytes count →
    length (frame_bytes (Carry (carried bytes count))) ≡ 75 + 2 * count
length-carried bytes count fits small stand =
    let f = carried_is_frame bytes count fits small stand in
    length-carry (carried bytes count) f.range.count f.widths.counts.sized f.widths.arguments ∙ ap (λ (k : ℕ). 75 + 2 * k) (carried_count bytes count)

pub short_carry : (bytes : List ℕ) (count : ℕ) → AreBytes bytes → IsCarryFront bytes count → FieldsStand bytes count → length bytes < 75 + 2 * count → IsShort bytes
short_carry bytes count fits front stand less =
    let size = length-carried bytes count fits front.small stand in
    record {
      frame = Carry (carried bytes count);
      is_frame = carried_is_frame bytes count fits front.small stand;
      agrees = agrees_with_carried bytes count fits front stand;
      longer = omega (arith, size);
    }

pub read_carry_is : (bytes : List ℕ) (count : ℕ) → AreBytes bytes → IsCarryFront bytes count → FieldsStand bytes count → 75 + 2 * count ≤ length bytes →
    IsRead bytes (Carry (carried bytes count)) (75 + 2 * count)
read_carry_is bytes count fits front stand enough = record {
  is_frame = carried_is_frame bytes count fits front.small stand;
  sized = sym (length-carried bytes count fits front.small stand);
  whole = enough;
  agrees = agrees_with_carried bytes count fits front stand;
}

front_fits : (bytes : List ℕ) → AreBytes bytes → AreBytes (take 3 bytes)
front_fits bytes fits place =
    elim (cases_lt place 3) [
      | inl lt ↦ omega (arith, get_or-take 3 bytes place 0 lt, fits place)
      | inr past ↦ omega (arith, get_or_past (take 3 bytes) place 0 (omega (arith, length-take 3 bytes)))
    ]

front_of_front : (bytes : List ℕ) (count : ℕ) → IsCarryFront bytes count → IsCarryFront (take 3 bytes) count
front_of_front bytes count front = record {
  small = front.small;
  kind = get_or-take 3 bytes 0 1 (omega arith) ∙ front.kind;
  high = get_or-take 3 bytes 1 0 (omega arith) ∙ front.high;
  low = get_or-take 3 bytes 2 72 (omega arith) ∙ front.low;
}

some_front : (bytes : List ℕ) (count : ℕ) → AreBytes bytes → IsCarryFront bytes count → SomeFrameAgrees (take 3 bytes)
some_front bytes count fits front =
    let stand = fillers_stand (take 3 bytes) count (omega (arith, length-take 3 bytes)) in
    let fit = front_fits bytes fits in
    record {
      frame = Carry (carried (take 3 bytes) count);
      is_frame = carried_is_frame (take 3 bytes) count fit front.small stand;
      agrees = agrees_with_carried (take 3 bytes) count fit (front_of_front bytes count front) stand;
    }

none_agrees_of : (bytes : List ℕ) (count : ℕ) → IsCarryFront bytes count → (FieldsStand bytes count → ⊥) → (frame : Frame) → IsFrame frame →
    AgreesFrom bytes 0 (frame_bytes frame) → ⊥
none_agrees_of bytes count front unmet (Carry tx) is_frame h =
    unmet (fields_stand bytes tx count is_frame.range is_frame.widths.number
    (carry_reads bytes tx is_frame.range.count is_frame.widths.counts.sized h) front.low)
none_agrees_of bytes count front unmet (Have cut) is_frame h =
    let r = have_reads bytes cut h in
    elim (cases_lt 0 (length bytes)) [
      | inl there ↦ omega (arith, read_there bytes 0 1 2 there r.kind, front.kind)
      | inr past ↦ unmet (fillers_stand bytes count (omega arith))
    ]

pub bad_field : (bytes : List ℕ) (count : ℕ) → AreBytes bytes → IsCarryFront bytes count → (FieldsStand bytes count → ⊥) → IsBadField bytes
bad_field bytes count fits front unmet = record {
  some = some_front bytes count fits front;
  none = record { none = λ frame is_frame agrees. none_agrees_of bytes count front unmet frame is_frame (agrees_from bytes (frame_bytes frame) agrees) };
}
