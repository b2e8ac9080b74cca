-- One fault, and one way to stop.
use Rattle.std.proofs.Common.{◌≡◌, ℕ, ◌<◌, ◌≤◌, ◌⊎◌, List, length, take, drop, get_or, refl, sym, ◌∙◌, ap, arith, inl, inr}
use Rattle.std.proofs.lemmas.List.{get_or-take, length-take}
use Rattle.ipa_frame.specs.Frames.{frame_bytes, Agrees, IsShort, IsBadKind, IsBadLength, IsBadField}
use Rattle.ipa_frame.specs.Laws.{OneFrame}
use Rattle.ipa_frame.specs.declared.frame.Frame.{Frame}
use Rattle.ipa_frame.specs.declared.frame.Frame.TheVariants.{Carry, Have}
use Rattle.ipa_frame.specs.declared.frame.FrameFault.{FrameFault}
use Rattle.ipa_frame.specs.declared.frame.FrameFault.TheVariants.{Short, BadKind, BadLength, BadField}
use Rattle.ipa_link.specs.Laws.{OneFault, NoneIsRefused, OneStop}
use Rattle.ipa_link.specs.Pours.{HasIllRest, HasNext}
use Rattle.ipa_link.specs.declared.pouring.Stop.TheVariants.{End, Garbled, NoMemory}
use Rattle.ipa_link.proofs.Steps.{frame_bytes-some}

-- the first byte of a frame
first_byte : (frame : Frame) → (get_or (frame_bytes frame) 0 0 ≡ 1) ⊎ (get_or (frame_bytes frame) 0 0 ≡ 2)
unfolding frame_bytes
first_byte (Carry tx) = inl refl
first_byte (Have cut) = inr refl

-- bytes that agree with a frame begin with a kind
kind_of : (bytes : List ℕ) (frame : Frame) → 0 < length bytes → Agrees bytes (frame_bytes frame) →
    (get_or bytes 0 0 ≡ 1) ⊎ (get_or bytes 0 0 ≡ 2)
kind_of bytes frame there agrees =
    let same : get_or bytes 0 0 ≡ get_or (frame_bytes frame) 0 0 = agrees.same 0 there (frame_bytes-some frame) in
    elim (first_byte frame) [ inl one ↦ inl (same ∙ one) | inr two ↦ inr (same ∙ two) ]

-- what all bytes agree with, the first agree with
Agrees-take : (n : ℕ) (bytes others : List ℕ) → Agrees bytes others → Agrees (take n bytes) others
Agrees-take n bytes others agrees = record {
  same = λ place there within.
      let front : place < n = omega (arith, there, length-take n bytes) in
      get_or-take n bytes place 0 front ∙ agrees.same place (omega (arith, there, length-take n bytes)) within;
}

not_kind : (bytes : List ℕ) → IsBadKind bytes → (get_or bytes 0 0 ≡ 1) ⊎ (get_or bytes 0 0 ≡ 2) → ⊥
not_kind bytes bad kind = elim kind [ inl one ↦ bad.no_carry one | inr two ↦ bad.no_have two ]

short_kind : (bytes : List ℕ) → IsShort bytes → IsBadKind bytes → ⊥
short_kind bytes short bad = not_kind bytes bad (kind_of bytes short.frame bad.there short.agrees)

short_length : (bytes : List ℕ) → IsShort bytes → IsBadLength bytes → ⊥
short_length bytes short bad =
    bad.none.none short.frame short.is_frame (Agrees-take 3 bytes (frame_bytes short.frame) short.agrees)

short_field : (bytes : List ℕ) → IsShort bytes → IsBadField bytes → ⊥
short_field bytes short bad = bad.none.none short.frame short.is_frame short.agrees

kind_length : (bytes : List ℕ) → IsBadKind bytes → IsBadLength bytes → ⊥
kind_length bytes bad long = not_kind bytes bad long.kind

kind_field : (bytes : List ℕ) → IsBadKind bytes → IsBadField bytes → ⊥
kind_field bytes bad field =
    let there = bad.there in
    let front : 0 < length (take 3 bytes) = omega (arith, there, length-take 3 bytes) in
    let same : get_or (take 3 bytes) 0 0 ≡ get_or bytes 0 0 = get_or-take 3 bytes 0 0 (omega arith) in
    not_kind bytes bad (elim (kind_of (take 3 bytes) field.some.frame front field.some.agrees) [
      | inl one ↦ inl (sym same ∙ one)
      | inr two ↦ inr (sym same ∙ two)
    ])

length_field : (bytes : List ℕ) → IsBadLength bytes → IsBadField bytes → ⊥
length_field bytes bad field = bad.none.none field.some.frame field.some.is_frame field.some.agrees

pub one_fault : OneFault
one_fault bytes Short Short one two = refl
one_fault bytes Short BadKind one two = absurd (short_kind bytes one two)
one_fault bytes Short BadLength one two = absurd (short_length bytes one two)
one_fault bytes Short BadField one two = absurd (short_field bytes one two)
one_fault bytes BadKind Short one two = absurd (short_kind bytes two one)
one_fault bytes BadKind BadKind one two = refl
one_fault bytes BadKind BadLength one two = absurd (kind_length bytes one two)
one_fault bytes BadKind BadField one two = absurd (kind_field bytes one two)
one_fault bytes BadLength Short one two = absurd (short_length bytes two one)
one_fault bytes BadLength BadKind one two = absurd (kind_length bytes two one)
one_fault bytes BadLength BadLength one two = refl
one_fault bytes BadLength BadField one two = absurd (length_field bytes one two)
one_fault bytes BadField Short one two = absurd (short_field bytes two one)
one_fault bytes BadField BadKind one two = absurd (kind_field bytes two one)
one_fault bytes BadField BadLength one two = absurd (length_field bytes two one)
one_fault bytes BadField BadField one two = refl

pub none_is_refused : OneFrame → NoneIsRefused
none_is_refused law bytes frame size Short is short =
    let sized = is.sized in
    let whole = is.whole in
    let longer = short.longer in
    let fits : length (frame_bytes frame) ≤ length bytes = omega (arith, sized, whole) in
    let same = law bytes frame short.frame is.is_frame fits is.agrees short.is_frame short.agrees in
    let long : length (frame_bytes frame) ≡ length (frame_bytes short.frame)
    = ap (λ (f : Frame). length (frame_bytes f)) same in
    absurd (omega (arith, fits, longer, long))
none_is_refused law bytes frame size BadKind is bad =
    not_kind bytes bad (kind_of bytes frame bad.there is.agrees)
none_is_refused law bytes frame size BadLength is bad =
    bad.none.none frame is.is_frame (Agrees-take 3 bytes (frame_bytes frame) is.agrees)
none_is_refused law bytes frame size BadField is bad = bad.none.none frame is.is_frame is.agrees

-- at the end no bytes are left
ended : (bytes : List ℕ) (read : ℕ) → read ≡ length bytes → read < length bytes → ⊥
ended bytes read all more = absurd (omega (arith, all, more))

ill_next : OneFrame → (bytes : List ℕ) (read : ℕ) (fault : FrameFault) → HasIllRest bytes read fault →
    HasNext bytes read → ⊥
ill_next law bytes read fault ill next =
    none_is_refused law (drop read bytes) (Carry next.tx) next.size fault next.front ill.refused

pub stops_one : OneFrame → OneStop
stops_one law bytes read End End one two = refl
stops_one law bytes read End (Garbled fault) one two = absurd (ended bytes read one two.more)
stops_one law bytes read End NoMemory one two = absurd (ended bytes read one two.more)
stops_one law bytes read (Garbled fault) End one two = absurd (ended bytes read two one.more)
stops_one law bytes read (Garbled fault) (Garbled other) one two =
    ap Garbled (one_fault (drop read bytes) fault other one.refused two.refused)
stops_one law bytes read (Garbled fault) NoMemory one two = absurd (ill_next law bytes read fault one two)
stops_one law bytes read NoMemory End one two = absurd (ended bytes read two one.more)
stops_one law bytes read NoMemory (Garbled fault) one two = absurd (ill_next law bytes read fault two one)
stops_one law bytes read NoMemory NoMemory one two = refl
