-- The numbers that are read agree with the bytes, and are the ones that were written.
use Rattle.std.proofs.Common.{◌≡◌, ℕ, zero, suc, ◌+◌, ◌*◌, ◌<◌, ◌≤◌, ◌^◌, List, [], ◌∷◌, length, get_or, take, refl, arith, ap, sym, subst, ◌∙◌, inl, inr}
use Rattle.std.specs.Int.{w16, w32, to_be_bytes, from_be_bytes}
use Rattle.std.proofs.lemmas.Bool.{cases_lt, le-ltb}
use Rattle.std.proofs.lemmas.List.{get_or_past}
use Rattle.std.proofs.lemmas.Grind.{get_or_default_zero, same_number_lists}
use Rattle.std.proofs.lemmas.Nat.{be_bytes_2, be_bytes_4, from_be_bytes-to_be_bytes_4}
use Rattle.ipa_frame.specs.Frames.{numbers, short_numbers}
use Rattle.ipa_frame.specs.Reading.{number_at, short_at, numbers_at, argument_at}
use Rattle.ipa_frame.proofs.Agreement.{AgreesFrom, at_places, joined, moved, reads}
use Rattle.ipa_frame.proofs.Fields.{get_or-numbers_at, length-numbers_at}

abbrev pub AreBytes : List ℕ → Type 0
AreBytes bytes = (place : ℕ) → get_or bytes place 0 < 256

pub byte_fits : (bytes : List ℕ) (place filler : ℕ) → AreBytes bytes → filler < 256 → get_or bytes place filler < 256
byte_fits bytes place filler fits small =
    elim (cases_lt place (length bytes)) [
      | inl there ↦ omega (arith, fits place, get_or_default_zero bytes place filler there)
      | inr past ↦ omega (arith, get_or_past bytes place filler past)
    ]

abbrev four_at : List ℕ → ℕ → ℕ → List ℕ
four_at bytes place filler =
    get_or bytes place filler ∷ get_or bytes (place + 1) filler ∷ get_or bytes (place + 2) filler ∷ get_or bytes (place + 3) filler ∷ []

four_fit : (a b c d : ℕ) → a < 256 → b < 256 → c < 256 → d < 256 → AreBytes (a ∷ b ∷ c ∷ d ∷ [])
four_fit a b c d fa fb fc fd zero = fa
four_fit a b c d fa fb fc fd (suc zero) = fb
four_fit a b c d fa fb fc fd (suc (suc zero)) = fc
four_fit a b c d fa fb fc fd (suc (suc (suc zero))) = fd
four_fit a b c d fa fb fc fd (suc (suc (suc (suc place)))) = omega arith

two_fit : (a b : ℕ) → a < 256 → b < 256 → AreBytes (a ∷ b ∷ [])
two_fit a b fa fb zero = fa
two_fit a b fa fb (suc zero) = fb
two_fit a b fa fb (suc (suc place)) = omega arith

pub number_agrees : (bytes : List ℕ) (place filler : ℕ) → AreBytes bytes → filler < 256 →
    AgreesFrom bytes place (to_be_bytes w32 (number_at bytes place filler))
unfolding number_at
number_agrees bytes place filler fits small =
    let same : to_be_bytes w32 (from_be_bytes w32 (four_at bytes place filler)) ≡ four_at bytes place filler
    = be_bytes_4 (four_at bytes place filler) (from_be_bytes w32 (four_at bytes place filler)) refl
    (four_fit (get_or bytes place filler) (get_or bytes (place + 1) filler) (get_or bytes (place + 2) filler) (get_or bytes (place + 3) filler)
    (byte_fits bytes place filler fits small) (byte_fits bytes (place + 1) filler fits small) (byte_fits bytes (place + 2) filler fits small) (byte_fits bytes (place + 3) filler fits small)) refl in
    subst (λ (them : List ℕ). AgreesFrom bytes place them) (sym same) (
      reads bytes place filler,
      (
        reads bytes (place + 1) filler,
        (
          moved bytes (place + 2) (place + 1 + 1) (get_or bytes (place + 2) filler) (omega arith) (reads bytes (place + 2) filler),
          (moved bytes (place + 3) (place + 1 + 1 + 1) (get_or bytes (place + 3) filler) (omega arith) (reads bytes (place + 3) filler), tt),
        ),
      ),
    )

pub number_fits : (bytes : List ℕ) (place filler : ℕ) → AreBytes bytes → filler < 256 → number_at bytes place filler < 2 ^ 32
unfolding number_at
number_fits bytes place filler fits small =
    omega (arith, byte_fits bytes place filler fits small, byte_fits bytes (place + 1) filler fits small, byte_fits bytes (place + 2) filler fits small, byte_fits bytes (place + 3) filler fits small)

-- a number whose last byte is missing is filled by a filler that is not 0
pub number_filled : (bytes : List ℕ) → length bytes ≤ 7 → 1 ≤ number_at bytes 4 255
unfolding number_at
number_filled bytes short = omega (arith, get_or_past bytes 7 255 short)

four_is : (bytes : List ℕ) (place filler k : ℕ) → k < 4 → get_or (four_at bytes place filler) k 0 ≡ get_or bytes (place + k) filler
four_is bytes place filler zero lt = let same : place ≡ place + 0 = omega arith in ap (λ p. get_or bytes p filler) same
four_is bytes place filler (suc zero) lt = refl
four_is bytes place filler (suc (suc zero)) lt = refl
four_is bytes place filler (suc (suc (suc zero))) lt = refl
four_is bytes place filler (suc (suc (suc (suc k)))) lt = absurd (omega arith)

four_read : (bytes : List ℕ) (place filler : ℕ) (ys : List ℕ) → length ys ≡ 4 → place + 3 < length bytes →
    AgreesFrom bytes place ys → four_at bytes place filler ≡ ys
four_read bytes place filler ys sized there h =
    same_number_lists (four_at bytes place filler) ys (sym sized)
    (λ k lt. let small : k < 4 = lt in
    let within : place + k < length bytes = omega arith in
    four_is bytes place filler k small ∙ (get_or_default_zero bytes (place + k) filler within
    ∙ at_places bytes ys place h k (place + k) refl (omega arith) within))

pub number_back : (bytes : List ℕ) (place filler n : ℕ) → n < 2 ^ 32 → place + 3 < length bytes →
    AgreesFrom bytes place (to_be_bytes w32 n) → number_at bytes place filler ≡ n
unfolding number_at
number_back bytes place filler n small there h =
    ap (from_be_bytes w32) (four_read bytes place filler (to_be_bytes w32 n) refl there h) ∙ from_be_bytes-to_be_bytes_4 n small

pub numbers_agree : (n : ℕ) (bytes : List ℕ) (place : ℕ) → AreBytes bytes → AgreesFrom bytes place (numbers (numbers_at n bytes place))
unfolding numbers_at
numbers_agree zero bytes place fits = tt
numbers_agree (suc n) bytes place fits =
    joined bytes (to_be_bytes w32 (number_at bytes place 0)) (numbers (numbers_at n bytes (place + 4))) place (place + 4) refl
    (number_agrees bytes place 0 fits (omega arith)) (numbers_agree n bytes (place + 4) fits)

pub length-numbers : (them : List ℕ) → length (numbers them) ≡ 4 * length them
length-numbers [] = refl
length-numbers (n ∷ ns) = omega (arith, length-numbers ns)

pub length-short_numbers : (them : List ℕ) → length (short_numbers them) ≡ 2 * length them
length-short_numbers [] = refl
length-short_numbers (n ∷ ns) = omega (arith, length-short_numbers ns)

pub numbers_fit : (n : ℕ) (bytes : List ℕ) (place k : ℕ) → AreBytes bytes → get_or (numbers_at n bytes place) k 0 < 2 ^ 32
numbers_fit n bytes place k fits =
    elim (cases_lt k n) [
      | inl lt ↦ omega (arith, get_or-numbers_at n bytes place k (place + 4 * k) lt refl, number_fits bytes (place + 4 * k) 0 fits (omega arith))
      | inr past ↦ omega (arith, get_or_past (numbers_at n bytes place) k 0 (omega (arith, length-numbers_at n bytes place)))
    ]

short_agrees : (bytes : List ℕ) (place : ℕ) → AreBytes bytes → AgreesFrom bytes place (to_be_bytes w16 (short_at bytes place))
unfolding short_at
short_agrees bytes place fits =
    let two : List ℕ = get_or bytes place 0 ∷ get_or bytes (place + 1) 0 ∷ [] in
    let same : to_be_bytes w16 (from_be_bytes w16 two) ≡ two
    = be_bytes_2 two (from_be_bytes w16 two) refl (two_fit (get_or bytes place 0) (get_or bytes (place + 1) 0) (fits place) (fits (place + 1))) refl in
    subst (λ (them : List ℕ). AgreesFrom bytes place them) (sym same) (reads bytes place 0, (reads bytes (place + 1) 0, tt))

pub short_fits : (bytes : List ℕ) (place : ℕ) → AreBytes bytes → short_at bytes place < 2 ^ 16
unfolding short_at
short_fits bytes place fits = omega (arith, fits place, fits (place + 1))

abbrev pub arguments_at : List ℕ → ℕ → List ℕ
arguments_at bytes count = argument_at bytes count 0 ∷ argument_at bytes count 1 ∷ argument_at bytes count 2 ∷ argument_at bytes count 3 ∷ []

pub argument_none : (bytes : List ℕ) (count place : ℕ) → count ≤ place → argument_at bytes count place ≡ 0
unfolding argument_at
argument_none bytes count place past = rw (le-ltb place count past) refl

pub argument_fits : (bytes : List ℕ) (count place : ℕ) → AreBytes bytes → argument_at bytes count place < 2 ^ 16
unfolding argument_at
argument_fits bytes count place fits = grind (arith, short_fits bytes (75 + 2 * place) fits)

pub arguments_fit : (bytes : List ℕ) (count place : ℕ) → AreBytes bytes → get_or (arguments_at bytes count) place 0 < 2 ^ 16
arguments_fit bytes count zero fits = argument_fits bytes count 0 fits
arguments_fit bytes count (suc zero) fits = argument_fits bytes count 1 fits
arguments_fit bytes count (suc (suc zero)) fits = argument_fits bytes count 2 fits
arguments_fit bytes count (suc (suc (suc zero))) fits = argument_fits bytes count 3 fits
arguments_fit bytes count (suc (suc (suc (suc place)))) fits = omega arith

pub arguments_unused : (bytes : List ℕ) (count place : ℕ) → count ≤ place → get_or (arguments_at bytes count) place 0 ≡ 0
arguments_unused bytes count zero past = argument_none bytes count 0 past
arguments_unused bytes count (suc zero) past = argument_none bytes count 1 past
arguments_unused bytes count (suc (suc zero)) past = argument_none bytes count 2 past
arguments_unused bytes count (suc (suc (suc zero))) past = argument_none bytes count 3 past
arguments_unused bytes count (suc (suc (suc (suc place)))) past = refl

pub arguments_agree : (bytes : List ℕ) (count : ℕ) → count ≤ 4 → AreBytes bytes →
    AgreesFrom bytes 75 (short_numbers (take count (arguments_at bytes count)))
unfolding argument_at
arguments_agree bytes zero small fits = tt
arguments_agree bytes (suc zero) small fits =
    joined bytes (to_be_bytes w16 (short_at bytes 75)) [] 75 77 refl (short_agrees bytes 75 fits) tt
arguments_agree bytes (suc (suc zero)) small fits =
    joined bytes (to_be_bytes w16 (short_at bytes 75)) (short_numbers (short_at bytes 77 ∷ [])) 75 77 refl (short_agrees bytes 75 fits)
    (joined bytes (to_be_bytes w16 (short_at bytes 77)) [] 77 79 refl (short_agrees bytes 77 fits) tt)
arguments_agree bytes (suc (suc (suc zero))) small fits =
    joined bytes (to_be_bytes w16 (short_at bytes 75)) (short_numbers (short_at bytes 77 ∷ short_at bytes 79 ∷ [])) 75 77 refl (short_agrees bytes 75 fits)
    (joined bytes (to_be_bytes w16 (short_at bytes 77)) (short_numbers (short_at bytes 79 ∷ [])) 77 79 refl (short_agrees bytes 77 fits)
    (joined bytes (to_be_bytes w16 (short_at bytes 79)) [] 79 81 refl (short_agrees bytes 79 fits) tt))
arguments_agree bytes (suc (suc (suc (suc zero)))) small fits =
    joined bytes (to_be_bytes w16 (short_at bytes 75)) (short_numbers (short_at bytes 77 ∷ short_at bytes 79 ∷ short_at bytes 81 ∷ [])) 75 77 refl (short_agrees bytes 75 fits)
    (joined bytes (to_be_bytes w16 (short_at bytes 77)) (short_numbers (short_at bytes 79 ∷ short_at bytes 81 ∷ [])) 77 79 refl (short_agrees bytes 77 fits)
    (joined bytes (to_be_bytes w16 (short_at bytes 79)) (short_numbers (short_at bytes 81 ∷ [])) 79 81 refl (short_agrees bytes 79 fits)
    (joined bytes (to_be_bytes w16 (short_at bytes 81)) [] 81 83 refl (short_agrees bytes 81 fits) tt)))
arguments_agree bytes (suc (suc (suc (suc (suc count))))) small fits = absurd (omega arith)
