-- Bytes that agree with a list, place by place from some place on.
--     ReadsAt bytes place value         where the bytes have this place, they have the value there
--     AgreesFrom bytes place them       from this place on the bytes agree with the list
use Rattle.std.proofs.Common.{◌≡◌, ℕ, zero, suc, ◌+◌, ◌<◌, ◌⊎◌, List, [], ◌∷◌, ◌++◌, length, get_or, take, arith, sym, subst, ◌∙◌, inl, inr}
use Rattle.std.proofs.lemmas.Bool.{cases_lt}
use Rattle.std.proofs.lemmas.List.{get_or_past, get_or-take, length-take}
use Rattle.std.proofs.lemmas.Grind.{get_or_default_zero}
use Rattle.ipa_frame.specs.Frames.{Agrees}

-- where the bytes have this place, they have the value there
pub record ReadsAt (bytes : List ℕ) (place value : ℕ) : Type 0 where
  pub at : place < length bytes → get_or bytes place 0 ≡ value

-- from this place on the bytes agree with the list
abbrev pub AgreesFrom : List ℕ → ℕ → List ℕ → Type 0
AgreesFrom bytes place [] = Unit {0}
AgreesFrom bytes place (y ∷ ys) = ReadsAt bytes place y × AgreesFrom bytes (place + 1) ys

pub from_places : (bytes ys : List ℕ) (place : ℕ) →
    ((i j : ℕ) → place + i ≡ j → i < length ys → j < length bytes → get_or bytes j 0 ≡ get_or ys i 0) →
    AgreesFrom bytes place ys
from_places bytes [] place h = tt
from_places bytes (y ∷ ys) place h = (
  record { at = λ there. h 0 place (omega arith) (omega arith) there },
  from_places bytes ys (place + 1) (λ i j e lt there. h (suc i) j (omega arith) (omega arith) there),
)

pub at_places : (bytes ys : List ℕ) (place : ℕ) → AgreesFrom bytes place ys →
    (i j : ℕ) → place + i ≡ j → i < length ys → j < length bytes → get_or bytes j 0 ≡ get_or ys i 0
at_places bytes [] place h i j e lt there = absurd (omega arith)
at_places bytes (y ∷ ys) place h zero j e lt there =
    let same : place ≡ j = omega arith in
    subst (λ p. get_or bytes p 0 ≡ y) same (h.0.at (omega arith))
at_places bytes (y ∷ ys) place h (suc i) j e lt there =
    at_places bytes ys (place + 1) h.1 i j (omega arith) (omega arith) there

pub agrees_from : (bytes ys : List ℕ) → Agrees bytes ys → AgreesFrom bytes 0 ys
agrees_from bytes ys h =
    from_places bytes ys 0
    (λ i j e lt there. let same : i ≡ j = omega arith in
    subst (λ p. get_or bytes p 0 ≡ get_or ys i 0) same (h.same i (omega arith) lt))

pub from_agrees : (bytes ys : List ℕ) → AgreesFrom bytes 0 ys → Agrees bytes ys
from_agrees bytes ys h = record { same = λ place there lt. at_places bytes ys 0 h place place (omega arith) lt there }

pub joined : (bytes xs ys : List ℕ) (place next : ℕ) → place + length xs ≡ next →
    AgreesFrom bytes place xs → AgreesFrom bytes next ys → AgreesFrom bytes place (xs ++ ys)
joined bytes [] ys place next e first second =
    let same : next ≡ place = omega arith in subst (λ p. AgreesFrom bytes p ys) same second
joined bytes (x ∷ xs) ys place next e first second =
    (first.0, joined bytes xs ys (place + 1) next (omega arith) first.1 second)

pub split : (bytes xs ys : List ℕ) (place next : ℕ) → place + length xs ≡ next →
    AgreesFrom bytes place (xs ++ ys) → AgreesFrom bytes place xs × AgreesFrom bytes next ys
split bytes [] ys place next e both =
    let same : place ≡ next = omega arith in (tt, subst (λ p. AgreesFrom bytes p ys) same both)
split bytes (x ∷ xs) ys place next e both =
    let rest = split bytes xs ys (place + 1) next (omega arith) both.1 in ((both.0, rest.0), rest.1)

pub moved : (bytes : List ℕ) (i j value : ℕ) → i ≡ j → ReadsAt bytes i value → ReadsAt bytes j value
moved bytes i j value e h = subst (λ p. ReadsAt bytes p value) e h

pub reads : (bytes : List ℕ) (place filler : ℕ) → ReadsAt bytes place (get_or bytes place filler)
reads bytes place filler = record { at = λ there. sym (get_or_default_zero bytes place filler there) }

pub reads_as : (bytes : List ℕ) (place filler value : ℕ) → get_or bytes place filler ≡ value → ReadsAt bytes place value
reads_as bytes place filler value e = subst (λ v. ReadsAt bytes place v) e (reads bytes place filler)

pub read_there : (bytes : List ℕ) (place filler value : ℕ) → place < length bytes → ReadsAt bytes place value →
    get_or bytes place filler ≡ value
read_there bytes place filler value there h = get_or_default_zero bytes place filler there ∙ h.at there

-- the byte is the value where it is there, and else the filler
pub read_or : (bytes : List ℕ) (place filler value : ℕ) → ReadsAt bytes place value →
    (get_or bytes place filler ≡ value) ⊎ (get_or bytes place filler ≡ filler)
read_or bytes place filler value h =
    elim (cases_lt place (length bytes)) [
      | inl there ↦ inl (read_there bytes place filler value there h)
      | inr past ↦ inr (get_or_past bytes place filler past)
    ]

-- what the first bytes have, all have
pub reads_front : (n : ℕ) (bytes : List ℕ) (place value : ℕ) → place < n → ReadsAt (take n bytes) place value → ReadsAt bytes place value
reads_front n bytes place value lt h = record {
  at = λ there.
      let within : place < length (take n bytes) = omega (arith, length-take n bytes) in
      sym (get_or-take n bytes place 0 lt) ∙ h.at within;
}
