-- Numbers place by place.
use Rattle.std.proofs.Common.{◌≡◌, ℕ, zero, suc, ◌+◌, ◌*◌, ◌<◌, ◌≤◌, List, length, get_or, set, refl, arith, ap, sym, ◌∙◌, below_more, ◌≢◌}
use Rattle.std.proofs.lemmas.List.{get_or-set_other, get_or-set_same, length-set}
use Rattle.std.proofs.lemmas.Grind.{same_number_lists}
use Rattle.ipa_frame.specs.Reading.{number_at, numbers_at}

pub record AreReadBelow (count : ℕ) (bytes : List ℕ) (start : ℕ) (them : List ℕ) : Type 0 where
  pub sized : length them ≡ 16
  pub below : (k : ℕ) → k < count → get_or them k 0 ≡ number_at bytes (start + 4 * k) 0

pub AreReadBelow-more : (count : ℕ) (bytes : List ℕ) (start : ℕ) (them : List ℕ) (number : ℕ) →
    AreReadBelow count bytes start them → count < 16 → number ≡ number_at bytes (start + 4 * count) 0 →
    AreReadBelow (count + 1) bytes start (set them count number)
AreReadBelow-more count bytes start them number so_far small e = record {
  sized = length-set _ _ _ ∙ so_far.sized;
  below =
      below_more _ _
      (λ k lt. let other : k ≢ count = omega arith in rw get_or-set_other (so_far.below k lt))
      (let there : count < length them = omega (arith, so_far.sized) in rw get_or-set_same e);
}

pub length-numbers_at : (n : ℕ) (bytes : List ℕ) (start : ℕ) → length (numbers_at n bytes start) ≡ n
unfolding numbers_at
length-numbers_at zero bytes start = refl
length-numbers_at (suc n) bytes start = ap suc (length-numbers_at n bytes (start + 4))

pub get_or-numbers_at : (n : ℕ) (bytes : List ℕ) (start k place : ℕ) → k < n → start + 4 * k ≡ place →
    get_or (numbers_at n bytes start) k 0 ≡ number_at bytes place 0
unfolding numbers_at
get_or-numbers_at zero bytes start k place lt e = absurd (omega arith)
get_or-numbers_at (suc n) bytes start zero place lt e =
    let same : start ≡ place = omega arith in ap (λ p. number_at bytes p 0) same
get_or-numbers_at (suc n) bytes start (suc k) place lt e =
    get_or-numbers_at n bytes (start + 4) k place (omega arith) (omega arith)

pub all_read : (bytes : List ℕ) (start : ℕ) (them : List ℕ) (count : ℕ) → AreReadBelow count bytes start them → 16 ≤ count →
    them ≡ numbers_at 16 bytes start
all_read bytes start them count all past =
    same_number_lists them (numbers_at 16 bytes start) (all.sized ∙ sym (length-numbers_at 16 bytes start))
    (λ k lt. all.below k (omega (arith, all.sized)) ∙ sym (get_or-numbers_at 16 bytes start k (start + 4 * k) (omega (arith, all.sized)) refl))
