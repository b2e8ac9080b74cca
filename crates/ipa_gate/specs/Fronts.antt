-- The first items of a list.
--
--   UpTo P xs n           it holds of each of the first n items
--   HasFront P xs n       there are so many, and it holds of each
--   front-none, front-all      of no items; of all of them
--   front-append          of a list with more at its end
--   front-weaker          of what follows
--   front-next            of one item more
--   filter-later          what a test keeps is among the later items, where it keeps none of the first n
use Rattle.std.proofs.Common.{◌≡◌, ℕ, zero, suc, ◌+◌, ◌<◌, ◌≤◌, Bool, false, cond, List, [], ◌∷◌, ◌++◌, length, filter, drop, slice_get, Some, refl, sym, ◌∙◌, ap, subst, arith, inl, inr}
use Rattle.std.proofs.lemmas.Bool.{cases_lt}
use Rattle.std.proofs.lemmas.Option.{slice_get_within}
use Rattle.std.proofs.lemmas.List.{length-append}
use Rattle.ipa_history.specs.Histories.{IsMember}

-- it holds of each of the first n items
abbrev pub UpTo : {X : Type 0} (P : X → Type 0) (xs : List X) (n : ℕ) → Type 0
UpTo P xs n = (k : ℕ) (x : _) → k < n → slice_get xs k ≡ Some x → P x

-- there are so many items, and it holds of each of them
pub record HasFront {X : Type 0} (P : X → Type 0) (xs : List X) (n : ℕ) : Type 0 where
  pub within : n ≤ length xs
  pub each : UpTo P xs n

-- of no items
pub front-none : {X : Type 0} (P : X → Type 0) (xs : List X) → HasFront P xs 0
front-none P xs = record { within = omega arith; each = λ k x l at. absurd (omega (arith, l)) }

-- of all of them
pub front-all : {X : Type 0} (P : X → Type 0) (xs : List X) → ((x : X) → IsMember xs x → P x) →
    HasFront P xs (length xs)
front-all P xs each = record { within = omega arith; each = λ k x l at. each x (record { place = k; at = at }) }

-- an item of the front of a longer list
at_front : {X : Type 0} (xs ys : List X) (k : ℕ) (x : X) → k < length xs → slice_get (xs ++ ys) k ≡ Some x →
    slice_get xs k ≡ Some x
at_front [] ys k x l e = absurd (omega (arith, l))
at_front (z ∷ zs) ys zero x l e = e
at_front (z ∷ zs) ys (suc k) x l e = at_front zs ys k x (omega (arith, l)) e

-- of a list with more at its end
pub front-append : {X : Type 0} (P : X → Type 0) (xs ys : List X) (n : ℕ) → HasFront P xs n → HasFront P (xs ++ ys) n
front-append P xs ys n front =
    let within = front.within in record {
      within = let size = length-append xs ys in omega (arith, within, size);
      each = λ k x l at. front.each k x l (at_front xs ys k x (omega (arith, l, within)) at);
    }

-- of what follows
pub front-weaker : {X : Type 0} (P Q : X → Type 0) (xs : List X) (n : ℕ) → ((x : X) → P x → Q x) → HasFront P xs n →
    HasFront Q xs n
front-weaker P Q xs n weaker front =
    record { within = front.within; each = λ k x l at. weaker x (front.each k x l at) }

-- of one item more
pub front-next : {X : Type 0} (P : X → Type 0) (xs : List X) (n : ℕ) (x : X) → HasFront P xs n → slice_get xs n ≡ Some x →
    P x → HasFront P xs (n + 1)
front-next P xs n x front at here = record {
  within = let inside = slice_get_within xs n x at in omega (arith, inside);
  each = λ k y l there. elim (cases_lt k n) [
    | inl less ↦ front.each k y less there
    | inr last ↦
        let same : k ≡ n = omega (arith, l, last) in
        let both : Some x ≡ Some y = sym at ∙ (ap (slice_get xs) (sym same) ∙ there) in
        let equal : x ≡ y = cc in
        subst P equal here
  ];
}

-- what a test keeps is among the later items
pub filter-later : {X : Type 0} (p : X → Bool) (xs : List X) (n : ℕ) → UpTo (λ x. p x ≡ false) xs n →
    filter p (drop n xs) ≡ filter p xs
filter-later p xs zero none = refl
filter-later p [] (suc n) none = refl
filter-later p (x ∷ xs) (suc n) none =
    filter-later p xs n (λ k y l at. none (suc k) y (omega (arith, l)) at)
    ∙ sym (ap (λ (b : Bool). cond b (x ∷ filter p xs) (filter p xs)) (none 0 x (omega arith) refl))
