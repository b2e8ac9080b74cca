-- Laws of lists that branch by their first element, as tuples and patterns do.
--
--   Listed-branches      a first element and a listed rest
--   listed_branch        what is listed is one
--   Rises-branches       the order by first element, and then by rest
--   get-branches         the place of a list, where the branches are equally long
--   length-branches      the number of lists
use Rattle.std.proofs.Common.{◌≡◌, ℕ, zero, suc, ◌+◌, ◌*◌, ◌<◌, List, [], ◌∷◌, ◌++◌, length, map, Some, refl, sym, ap, ◌∙◌, subst, arith, inl, inr, slice_get}
use Rattle.std.specs.List.Sorted.{IsStrictlySortedBy}
use Rattle.std.specs.Ordering.{nat_cmp}
use Rattle.std.specs.Cmp.{nat_cmp_is, nat_cmp_total, tied_itself}
use Rattle.std.specs.Cmp.Lexicographic.{slice_cmp}
use Rattle.std.specs.declared.cmp.Ordering.TheVariants.{Less}
use Rattle.std.proofs.lemmas.Bool.{cases_lt}
use Rattle.std.proofs.lemmas.List.{append-nil, length-append, length-map}
use Rattle.std.proofs.lemmas.List.Concat.{flat_map-append}
use Rattle.ipa_ground.specs.Enumeration.{numbers, branches, IsListed}
use Rattle.ipa_ground.specs.ListLaws.{get-left, get-right, get-map, Listed-append_left, Listed-append_right, listed_in, Listed-map, listed_map, Rises-append, Rises-map, Rises-none}

-- a lesser number comes first
pub less-from_lt : (x y : ℕ) → x < y → nat_cmp x y ≡ Less
less-from_lt x y l = sym (nat_cmp_is x y Less l)

module _ (of : ℕ → List (List ℕ)) where
  -- the lists that begin with x
  abbrev pub branch : ℕ → List (List ℕ)
  branch x = map (λ (rest : List ℕ). x ∷ rest) (of x)

  -- one number more
  pub branches-suc : (n : ℕ) → branches (suc n) of ≡ branches n of ++ branch n
  unfolding numbers
  branches-suc n = flat_map-append branch (numbers n) (n ∷ []) ∙ ap (λ (ys : List (List ℕ)). branches n of ++ ys) (append-nil (branch n))

  branches-zero : branches 0 of ≡ []
  unfolding numbers
  branches-zero = refl

  -- a first element and a listed rest
  pub Listed-branches : (n x : ℕ) (rest : List ℕ) → x < n → IsListed (of x) rest → IsListed (branches n of) (x ∷ rest)
  Listed-branches zero x rest l h = absurd (omega arith)
  Listed-branches (suc n) x rest l h = subst (λ xs. IsListed xs (x ∷ rest)) (sym (branches-suc n)) (elim (cases_lt x n) [
    | inl lt ↦ Listed-append_left (branches n of) (branch n) (x ∷ rest) (Listed-branches n x rest lt h)
    | inr ge ↦ Listed-append_right (branches n of) (branch n) (x ∷ rest)
        (let same : x ≡ n = omega arith in subst (λ (k : ℕ). IsListed (branch k) (x ∷ rest)) same (Listed-map (λ (rest : List ℕ). x ∷ rest) (of x) rest h))
  ])

  -- what is listed begins with a number below n and goes on with a listed rest
  pub record IsBranch (n : ℕ) (xs : List ℕ) : Type 0 where
    pub first : ℕ
    pub rest : List ℕ
    pub is : first ∷ rest ≡ xs
    pub below : first < n
    pub listed : IsListed (of first) rest

  pub listed_branch : (n : ℕ) (xs : List ℕ) → IsListed (branches n of) xs → IsBranch n xs
  listed_branch zero xs h = let none : IsListed [] xs = subst (λ ys. IsListed ys xs) branches-zero h in cc
  listed_branch (suc n) xs h = elim (listed_in (branches n of) (branch n) xs (subst (λ ys. IsListed ys xs) (branches-suc n) h)) [
    | inl before ↦ let b = listed_branch n xs before in record { first = b.first; rest = b.rest; is = b.is; below = omega (arith, b.below); listed = b.listed }
    | inr last ↦ let m = listed_map (λ (rest : List ℕ). n ∷ rest) (of n) xs last in record { first = n; rest = m.from; is = m.is; below = omega arith; listed = m.listed }
  ]

  -- the order by first element, and then by rest
  pub Rises-branches : (n : ℕ) → ((x : ℕ) → x < n → IsStrictlySortedBy (slice_cmp nat_cmp) (of x)) → IsStrictlySortedBy (slice_cmp nat_cmp) (branches n of)
  Rises-branches zero h = subst (IsStrictlySortedBy (slice_cmp nat_cmp)) (sym branches-zero) (Rises-none (slice_cmp nat_cmp))
  Rises-branches (suc n) h = subst (IsStrictlySortedBy (slice_cmp nat_cmp)) (sym (branches-suc n))
      (Rises-append (slice_cmp nat_cmp) (branches n of) (branch n)
      (Rises-branches n (λ x l. h x (omega arith)))
      (Rises-map (slice_cmp nat_cmp) (slice_cmp nat_cmp) (λ (rest : List ℕ). n ∷ rest) (of n) (λ a b _ _ l. rw (tied_itself nat_cmp_total n) l) (h n (omega arith)))
      (λ a b l m.
      let p = listed_branch n a l in
      let q = listed_map (λ (rest : List ℕ). n ∷ rest) (of n) b m in
      subst (λ (z : List ℕ). slice_cmp nat_cmp z b ≡ Less) p.is (subst (λ (z : List ℕ). slice_cmp nat_cmp (p.first ∷ p.rest) z ≡ Less) q.is
      (rw (less-from_lt p.first n p.below) refl))))

  -- the number of lists, where the branches are equally long
  pub length-branches : (n size : ℕ) → ((x : ℕ) → x < n → length (of x) ≡ size) → length (branches n of) ≡ n * size
  length-branches zero size h = ap length branches-zero ∙ omega arith
  length-branches (suc n) size h =
      let last : length (branch n) ≡ size = length-map (of n) (λ (rest : List ℕ). n ∷ rest) ∙ h n (omega arith) in
      let before : length (branches n of) ≡ n * size = length-branches n size (λ x l. h x (omega arith)) in
      ap length (branches-suc n) ∙ (length-append (branches n of) (branch n) ∙ omega arith)

  -- the place of a list, where the branches are equally long
  pub get-branches : (n size x k : ℕ) (rest : List ℕ) → ((y : ℕ) → y < n → length (of y) ≡ size) → x < n → slice_get (of x) k ≡ Some rest → slice_get (branches n of) (x * size + k) ≡ Some (x ∷ rest)
  get-branches zero size x k rest h l e = absurd (omega arith)
  get-branches (suc n) size x k rest h l e =
      ap (λ xs. slice_get xs (x * size + k)) (branches-suc n) ∙ elim (cases_lt x n) [
        | inl lt ↦ get-left (branches n of) (branch n) (x * size + k) (x ∷ rest) (get-branches n size x k rest (λ y below. h y (omega arith)) lt e)
        | inr ge ↦
            let same : x ≡ n = omega arith in
            let before : length (branches n of) ≡ n * size = length-branches n size (λ y below. h y (omega arith)) in
            let place : x * size + k ≡ length (branches n of) + k = ap (λ m. m * size + k) same ∙ ap (λ m. m + k) (sym before) in
            ap (slice_get (branches n of ++ branch n)) place ∙ (get-right (branches n of) (branch n) k ∙
            subst (λ m. slice_get (branch m) k ≡ Some (x ∷ rest)) same (get-map (λ (rest : List ℕ). x ∷ rest) (of x) k rest e))
      ]
