-- Counting patterns.
use Rattle.std.proofs.Common.{◌≡◌, ℕ, zero, suc, ◌+◌, ◌*◌, ◌^◌, ◌<◌, ◌≤◌, ◌≢◌, ◌==◌, cond, ltb, List, [], ◌∷◌, length, replicate, set, refl, sym, ap, ◌∙◌, subst, arith, inl, inr, add-one}
use Rattle.std.specs.List.{slice_index, count_by}
use Rattle.std.proofs.lemmas.Bool.{cases_lt, cases_eq, cond-true, cond-false, eq-eqb, ne_eqb, lt-ltb, le-ltb}
use Rattle.std.proofs.lemmas.List.{length-append, length-map, length-replicate, length-set, get_or-replicate, get_or-set_same, get_or-set_other}
use Rattle.std.proofs.lemmas.List.Recursion.{is_count_by}
use Rattle.std.proofs.lemmas.Nat.{mul-le, pow-add}
use Rattle.std.proofs.lemmas.Grind.{pow_more}
use Rattle.std.proofs.Math.Nat.{pow-le-pow_right}
use Rattle.ipa_logic.specs.Facts.{Universe, size_of}
use Rattle.ipa_ground.specs.Enumeration.{branches}
use Rattle.ipa_ground.specs.BranchLaws.{branch, branches-suc, length-branches}
use Rattle.ipa_ground.specs.Patterns.{AreConstants, AreSorts, opened, patterns_from, patterns}
use Rattle.ipa_ground.specs.PatternCounts.{ways, AreWays, variables_of, product_below}
use Rattle.ipa_ground.specs.ClassLaws.{AreSortsOf, length-opened, size-opened, size-other, opened-in_use}

-- no variable, and one variable more
ways-none : (k : ℕ) → ways 0 k ≡ 1
unfolding ways
ways-none k = refl

ways-next : (n k : ℕ) → ways (n + 1) k ≡ k * ways n k + ways n (k + 1)
unfolding ways
ways-next n k = ap (λ m. ways m k) (add-one n)

-- no variable has more than sixteen classes to choose from
pub ways-bound : (n k : ℕ) → k + n ≤ 16 → ways n k ≤ 16 ^ n
unfolding ways
ways-bound zero k l = omega arith
ways-bound (suc n) k l =
    let here = ways-bound n k (omega arith) in
    let there = ways-bound n (k + 1) (omega arith) in
    let times : k * ways n k ≤ 15 * 16 ^ n = mul-le k (ways n k) 15 (16 ^ n) (omega arith) here in
    omega (arith, pow_more 16 n)

pub power-sixteen : (n : ℕ) → n ≤ 12 → 16 ^ n ≤ 16 ^ 12
power-sixteen n l = pow-le-pow_right {n = 16} (omega arith) l

-- the row for no variable
pub ways-first : AreWays (replicate 17 1) 0
ways-first = record {
  width = length-replicate {A = ℕ} 17 1;
  each = λ k l. get_or-replicate 17 k 1 0 (omega arith) ∙ sym (ways-none k);
}

-- the first places of a row for n variables are those for one more
pub record AreNextBelow (row : List ℕ) (n k : ℕ) : Type 0 where
  pub width : length row ≡ 17
  pub next : (j : ℕ) → j < k → slice_index row j ≡ ways (n + 1) j
  pub rest : (j : ℕ) → k ≤ j → j + n ≤ 16 → slice_index row j ≡ ways n j

pub next-none : (row : List ℕ) (n : ℕ) → AreWays row n → AreNextBelow row n 0
next-none row n h = record { width = h.width; next = λ j l. absurd (omega arith); rest = λ j l m. h.each j m }

-- the next place of it, which fits
next-value : (row : List ℕ) (n k : ℕ) → k + n < 16 → AreNextBelow row n k →
    k * slice_index row k + slice_index row (k + 1) ≡ ways (n + 1) k
next-value row n k few h =
    let here = h.rest k (omega arith) (omega arith) in
    let there = h.rest (k + 1) (omega arith) (omega arith) in
    (λ i. k * here i + there i) ∙ sym (ways-next n k)

pub next-fits : (row : List ℕ) (n k : ℕ) → n < 12 → k + n < 16 → AreNextBelow row n k →
    k * slice_index row k + slice_index row (k + 1) ≤ 16 ^ 12
next-fits row n k below few h =
    omega (arith, next-value row n k few h, ways-bound (n + 1) k (omega arith), power-sixteen (n + 1) (omega arith))

pub next-more : (row : List ℕ) (n k : ℕ) → k + n < 16 → AreNextBelow row n k →
    AreNextBelow (set row k (k * slice_index row k + slice_index row (k + 1))) n (k + 1)
next-more row n k few h = record {
  width = length-set row k (k * slice_index row k + slice_index row (k + 1)) ∙ h.width;
  next = λ j l. elim (cases_eq j k) [
    | inl same ↦ ap (slice_index (set row k (k * slice_index row k + slice_index row (k + 1)))) same
        ∙ (get_or-set_same row k (k * slice_index row k + slice_index row (k + 1)) 0 (omega (arith, h.width))
        ∙ (next-value row n k few h ∙ ap (ways (n + 1)) (sym same)))
    | inr other ↦ get_or-set_other row k j (k * slice_index row k + slice_index row (k + 1)) 0 other
        ∙ h.next j (omega arith)
  ];
  rest = λ j l m. (let other : j ≢ k = omega arith in
      get_or-set_other row k j (k * slice_index row k + slice_index row (k + 1)) 0 other ∙ h.rest j (omega arith) m);
}

pub next-all : (row : List ℕ) (n k : ℕ) → 16 ≤ k + n → AreNextBelow row n k → AreWays row (n + 1)
next-all row n k all h = record { width = h.width; each = λ j l. h.next j (omega arith) }

-- equal factors
product-same : (f g : ℕ → ℕ) (n : ℕ) → ((j : ℕ) → j < n → f j ≡ g j) → product_below f n ≡ product_below g n
unfolding product_below
product-same f g zero h = refl
product-same f g (suc n) h = λ i. product-same f g n (λ j l. h j (omega arith)) i * h n (omega arith) i

product-ones : (f : ℕ → ℕ) (n : ℕ) → ((j : ℕ) → f j ≡ 1) → product_below f n ≡ 1
unfolding product_below
product-ones f zero h = refl
product-ones f (suc n) h = (λ i. product-ones f n h i * h n i)

-- a product in which one factor is a sum
product-split : (f g h : ℕ → ℕ) (n s k : ℕ) → s < n → ((j : ℕ) → j ≢ s → f j ≡ g j) → ((j : ℕ) → j ≢ s → f j ≡ h j) → f s ≡ k * g s + h s → product_below f n ≡ k * product_below g n + product_below h n
unfolding product_below
product-split f g h zero s k l eg eh es = absurd (omega arith)
product-split f g h (suc n) s k l eg eh es = elim (cases_lt s n) [
  | inl before ↦ (
      let rest = product-split f g h n s k before eg eh es in
      let other : n ≢ s = omega arith in
      (λ i. rest i * f n) ∙ (spread (product_below g n) (product_below h n) k (f n) ∙ (λ i. k * (product_below g n * eg n other i) + product_below h n * eh n other i)))
  | inr here ↦ (
      let same : s ≡ n = omega arith in
      let at : f n ≡ k * g n + h n = subst (λ (j : ℕ). f j ≡ k * g j + h j) same es in
      let to_g = product-same f g n (λ j below. eg j (omega arith)) in
      let to_h = product-same f h n (λ j below. eh j (omega arith)) in
      (λ i. product_below f n * at i) ∙ (spread_last (product_below f n) k (g n) (h n) ∙ (λ i. k * (to_g i * g n) + to_h i * h n)))
]
  where
    spread : (p q k x : ℕ) → (k * p + q) * x ≡ k * (p * x) + q * x
    spread p q k x = omega arith

    spread_last : (p k x y : ℕ) → p * (k * x + y) ≡ k * (p * x) + p * y
    spread_last p k x y = omega arith

-- the factor of a sort in the number of patterns
abbrev pub factor : Universe → List ℕ → ℕ → ℕ
factor used sorts sort = ways (variables_of sort sorts) (size_of used sort)

-- one variable more of another sort, and of the sort itself
factor-other : (used : Universe) (s : ℕ) (sorts : List ℕ) (j : ℕ) → j ≢ s → factor used (s ∷ sorts) j ≡ factor used sorts j
factor-other used s sorts j other = ap (λ n. ways n (size_of used j)) (cond-false (s == j) (1 + variables_of j sorts) (variables_of j sorts) (ne_eqb s j (λ e. other (sym e))))

factor-opened : (used : Universe) (s : ℕ) (sorts : List ℕ) (j : ℕ) → j ≢ s → factor used (s ∷ sorts) j ≡ factor (opened used s (size_of used s)) sorts j
factor-opened used s sorts j other = factor-other used s sorts j other ∙ ap (ways (variables_of j sorts)) (sym (size-other used s (size_of used s) j other))

factor-same : (used : Universe) (s : ℕ) (sorts : List ℕ) → s < length used → factor used (s ∷ sorts) s ≡ size_of used s * factor used sorts s + factor (opened used s (size_of used s)) sorts s
unfolding ways
factor-same used s sorts l =
    let more : variables_of s (s ∷ sorts) ≡ suc (variables_of s sorts) = cond-true (s == s) (1 + variables_of s sorts) (variables_of s sorts) (eq-eqb s s refl) ∙ omega arith in
    ap (λ n. ways n (size_of used s)) more
    ∙ ap (λ k. size_of used s * ways (variables_of s sorts) (size_of used s) + ways (variables_of s sorts) k) (sym (size-opened used s (size_of used s) l refl))

-- the number of patterns with one variable more
length-next : (used : Universe) (s : ℕ) (sorts : List ℕ) → length (patterns_from used (s ∷ sorts)) ≡ size_of used s * length (patterns_from used sorts) + length (patterns_from (opened used s (size_of used s)) sorts)
length-next used s sorts =
    ap length (ap (λ n. branches n of) (add-one k) ∙ branches-suc of k)
    ∙ (length-append (branches k of) (branch of k)
    ∙ (λ i. before i + length-map (of k) (λ (rest : List ℕ). k ∷ rest) i))
  where
    k : ℕ
    k = size_of used s

    of : ℕ → List (List ℕ)
    of class = patterns_from (opened used s class) sorts

    before : length (branches k of) ≡ k * length (patterns_from used sorts)
    before = length-branches of k (length (patterns_from used sorts)) (λ x l. ap (λ (u : Universe). length (patterns_from u sorts)) (opened-in_use used s x l))

-- the number of patterns from here on
length-patterns_from : (used : Universe) (sorts : List ℕ) → length used ≡ 8 → AreSortsOf used sorts → length (patterns_from used sorts) ≡ product_below (factor used sorts) 8
unfolding ways
length-patterns_from used [] wide h = sym (product-ones (factor used []) 8 (λ j. refl))
length-patterns_from used (s ∷ sorts) wide h =
    let inside = h 0 s refl in
    let here = length-patterns_from used sorts wide (λ i q e. h (suc i) q e) in
    let there = length-patterns_from (opened used s (size_of used s)) sorts (length-opened used s (size_of used s) ∙ wide) (λ i q e. omega (arith, length-opened used s (size_of used s), h (suc i) q e)) in
    length-next used s sorts ∙ ((λ i. size_of used s * here i + there i)
    ∙ sym (product-split (factor used (s ∷ sorts)) (factor used sorts) (factor (opened used s (size_of used s)) sorts) 8 s (size_of used s) (omega arith)
    (factor-other used s sorts) (factor-opened used s sorts) (factor-same used s sorts inside)))

-- the variables of a sort are those that are counted
pub count-variables : (sort : ℕ) (sorts : List ℕ) → count_by (λ s. s == sort) sorts ≡ variables_of sort sorts
count-variables sort sorts = sym (is_count_by (variables_of sort) (λ s. s == sort) refl (λ _ _. refl) sorts)

-- how many variables are of a lesser sort
abbrev pub variables_below : ℕ → List ℕ → ℕ
variables_below sort [] = 0
variables_below sort (s ∷ sorts) = cond (ltb s sort) (1 + variables_below sort sorts) (variables_below sort sorts)

pub variables_below-none : (sorts : List ℕ) → variables_below 0 sorts ≡ 0
variables_below-none [] = refl
variables_below-none (s ∷ sorts) = cond-false (ltb s 0) (1 + variables_below 0 sorts) (variables_below 0 sorts) (le-ltb s 0 (omega arith)) ∙ variables_below-none sorts

pub variables_below-more : (sort : ℕ) (sorts : List ℕ) → variables_below (sort + 1) sorts ≡ variables_below sort sorts + variables_of sort sorts
variables_below-more sort [] = omega arith
variables_below-more sort (s ∷ sorts) =
    let rest = variables_below-more sort sorts in
    elim (cases_lt s sort) [
      | inl less ↦ (
          let now = cond-true (ltb s (sort + 1)) (1 + variables_below (sort + 1) sorts) (variables_below (sort + 1) sorts) (lt-ltb s (sort + 1) (omega arith)) in
          let was = cond-true (ltb s sort) (1 + variables_below sort sorts) (variables_below sort sorts) (lt-ltb s sort less) in
          let not_here = cond-false (s == sort) (1 + variables_of sort sorts) (variables_of sort sorts) (ne_eqb s sort (λ e. absurd (omega arith))) in
          omega (arith, now, was, not_here))
      | inr ge ↦ elim (cases_eq s sort) [
        | inl same ↦ (
            let now = cond-true (ltb s (sort + 1)) (1 + variables_below (sort + 1) sorts) (variables_below (sort + 1) sorts) (lt-ltb s (sort + 1) (omega arith)) in
            let was = cond-false (ltb s sort) (1 + variables_below sort sorts) (variables_below sort sorts) (le-ltb s sort ge) in
            let here = cond-true (s == sort) (1 + variables_of sort sorts) (variables_of sort sorts) (eq-eqb s sort same) in
            omega (arith, now, was, here))
        | inr more ↦ (
            let above : sort < s = omega arith in
            let now = cond-false (ltb s (sort + 1)) (1 + variables_below (sort + 1) sorts) (variables_below (sort + 1) sorts) (le-ltb s (sort + 1) (omega arith)) in
            let was = cond-false (ltb s sort) (1 + variables_below sort sorts) (variables_below sort sorts) (le-ltb s sort ge) in
            let not_here = cond-false (s == sort) (1 + variables_of sort sorts) (variables_of sort sorts) (ne_eqb s sort more) in
            omega (arith, now, was, not_here))
      ]
    ]

pub variables_below-all : (sort : ℕ) (sorts : List ℕ) → variables_below sort sorts ≤ length sorts
variables_below-all sort [] = omega arith
variables_below-all sort (s ∷ sorts) =
    let rest = variables_below-all sort sorts in
    elim (cases_lt s sort) [
      | inl less ↦ omega (arith, cond-true (ltb s sort) (1 + variables_below sort sorts) (variables_below sort sorts) (lt-ltb s sort less))
      | inr ge ↦ omega (arith, cond-false (ltb s sort) (1 + variables_below sort sorts) (variables_below sort sorts) (le-ltb s sort ge))
    ]

pub product-none : (f : ℕ → ℕ) → product_below f 0 ≡ 1
unfolding product_below
product-none f = refl

pub product-more : (f : ℕ → ℕ) (n : ℕ) → product_below f (n + 1) ≡ product_below f n * f n
unfolding product_below
product-more f n = ap (product_below f) (add-one n)

-- one sort more is counted
pub record CountsBelow (constants : Universe) (sorts : List ℕ) (sort count : ℕ) : Type 0 where
  pub is : count ≡ product_below (factor constants sorts) sort
  pub bound : count ≤ 16 ^ variables_below sort sorts

pub counts-none : (constants : Universe) (sorts : List ℕ) → CountsBelow constants sorts 0 1
counts-none constants sorts = record { is = sym (product-none _); bound = rw (variables_below-none sorts) (omega arith) }

pub counts-more : (constants : Universe) (sorts : List ℕ) (sort count variables w : ℕ) →
    variables ≡ count_by (λ s. s == sort) sorts → w ≡ ways variables (size_of constants sort) → w ≤ 16 ^ variables →
    CountsBelow constants sorts sort count → CountsBelow constants sorts (sort + 1) (count * w)
counts-more constants sorts sort count variables w v e l h =
    let all : variables ≡ variables_of sort sorts = v ∙ count-variables sort sorts in
    let both : count * w ≤ 16 ^ (variables_below sort sorts + variables) =
    rw (pow-add 16 (variables_below sort sorts) variables)
    (mul-le count w (16 ^ variables_below sort sorts) (16 ^ variables) h.bound l) in
    record {
      is = (λ i. h.is i * (e ∙ ap (λ n. ways n (size_of constants sort)) all) i)
          ∙ sym (product-more (factor constants sorts) sort);
      bound = subst (λ n. count * w ≤ 16 ^ n)
          (ap (λ n. variables_below sort sorts + n) all ∙ sym (variables_below-more sort sorts)) both;
    }

pub counts-fit : (constants : Universe) (sorts : List ℕ) (sort count : ℕ) → length sorts ≤ 12 →
    CountsBelow constants sorts sort count → count ≤ 16 ^ 12
counts-fit constants sorts sort count short h =
    omega (arith, h.bound, power-sixteen (variables_below sort sorts) (omega (arith, variables_below-all sort sorts)))

pub counts-all : (constants : Universe) (sorts : List ℕ) (sort count : ℕ) → AreConstants constants → AreSorts sorts →
    sort ≡ 8 → CountsBelow constants sorts sort count → count ≡ length (patterns constants sorts)
counts-all constants sorts sort count are h e c =
    c.is ∙ (ap (product_below (factor constants sorts)) e
    ∙ sym (length-patterns_from constants sorts are.width (λ i q f. omega (arith, are.width, h.below i q f))))
