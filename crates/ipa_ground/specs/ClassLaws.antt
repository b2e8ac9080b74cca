-- Classes in use, as variables take theirs one after the other.
--
--   AreSortsOf                  the sorts are those of the universe
--   opened-same, opened-other   a variable with the next new class, and one with another
--   opened-in_use               a class in use opens nothing
--   length-opened               the number of sorts stays
--   size-opened, size-other     the classes in use of the variable's sort and of another
--   size-grows, size-after      no class is closed
--   size-opened_most, size-after_most   each variable opens one class at most
use Rattle.std.proofs.Common.{◌≡◌, ℕ, suc, ◌+◌, ◌<◌, ◌≤◌, ◌≢◌, ◌==◌, List, [], ◌∷◌, length, Some, refl, sym, ap, ◌∙◌, subst, arith, inl, inr, slice_get, set}
use Rattle.std.proofs.lemmas.Bool.{cases_lt, cases_eq, eq-eqb, ne_eqb, cond-true, cond-false}
use Rattle.std.proofs.lemmas.List.{get_or-set_same, get_or-set_other, length-set, set_past}
use Rattle.ipa_logic.specs.Facts.{Universe, size_of}
use Rattle.ipa_ground.specs.Patterns.{opened, IsPatternFrom, used_after}

-- the sorts are those of the universe
abbrev pub AreSortsOf : Universe → List ℕ → Type 0
AreSortsOf used sorts = (i sort : ℕ) → slice_get sorts i ≡ Some sort → sort < length used

-- a variable with the next new class, and one with another
pub opened-same : (used : Universe) (sort class : ℕ) → class ≡ size_of used sort → opened used sort class ≡ set used sort (size_of used sort + 1)
opened-same used sort class e = cond-true (class == size_of used sort) _ used (eq-eqb class (size_of used sort) e)

pub opened-other : (used : Universe) (sort class : ℕ) → class ≢ size_of used sort → opened used sort class ≡ used
opened-other used sort class n = cond-false (class == size_of used sort) (set used sort (size_of used sort + 1)) _ (ne_eqb class (size_of used sort) n)

-- opening a class keeps the number of sorts
pub length-opened : (used : Universe) (sort class : ℕ) → length (opened used sort class) ≡ length used
length-opened used sort class = elim (cases_eq class (size_of used sort)) [
  | inl same ↦ (ap length (opened-same used sort class same) ∙ length-set used sort (size_of used sort + 1))
  | inr other ↦ ap length (opened-other used sort class other)
]

-- a new class is in use afterwards
pub size-opened : (used : Universe) (sort class : ℕ) → sort < length used → class ≡ size_of used sort → size_of (opened used sort class) sort ≡ size_of used sort + 1
size-opened used sort class l same =
    ap (λ (u : Universe). size_of u sort) (opened-same used sort class same) ∙ get_or-set_same used sort (size_of used sort + 1) 0 l

-- one that was in use opens nothing
pub opened-in_use : (used : Universe) (sort class : ℕ) → class < size_of used sort → opened used sort class ≡ used
opened-in_use used sort class l = opened-other used sort class (λ e. absurd (omega arith))

-- other sorts stay
pub size-other : (used : Universe) (sort class other : ℕ) → other ≢ sort → size_of (opened used sort class) other ≡ size_of used other
size-other used sort class other n = elim (cases_eq class (size_of used sort)) [
  | inl same ↦ (ap (λ (u : Universe). size_of u other) (opened-same used sort class same) ∙ get_or-set_other used sort other (size_of used sort + 1) 0 n)
  | inr differs ↦ ap (λ (u : Universe). size_of u other) (opened-other used sort class differs)
]

-- no class is closed
pub size-grows : (used : Universe) (sort class other : ℕ) → sort < length used → class ≤ size_of used sort → size_of used other ≤ size_of (opened used sort class) other
size-grows used sort class other inside l = elim (cases_eq other sort) [
  | inl same ↦ elim (cases_lt class (size_of used sort)) [
    | inl in_use ↦ (let stays : size_of (opened used sort class) other ≡ size_of used other = ap (λ (u : Universe). size_of u other) (opened-in_use used sort class in_use) in omega arith)
    | inr new ↦ (let grows : size_of (opened used sort class) sort ≡ size_of used sort + 1 = size-opened used sort class inside (omega arith) in
        subst (λ (q : ℕ). size_of used q ≤ size_of (opened used sort class) q) (sym same) (omega arith))
  ]
  | inr differs ↦ (let stays : size_of (opened used sort class) other ≡ size_of used other = size-other used sort class other differs in omega arith)
]

pub size-after : (used : Universe) (sorts classes : List ℕ) (other : ℕ) → AreSortsOf used sorts → IsPatternFrom used sorts classes → size_of used other ≤ size_of (used_after used sorts classes) other
size-after used [] classes other h p = omega arith
size-after used (sort ∷ sorts) [] other h p = absurd p
size-after used (sort ∷ sorts) (class ∷ classes) other h p =
    let first = size-grows used sort class other (h 0 sort refl) p.0 in
    let later = size-after (opened used sort class) sorts classes other (λ i s e. omega (arith, length-opened used sort class, h (suc i) s e)) p.1 in
    omega arith

-- a variable opens one class at most
pub size-opened_most : (used : Universe) (sort class other : ℕ) → size_of (opened used sort class) other ≤ size_of used other + 1
size-opened_most used sort class other = elim (cases_eq other sort) [
  | inr differs ↦ (let stays : size_of (opened used sort class) other ≡ size_of used other = size-other used sort class other differs in omega arith)
  | inl same ↦ elim (cases_eq class (size_of used sort)) [
    | inr old ↦ (let stays : size_of (opened used sort class) other ≡ size_of used other = ap (λ (u : Universe). size_of u other) (opened-other used sort class old) in omega arith)
    | inl new ↦ elim (cases_lt sort (length used)) [
      | inl inside ↦ (let grows : size_of (opened used sort class) sort ≡ size_of used sort + 1 = size-opened used sort class inside new in
          subst (λ (q : ℕ). size_of (opened used sort class) q ≤ size_of used q + 1) (sym same) (omega arith))
      | inr past ↦ (let stays : size_of (opened used sort class) other ≡ size_of used other = ap (λ (u : Universe). size_of u other) (opened-same used sort class new ∙ set_past used sort (size_of used sort + 1) past) in omega arith)
    ]
  ]
]

pub size-after_most : (used : Universe) (sorts classes : List ℕ) (other : ℕ) → size_of (used_after used sorts classes) other ≤ size_of used other + length sorts
size-after_most used [] classes other = omega arith
size-after_most used (sort ∷ sorts) [] other = omega arith
size-after_most used (sort ∷ sorts) (class ∷ classes) other =
    let first = size-opened_most used sort class other in
    let later = size-after_most (opened used sort class) sorts classes other in
    omega arith
