-- The order of patterns: what is left behind one, and which comes next.
use Rattle.std.proofs.Common.{◌≡◌, ℕ, zero, suc, ◌+◌, ◌<◌, Bool, true, false, not, cond, List, [], ◌∷◌, length, take, filter, Some, refl, sym, ap, ◌∙◌, subst, arith, inl, inr, slice_get}
use Rattle.std.specs.List.{slice_index}
use Rattle.std.specs.List.Sorted.{IsStrictlySortedBy}
use Rattle.std.specs.Ordering.{nat_cmp, is_lt, ordering_then, ordering_reverse}
use Rattle.std.specs.Cmp.{nat_cmp_is, tied_itself}
use Rattle.std.specs.Cmp.Lexicographic.{slice_cmp, nat_list_cmp_total}
use Rattle.std.specs.declared.cmp.Ordering.TheVariants.{Less, Equal, Greater}
use Rattle.std.proofs.lemmas.Bool.{cases_order}
use Rattle.std.proofs.lemmas.Option.{same_Some}
use Rattle.ipa_logic.specs.Facts.{Universe, size_of}
use Rattle.ipa_ground.specs.Enumeration.{IsListed}
use Rattle.ipa_ground.specs.ListLaws.{Listed-cons, Rises-head, Rises-tail}
use Rattle.ipa_ground.specs.BranchLaws.{less-from_lt}
use Rattle.ipa_ground.specs.Patterns.{opened, IsPatternFrom, IsPattern, used_after, patterns}
use Rattle.ipa_ground.specs.PatternLaws.{Listed-patterns, listed_pattern, Rises-patterns, length-pattern_from}
use Rattle.ipa_ground.specs.PatternValues.{is_before, left, later}

-- how a first class decides
before-less : (x y : ℕ) (xs ys : List ℕ) → x < y → is_before (x ∷ xs) (y ∷ ys) ≡ true
before-less x y xs ys l = ap (λ o. is_lt (ordering_then o (slice_cmp nat_cmp xs ys))) (less-from_lt x y l)

before-greater : (x y : ℕ) (xs ys : List ℕ) → y < x → is_before (x ∷ xs) (y ∷ ys) ≡ false
before-greater x y xs ys l = ap (λ o. is_lt (ordering_then o (slice_cmp nat_cmp xs ys))) (sym (nat_cmp_is x y Greater l))

before-same : (x y : ℕ) (xs ys : List ℕ) → x ≡ y → is_before (x ∷ xs) (y ∷ ys) ≡ is_before xs ys
before-same x y xs ys e = ap (λ o. is_lt (ordering_then o (slice_cmp nat_cmp xs ys))) (sym (nat_cmp_is x y Equal e))

before-itself : (xs : List ℕ) → is_before xs xs ≡ false
before-itself xs = ap is_lt (tied_itself nat_list_cmp_total xs)

-- what comes before another does not come after it
before-turned : (xs ys : List ℕ) → slice_cmp nat_cmp xs ys ≡ Less → is_before ys xs ≡ false
before-turned xs ys l = ap is_lt (nat_list_cmp_total.antisymm ys xs ∙ ap ordering_reverse l)

-- tests that agree on what is listed keep the same
filter-listed : {X : Type 0} (p r : X → Bool) (xs : List X) → ((x : X) → IsListed xs x → p x ≡ r x) → filter p xs ≡ filter r xs
filter-listed p r [] h = refl
filter-listed p r (x ∷ xs) h =
    let here = h x (record { place = 0; there = refl }) in
    let rest = filter-listed p r xs (λ y l. h y (Listed-cons x xs y l)) in
    λ i. cond (here i) (x ∷ rest i) (rest i)

filter-all : {X : Type 0} (xs : List X) → filter (λ (x : X). true) xs ≡ xs
filter-all [] = refl
filter-all (x ∷ xs) = ap (λ ys. x ∷ ys) (filter-all xs)

filter-none : {X : Type 0} (xs : List X) → filter (λ (x : X). false) xs ≡ []
filter-none [] = refl
filter-none (x ∷ xs) = filter-none xs

-- of lists in order those from one on are that one and those behind it
from-one : (xs : List (List ℕ)) (k : ℕ) (c : List ℕ) → IsStrictlySortedBy (slice_cmp nat_cmp) xs → slice_get xs k ≡ Some c
    → filter (λ q. not (is_before q c)) xs ≡ c ∷ filter (λ q. is_before c q) xs
from-one [] k c up e = cc
from-one (x ∷ xs) zero c up e =
    let same : x ≡ c = same_Some x c e in
    let rest : filter (λ q. not (is_before q x)) xs ≡ filter (λ q. is_before x q) xs = filter-listed _ _ xs (λ q l.
    let above = Rises-head (slice_cmp nat_cmp) x xs up q l in ap not (before-turned x q above) ∙ sym (ap is_lt above)) in
    let at : filter (λ q. not (is_before q x)) (x ∷ xs) ≡ x ∷ filter (λ q. is_before x q) (x ∷ xs) =
    (λ i. cond (not (before-itself x i)) (x ∷ rest i) (rest i)) ∙ (λ i. x ∷ cond (sym (before-itself x) i) (x ∷ filter (λ q. is_before x q) xs) (filter (λ q. is_before x q) xs)) in
    subst (λ (d : List ℕ). filter (λ q. not (is_before q d)) (x ∷ xs) ≡ d ∷ filter (λ q. is_before d q) (x ∷ xs)) same at
from-one (x ∷ xs) (suc k) c up e =
    let below = Rises-head (slice_cmp nat_cmp) x xs up c (record { place = k; there = e }) in
    let skipped : is_before x c ≡ true = ap is_lt below in
    let not_later : is_before c x ≡ false = before-turned x c below in
    (λ i. cond (not (skipped i)) (x ∷ filter (λ q. not (is_before q c)) xs) (filter (λ q. not (is_before q c)) xs))
    ∙ (from-one xs k c (Rises-tail (slice_cmp nat_cmp) x xs up) e
    ∙ (λ i. c ∷ cond (sym not_later i) (x ∷ filter (λ q. is_before c q) xs) (filter (λ q. is_before c q) xs)))

-- how many classes may stand at a place
abbrev pub limit_at : Universe → List ℕ → List ℕ → ℕ → ℕ
limit_at used sorts classes j = size_of (used_after used (take j sorts) (take j classes)) (slice_index sorts j)

-- each class is the newest that may stand there
pub record AreNewest (used : Universe) (sorts classes : List ℕ) : Type 0 where
  pub wide : length classes ≡ length sorts
  pub newest : (j : ℕ) → j < length sorts → slice_index classes j ≡ limit_at used sorts classes j

-- ns raises the class at the place, where the classes behind it are the newest, and starts anew behind it
pub record IsRaised (used : Universe) (sorts classes ns : List ℕ) (place : ℕ) : Type 0 where
  pub wide : length classes ≡ length sorts
  pub also_wide : length ns ≡ length sorts
  pub within : place < length sorts
  pub same : (j : ℕ) → j < place → slice_index classes j ≡ slice_index ns j
  pub raised : slice_index ns place ≡ slice_index classes place + 1
  pub anew : (j : ℕ) → place < j → j < length sorts → slice_index ns j ≡ 0
  pub newest : (j : ℕ) → place < j → j < length sorts → slice_index classes j ≡ limit_at used sorts classes j

-- no pattern comes behind one whose classes are the newest
newest-last : (used : Universe) (sorts classes q : List ℕ) → AreNewest used sorts classes → IsPatternFrom used sorts q → is_before classes q ≡ false
newest-last used [] [] [] h p = refl
newest-last used [] (c ∷ classes) q h p = absurd (omega (arith, h.wide))
newest-last used [] [] (x ∷ q) h p = absurd p
newest-last used (s ∷ sorts) [] q h p = absurd (omega (arith, h.wide))
newest-last used (s ∷ sorts) (c ∷ classes) [] h p = absurd p
newest-last used (s ∷ sorts) (c ∷ classes) (x ∷ q) h p =
    let top : c ≡ size_of used s = h.newest 0 (omega arith) in
    elim (cases_order x c) [
      | inl same ↦ before-same c x classes q (sym same) ∙ newest-last (opened used s c) sorts classes q
          (record { wide = omega (arith, h.wide); newest = λ j l. h.newest (suc j) (omega arith) })
          (subst (λ (k : ℕ). IsPatternFrom (opened used s k) sorts q) same p.1)
      | inr differs ↦ elim differs [
        | inl less ↦ before-greater c x classes q less
        | inr more ↦ absurd (omega (arith, p.0))
      ]
    ]

-- nothing comes before classes that are all 0
first-least : (q zeros : List ℕ) → length q ≡ length zeros → ((j : ℕ) → j < length zeros → slice_index zeros j ≡ 0) → is_before q zeros ≡ false
first-least [] [] e h = refl
first-least [] (z ∷ zeros) e h = absurd (omega (arith, e))
first-least (x ∷ q) [] e h = absurd (omega (arith, e))
first-least (x ∷ q) (z ∷ zeros) e h =
    let none : z ≡ 0 = h 0 (omega arith) in
    elim (cases_order x z) [
      | inl same ↦ before-same x z q zeros same ∙ first-least q zeros (omega (arith, e)) (λ j l. h (suc j) (omega arith))
      | inr differs ↦ elim differs [
        | inl less ↦ absurd (omega arith)
        | inr more ↦ before-greater x z q zeros more
      ]
    ]

-- what comes behind a pattern does not come before the raised one
raised-next : (used : Universe) (sorts classes ns q : List ℕ) (place : ℕ) → IsRaised used sorts classes ns place → IsPatternFrom used sorts q → is_before classes q ≡ not (is_before q ns)
raised-next used [] classes ns q place h p = absurd (omega (arith, h.within))
raised-next used (s ∷ sorts) [] ns q place h p = absurd (omega (arith, h.wide))
raised-next used (s ∷ sorts) (c ∷ classes) [] q place h p = absurd (omega (arith, h.also_wide))
raised-next used (s ∷ sorts) (c ∷ classes) (n ∷ ns) [] place h p = absurd p
raised-next used (s ∷ sorts) (c ∷ classes) (n ∷ ns) (x ∷ q) zero h p =
    let up : n ≡ c + 1 = h.raised in
    elim (cases_order x c) [
      | inl same ↦ before-same c x classes q (sym same) ∙ (newest-last (opened used s c) sorts classes q
          (record { wide = omega (arith, h.wide); newest = λ j l. h.newest (suc j) (omega arith) (omega arith) })
          (subst (λ (k : ℕ). IsPatternFrom (opened used s k) sorts q) same p.1)
          ∙ sym (ap not (before-less x n q ns (omega arith))))
      | inr differs ↦ elim differs [
        | inl less ↦ before-greater c x classes q less ∙ sym (ap not (before-less x n q ns (omega arith)))
        | inr more ↦ before-less c x classes q more ∙ sym (ap not (elim (cases_order x n) [
          | inl top ↦ before-same x n q ns top ∙ first-least q ns (length-pattern_from (opened used s x) sorts q p.1 ∙ omega (arith, h.also_wide)) (λ j l. h.anew (suc j) (omega arith) (omega (arith, h.also_wide)))
          | inr other ↦ elim other [
            | inl below ↦ absurd (omega arith)
            | inr above ↦ before-greater x n q ns above
          ]
        ]))
      ]
    ]
raised-next used (s ∷ sorts) (c ∷ classes) (n ∷ ns) (x ∷ q) (suc place) h p =
    let stays : c ≡ n = h.same 0 (omega arith) in
    elim (cases_order x c) [
      | inl same ↦ before-same c x classes q (sym same) ∙ (raised-next (opened used s c) sorts classes ns q place
          (record {
            wide = omega (arith, h.wide);
            also_wide = omega (arith, h.also_wide);
            within = omega (arith, h.within);
            same = λ j l. h.same (suc j) (omega arith);
            raised = h.raised;
            anew = λ j l m. h.anew (suc j) (omega arith) (omega arith);
            newest = λ j l m. h.newest (suc j) (omega arith) (omega arith);
          })
          (subst (λ (k : ℕ). IsPatternFrom (opened used s k) sorts q) same p.1)
          ∙ sym (ap not (before-same x n q ns (same ∙ stays))))
      | inr differs ↦ elim differs [
        | inl less ↦ before-greater c x classes q less ∙ sym (ap not (before-less x n q ns (omega arith)))
        | inr more ↦ before-less c x classes q more ∙ sym (ap not (before-greater x n q ns (omega arith)))
      ]
    ]

-- from a pattern on there are it and what is behind it
pub left-one : (constants : Universe) (sorts classes : List ℕ) → IsPattern constants sorts classes →
    left constants sorts classes ≡ classes ∷ later constants sorts classes
left-one constants sorts classes p =
    let listed = Listed-patterns constants sorts classes p in
    from-one (patterns constants sorts) listed.place classes (Rises-patterns constants sorts) listed.there

-- behind a pattern come those from the raised one on
pub later-raised : (constants : Universe) (sorts classes ns : List ℕ) (place : ℕ) →
    IsRaised constants sorts classes ns place → later constants sorts classes ≡ left constants sorts ns
later-raised constants sorts classes ns place h =
    filter-listed _ _ (patterns constants sorts)
    (λ q l. raised-next constants sorts classes ns q place h (listed_pattern constants sorts q l))

-- behind one whose classes are the newest come none
pub later-newest : (constants : Universe) (sorts classes : List ℕ) → AreNewest constants sorts classes →
    later constants sorts classes ≡ []
later-newest constants sorts classes h =
    filter-listed _ (λ _. false) (patterns constants sorts)
    (λ q l. newest-last constants sorts classes q h (listed_pattern constants sorts q l))
    ∙ filter-none (patterns constants sorts)

-- from the first pattern on there are all
pub left-first : (constants : Universe) (sorts zeros : List ℕ) → length zeros ≡ length sorts →
    ((j : ℕ) → j < length zeros → slice_index zeros j ≡ 0) → left constants sorts zeros ≡ patterns constants sorts
left-first constants sorts zeros e h = filter-listed _ (λ _. true) (patterns constants sorts)
    (λ q l. ap not (first-least q zeros
    (length-pattern_from constants sorts q (listed_pattern constants sorts q l) ∙ sym e) h))
    ∙ filter-all (patterns constants sorts)
