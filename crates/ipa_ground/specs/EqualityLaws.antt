-- A pattern whose classes stand for the elements of the variables has their equalities, and the other way round.
--
--   same-equalities   a pattern whose classes stand for elements has their equalities
--   renames-same      the classes of a pattern with their equalities stand for them
--   one_pattern       only one pattern has the equalities of the elements
use Rattle.std.proofs.Common.{◌≡◌, ℕ, ◌<◌, ◌≤◌, List, Some, refl, sym, ap, ◌∙◌, arith, inl, inr, ◌⊎◌, slice_get}
use Rattle.std.specs.List.{slice_index}
use Rattle.std.proofs.lemmas.Bool.{cases_lt}
use Rattle.ipa_logic.specs.Facts.{Universe, size_of}
use Rattle.ipa_ground.specs.Patterns.{AreConstants, AreSorts, IsPattern, pattern_universe, SameEqualities, Renames}
use Rattle.ipa_ground.specs.SamePattern.{pattern-taken, pattern-within, pattern-constants, one-renamed}

-- a pattern whose classes stand for elements has their equalities
pub same-equalities : (constants : Universe) (sorts p elements : List ℕ) → AreConstants constants → AreSorts sorts →
    IsPattern constants sorts p → Renames constants sorts p elements → SameEqualities constants sorts p elements
same-equalities constants sorts p elements are h is_p r = record {
  same = λ i j sort e f. (
    (λ same. sym (r.places i sort e) ∙ (ap (r.to sort) same ∙ r.places j sort f)),
    (λ same. r.apart sort (slice_index p i) (slice_index p j) (pattern-within constants sorts p are h is_p i sort e)
        (pattern-within constants sorts p are h is_p j sort f)
        (r.places i sort e ∙ (same ∙ sym (r.places j sort f)))),
  );
  fixed = λ i sort constant e l. (
    (λ same. sym (r.places i sort e) ∙ (ap (r.to sort) same ∙ r.fixed sort constant l)),
    (λ same. let more = pattern-constants constants sorts p are h is_p sort in
        r.apart sort (slice_index p i) constant (pattern-within constants sorts p are h is_p i sort e) (omega arith)
        (r.places i sort e ∙ (same ∙ sym (r.fixed sort constant l)))),
  );
}

-- the classes of a pattern with their equalities stand for them
module _ (constants : Universe) (sorts p elements : List ℕ) (are : AreConstants constants) (h : AreSorts sorts)
    (is_p : IsPattern constants sorts p) (same : SameEqualities constants sorts p elements) where
  -- the element that a class in use stands for: a constant's class for the constant, another for a variable's element
  stand_for : (sort class : ℕ) → (class < size_of constants sort) ⊎ (size_of constants sort ≤ class) →
      (class < size_of (pattern_universe constants sorts p) sort)
      ⊎ (size_of (pattern_universe constants sorts p) sort ≤ class) → ℕ
  stand_for sort class (inl fixed) w = class
  stand_for sort class (inr past) (inl l) =
      slice_index elements (pattern-taken constants sorts p are h is_p sort class past l).place
  stand_for sort class (inr past) (inr none) = 0

  to : ℕ → ℕ → ℕ
  to sort class =
      stand_for sort class (cases_lt class (size_of constants sort))
      (cases_lt class (size_of (pattern_universe constants sorts p) sort))

  stands-fixed : (sort class : ℕ) → class < size_of constants sort →
      (v : (class < size_of constants sort) ⊎ (size_of constants sort ≤ class)) →
      (w : (class < size_of (pattern_universe constants sorts p) sort)
      ⊎ (size_of (pattern_universe constants sorts p) sort ≤ class)) → stand_for sort class v w ≡ class
  unfolding stand_for
  stands-fixed sort class l (inl fixed) w = refl
  stands-fixed sort class l (inr past) w = absurd (omega arith)

  stands-place : (i sort class : ℕ) → slice_get sorts i ≡ Some sort → slice_index p i ≡ class →
      (v : (class < size_of constants sort) ⊎ (size_of constants sort ≤ class)) →
      (w : (class < size_of (pattern_universe constants sorts p) sort)
      ⊎ (size_of (pattern_universe constants sorts p) sort ≤ class)) →
      stand_for sort class v w ≡ slice_index elements i
  unfolding stand_for
  stands-place i sort class e is (inl fixed) w = sym ((same.fixed i sort class e fixed).0 is)
  stands-place i sort class e is (inr past) (inl l) =
      let at = pattern-taken constants sorts p are h is_p sort class past l in
      (same.same at.place i sort at.of_sort e).0 (at.is ∙ sym is)
  stands-place i sort class e is (inr past) (inr none) =
      let within = pattern-within constants sorts p are h is_p i sort e in absurd (omega arith)

  to-fixed : (sort class : ℕ) → class < size_of constants sort → to sort class ≡ class
  unfolding to
  to-fixed sort class l =
      stands-fixed sort class l (cases_lt class (size_of constants sort))
      (cases_lt class (size_of (pattern_universe constants sorts p) sort))

  to-place : (i sort class : ℕ) → slice_get sorts i ≡ Some sort → slice_index p i ≡ class →
      to sort class ≡ slice_index elements i
  unfolding to
  to-place i sort class e is =
      stands-place i sort class e is (cases_lt class (size_of constants sort))
      (cases_lt class (size_of (pattern_universe constants sorts p) sort))

  -- a class that is no constant's stands for no constant, and for no element of another class
  to-apart : (sort c d : ℕ) → size_of constants sort ≤ c → c < size_of (pattern_universe constants sorts p) sort →
      d < size_of (pattern_universe constants sorts p) sort → to sort c ≡ to sort d → c ≡ d
  to-apart sort c d past l m e =
      let at_c = pattern-taken constants sorts p are h is_p sort c past l in
      let is_c = to-place at_c.place sort c at_c.of_sort at_c.is in
      elim (cases_lt d (size_of constants sort)) [
        | inl fixed ↦ sym at_c.is
            ∙ (same.fixed at_c.place sort d at_c.of_sort fixed).1 (sym is_c ∙ (e ∙ to-fixed sort d fixed))
        | inr past_d ↦ (let at_d = pattern-taken constants sorts p are h is_p sort d past_d m in
            sym at_c.is ∙ ((same.same at_c.place at_d.place sort at_c.of_sort at_d.of_sort).1
            (sym is_c ∙ (e ∙ to-place at_d.place sort d at_d.of_sort at_d.is)) ∙ at_d.is))
      ]

  pub renames-same : Renames constants sorts p elements
  renames-same = record {
    to = to;
    fixed = to-fixed;
    places = λ i sort e. to-place i sort (slice_index p i) e refl;
    apart = λ sort c d l m e. elim (cases_lt c (size_of constants sort)) [
      | inr past ↦ to-apart sort c d past l m e
      | inl fixed ↦ elim (cases_lt d (size_of constants sort)) [
        | inr past_d ↦ sym (to-apart sort d c past_d m l (sym e))
        | inl fixed_d ↦ sym (to-fixed sort c fixed) ∙ (e ∙ to-fixed sort d fixed_d)
      ]
    ];
    taken = pattern-taken constants sorts p are h is_p;
  }

-- only one pattern has the equalities of the elements
pub one_pattern : (constants : Universe) (sorts p q elements : List ℕ) → AreConstants constants → AreSorts sorts →
    IsPattern constants sorts p → IsPattern constants sorts q → SameEqualities constants sorts p elements →
    SameEqualities constants sorts q elements → p ≡ q
one_pattern constants sorts p q elements are h is_p is_q same_p same_q =
    one-renamed constants sorts p q elements are h is_p is_q
    (renames-same constants sorts p elements are h is_p same_p)
    (renames-same constants sorts q elements are h is_q same_q)
