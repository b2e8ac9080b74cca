-- The enumerations of tuples and of a predicate's facts are complete, and stand strictly in order.
--
--   Listed-tuples, listed_tuple    a tuple is listed, and what is listed is a tuple
--   Rises-tuples                   tuples stand in lexicographic order
--   Listed-has, has-Listed         a fact of a list, and one that is listed
--   ArePlaced                      elements that stand in the places of a fact
--   placed_tuple, tuple_placed     they are a tuple, and the other way round
--   length-numbers, length-place_sizes   there are n numbers below n, and as many sizes as places
--   Listed-facts_of, listed_facts_of     the listed facts of a predicate are those whose elements are placed
--   Rises-facts_of                 they stand strictly in the order of facts
use Rattle.std.proofs.Common.{◌≡◌, ℕ, zero, suc, ◌+◌, ◌<◌, ◌≤◌, true, List, [], ◌∷◌, length, map, take, Some, refl, sym, ap, ◌∙◌, subst, arith, inl, inr, slice_get}
use Rattle.std.specs.List.{slice_index}
use Rattle.std.specs.List.Sorted.{IsStrictlySortedBy}
use Rattle.std.specs.Ordering.{nat_cmp, is_eq}
use Rattle.std.specs.Cmp.{nat_cmp_total, tied_itself}
use Rattle.std.specs.Cmp.Lexicographic.{slice_cmp}
use Rattle.std.specs.declared.cmp.Ordering.TheVariants.{Less}
use Rattle.std.proofs.lemmas.Bool.{or_cases, or_left, or_right}
use Rattle.std.proofs.lemmas.List.{length-append, length-map}
use Rattle.std.proofs.lemmas.List.Elements.{length_all_zip}
use Rattle.std.proofs.lemmas.Option.{same_Some}
use Rattle.ipa_spec.specs.declared.predicates.Predicate.{Predicate}
use Rattle.ipa_logic.specs.Facts.{Universe, fact_cmp, has, IsRising}
use Rattle.ipa_logic.specs.FactLaws.{same_fact, fact_itself}
use Rattle.ipa_logic.specs.declared.facts.Fact.{Fact}
use Rattle.ipa_ground.specs.Enumeration.{numbers, tuples, IsTuple, three, size_in, place_sizes, facts_of, IsListed}
use Rattle.ipa_ground.specs.ListLaws.{Listed-cons, Listed-map, listed_map, Rises-map, Rises-one}
use Rattle.ipa_ground.specs.BranchLaws.{Listed-branches, listed_branch, Rises-branches}

-- a tuple is listed
pub Listed-tuples : (sizes xs : List ℕ) → IsTuple sizes xs → IsListed (tuples sizes) xs
Listed-tuples [] [] h = record { place = 0; there = refl }
Listed-tuples [] (x ∷ xs) h = absurd h
Listed-tuples (size ∷ sizes) [] h = absurd h
Listed-tuples (size ∷ sizes) (x ∷ xs) h = Listed-branches (λ _. tuples sizes) size x xs h.0 (Listed-tuples sizes xs h.1)

-- what is listed is a tuple
pub listed_tuple : (sizes xs : List ℕ) → IsListed (tuples sizes) xs → IsTuple sizes xs
listed_tuple [] xs h = alone h.place h.there
  where
    alone : (k : ℕ) → slice_get ([] ∷ []) k ≡ Some xs → IsTuple [] xs
    alone zero e = subst (IsTuple []) (same_Some [] xs e) tt
    alone (suc k) e = cc
listed_tuple (size ∷ sizes) xs h =
    let b = listed_branch (λ _. tuples sizes) size xs h in
    subst (IsTuple (size ∷ sizes)) b.is (b.below, listed_tuple sizes b.rest b.listed)

-- tuples stand in lexicographic order
pub Rises-tuples : (sizes : List ℕ) → IsStrictlySortedBy (slice_cmp nat_cmp) (tuples sizes)
Rises-tuples [] = Rises-one (slice_cmp nat_cmp) []
Rises-tuples (size ∷ sizes) = Rises-branches (λ _. tuples sizes) size (λ x l. Rises-tuples sizes)

-- a fact of a list is listed
pub Listed-has : (facts : List Fact) (f : Fact) → has facts f ≡ true → IsListed facts f
Listed-has [] f h = cc
Listed-has (g ∷ gs) f h = elim (or_cases (is_eq (fact_cmp f g)) (has gs f) h) [
  | inl here ↦ record { place = 0; there = ap (λ (x : Fact). Some x) (sym (same_fact f g here)) }
  | inr later ↦ Listed-cons g gs f (Listed-has gs f later)
]

-- what is listed is a fact of the list
pub has-Listed : (facts : List Fact) (f : Fact) → IsListed facts f → has facts f ≡ true
has-Listed facts f h = at facts h.place h.there
  where
    at : (facts : List Fact) (k : ℕ) → slice_get facts k ≡ Some f → has facts f ≡ true
    at [] k e = cc
    at (g ∷ gs) zero e = or_left (is_eq (fact_cmp f g)) (has gs f) (subst (λ (x : Fact). is_eq (fact_cmp f x) ≡ true) (sym (same_Some g f e)) (fact_itself f))
    at (g ∷ gs) (suc k) e = or_right (is_eq (fact_cmp f g)) (has gs f) (at gs k e)

-- elements that stand in the places of a fact with so many places
pub record ArePlaced (count : ℕ) (size : ℕ → ℕ) (args : List ℕ) : Type 0 where
  pub elements : (k : ℕ) → k < count → slice_index args k < size k
  pub unused : (k : ℕ) → count ≤ k → slice_index args k ≡ 0
  pub width : length args ≡ 3

-- the elements in the places of a fact are a tuple, and make the fact's arguments
pub placed_tuple : (count : ℕ) (size : ℕ → ℕ) (args : List ℕ) → count ≤ 3 → ArePlaced count size args → IsTuple (map size (numbers count)) (take count args) × (three (take count args) ≡ args)
unfolding numbers
placed_tuple zero size (a ∷ b ∷ c ∷ []) s h =
    let a0 : a ≡ 0 = h.unused 0 (omega arith) in
    let b0 : b ≡ 0 = h.unused 1 (omega arith) in
    let c0 : c ≡ 0 = h.unused 2 (omega arith) in
    (tt, cc)
placed_tuple (suc zero) size (a ∷ b ∷ c ∷ []) s h =
    let b0 : b ≡ 0 = h.unused 1 (omega arith) in
    let c0 : c ≡ 0 = h.unused 2 (omega arith) in
    ((h.elements 0 (omega arith), tt), cc)
placed_tuple (suc (suc zero)) size (a ∷ b ∷ c ∷ []) s h =
    let c0 : c ≡ 0 = h.unused 2 (omega arith) in
    ((h.elements 0 (omega arith), (h.elements 1 (omega arith), tt)), cc)
placed_tuple (suc (suc (suc zero))) size (a ∷ b ∷ c ∷ []) s h =
    ((h.elements 0 (omega arith), (h.elements 1 (omega arith), (h.elements 2 (omega arith), tt))), refl)
placed_tuple (suc (suc (suc (suc n)))) size args s h = absurd (omega arith)
placed_tuple count size [] s h = absurd (omega (arith, h.width))
placed_tuple count size (a ∷ []) s h = absurd (omega (arith, h.width))
placed_tuple count size (a ∷ b ∷ []) s h = absurd (omega (arith, h.width))
placed_tuple count size (a ∷ b ∷ c ∷ d ∷ rest) s h = absurd (omega (arith, h.width))

-- the elements of a tuple stand in the places of a fact
pub tuple_placed : (count : ℕ) (size : ℕ → ℕ) (xs : List ℕ) → count ≤ 3 → IsTuple (map size (numbers count)) xs → ArePlaced count size (three xs)
unfolding numbers
tuple_placed zero size [] s h = record { elements = λ k l. absurd (omega arith); unused = nothing; width = refl }
  where
    nothing : (k : ℕ) → 0 ≤ k → slice_index (0 ∷ 0 ∷ 0 ∷ []) k ≡ 0
    nothing zero l = refl
    nothing (suc zero) l = refl
    nothing (suc (suc zero)) l = refl
    nothing (suc (suc (suc k))) l = refl
tuple_placed (suc zero) size (a ∷ []) s h = record { elements = first; unused = later; width = refl }
  where
    first : (k : ℕ) → k < 1 → slice_index (a ∷ 0 ∷ 0 ∷ []) k < size k
    first zero l = h.0
    first (suc k) l = absurd (omega arith)

    later : (k : ℕ) → 1 ≤ k → slice_index (a ∷ 0 ∷ 0 ∷ []) k ≡ 0
    later zero l = absurd (omega arith)
    later (suc zero) l = refl
    later (suc (suc zero)) l = refl
    later (suc (suc (suc k))) l = refl
tuple_placed (suc (suc zero)) size (a ∷ b ∷ []) s h = record { elements = first; unused = later; width = refl }
  where
    first : (k : ℕ) → k < 2 → slice_index (a ∷ b ∷ 0 ∷ []) k < size k
    first zero l = h.0
    first (suc zero) l = h.1.0
    first (suc (suc k)) l = absurd (omega arith)

    later : (k : ℕ) → 2 ≤ k → slice_index (a ∷ b ∷ 0 ∷ []) k ≡ 0
    later zero l = absurd (omega arith)
    later (suc zero) l = absurd (omega arith)
    later (suc (suc zero)) l = refl
    later (suc (suc (suc k))) l = refl
tuple_placed (suc (suc (suc zero))) size (a ∷ b ∷ c ∷ []) s h = record { elements = first; unused = later; width = refl }
  where
    first : (k : ℕ) → k < 3 → slice_index (a ∷ b ∷ c ∷ []) k < size k
    first zero l = h.0
    first (suc zero) l = h.1.0
    first (suc (suc zero)) l = h.1.1.0
    first (suc (suc (suc k))) l = absurd (omega arith)

    later : (k : ℕ) → 3 ≤ k → slice_index (a ∷ b ∷ c ∷ []) k ≡ 0
    later zero l = absurd (omega arith)
    later (suc zero) l = absurd (omega arith)
    later (suc (suc zero)) l = absurd (omega arith)
    later (suc (suc (suc k))) l = refl
tuple_placed (suc (suc (suc (suc n)))) size xs s h = absurd (omega arith)
tuple_placed zero size (a ∷ xs) s h = absurd h
tuple_placed (suc zero) size [] s h = absurd h
tuple_placed (suc zero) size (a ∷ b ∷ xs) s h = absurd h.1
tuple_placed (suc (suc zero)) size [] s h = absurd h
tuple_placed (suc (suc zero)) size (a ∷ []) s h = absurd h.1
tuple_placed (suc (suc zero)) size (a ∷ b ∷ c ∷ xs) s h = absurd h.1.1
tuple_placed (suc (suc (suc zero))) size [] s h = absurd h
tuple_placed (suc (suc (suc zero))) size (a ∷ []) s h = absurd h.1
tuple_placed (suc (suc (suc zero))) size (a ∷ b ∷ []) s h = absurd h.1.1
tuple_placed (suc (suc (suc zero))) size (a ∷ b ∷ c ∷ d ∷ xs) s h = absurd h.1.1.1

-- three keeps the order of lists that are equally long
pub three-less : (xs ys : List ℕ) → length xs ≡ length ys → length xs ≤ 3 → slice_cmp nat_cmp xs ys ≡ Less → slice_cmp nat_cmp (three xs) (three ys) ≡ Less
three-less [] [] e s l = cc
three-less [] (c ∷ ys) e s l = absurd (omega (arith, e))
three-less (a ∷ xs) [] e s l = absurd (omega (arith, e))
three-less (a ∷ []) (c ∷ []) e s l = l
three-less (a ∷ []) (c ∷ d ∷ ys) e s l = absurd (omega (arith, e))
three-less (a ∷ b ∷ xs) (c ∷ []) e s l = absurd (omega (arith, e))
three-less (a ∷ b ∷ []) (c ∷ d ∷ []) e s l = l
three-less (a ∷ b ∷ []) (c ∷ d ∷ f ∷ ys) e s l = absurd (omega (arith, e))
three-less (a ∷ b ∷ g ∷ xs) (c ∷ d ∷ []) e s l = absurd (omega (arith, e))
three-less (a ∷ b ∷ g ∷ []) (c ∷ d ∷ f ∷ []) e s l = l
three-less (a ∷ b ∷ g ∷ []) (c ∷ d ∷ f ∷ h ∷ ys) e s l = absurd (omega (arith, e))
three-less (a ∷ b ∷ g ∷ h ∷ xs) ys e s l = absurd (omega (arith, s))

-- a tuple is as long as its sizes
pub length-tuple : (sizes xs : List ℕ) → IsTuple sizes xs → length xs ≡ length sizes
length-tuple sizes xs h = sym (length_all_zip (λ size x. x < size) sizes xs h)

-- the numbers below n are n
pub length-numbers : (n : ℕ) → length (numbers n) ≡ n
unfolding numbers
length-numbers zero = refl
length-numbers (suc n) = length-append (numbers n) (n ∷ []) ∙ (ap (λ m. m + 1) (length-numbers n) ∙ omega arith)

-- there are as many sizes as places
pub length-place_sizes : (p : Predicate) (universe : Universe) → length (place_sizes p universe) ≡ p.arity
length-place_sizes p universe = length-map (numbers p.arity) (size_in universe p) ∙ length-numbers p.arity

-- the facts of a predicate stand in order
pub Rises-facts_of : (number : ℕ) (p : Predicate) (universe : Universe) → p.arity ≤ 3 → IsRising (facts_of number p universe)
Rises-facts_of number p universe short = Rises-map (slice_cmp nat_cmp) fact_cmp (λ (elements : List ℕ). record { predicate = number; args = three elements }) (tuples (place_sizes p universe))
    (λ a b l m less.
    let wide = length-place_sizes p universe in
    let first : length a ≡ length (place_sizes p universe) = length-tuple (place_sizes p universe) a (listed_tuple (place_sizes p universe) a l) in
    let second : length b ≡ length (place_sizes p universe) = length-tuple (place_sizes p universe) b (listed_tuple (place_sizes p universe) b m) in
    rw (tied_itself nat_cmp_total number) (three-less a b (first ∙ sym second) (omega arith) less))
    (Rises-tuples (place_sizes p universe))

-- the listed facts of a predicate are those of its number whose elements are placed
pub listed_facts_of : (number : ℕ) (p : Predicate) (universe : Universe) (f : Fact) → p.arity ≤ 3 → IsListed (facts_of number p universe) f
    → (f.predicate ≡ number) × ArePlaced p.arity (size_in universe p) f.args
listed_facts_of number p universe f short h =
    let m = listed_map (λ (elements : List ℕ). record { predicate = number; args = three elements }) (tuples (place_sizes p universe)) f h in
    let placed = tuple_placed p.arity (size_in universe p) m.from short (listed_tuple (place_sizes p universe) m.from m.listed) in
    (sym (ap (λ (g : Fact). g.predicate) m.is), subst (ArePlaced p.arity (size_in universe p)) (ap (λ (g : Fact). g.args) m.is) placed)

pub Listed-facts_of : (number : ℕ) (p : Predicate) (universe : Universe) (f : Fact) → p.arity ≤ 3 → f.predicate ≡ number
    → ArePlaced p.arity (size_in universe p) f.args → IsListed (facts_of number p universe) f
Listed-facts_of number p universe f short same h =
    let tuple = placed_tuple p.arity (size_in universe p) f.args short h in
    let here = Listed-map (λ (elements : List ℕ). record { predicate = number; args = three elements }) (tuples (place_sizes p universe)) (take p.arity f.args) (Listed-tuples (place_sizes p universe) (take p.arity f.args) tuple.0) in
    let is : record { predicate = number; args = three (take p.arity f.args) } ≡ f = λ i. record { predicate = sym same i; args = tuple.1 i } in
    subst (IsListed (facts_of number p universe)) is here
