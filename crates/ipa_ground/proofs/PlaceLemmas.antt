-- Counting tuples and facts, and their places.
use Rattle.std.proofs.Common.{◌≡◌, ℕ, zero, suc, ◌+◌, ◌*◌, ◌^◌, ◌<◌, ◌≤◌, List, [], ◌∷◌, ◌++◌, length, map, take, Some, refl, sym, ap, ◌∙◌, subst, arith, slice_get, get_or, set, replicate, ◌≢◌, add-one, inl, inr}
use Rattle.std.specs.List.{slice_index}
use Rattle.std.proofs.lemmas.List.{length-append, length-map, map-append, take_more, take_all, length-take-le, get_or-set_same, get_or-set_other, length-set}
use Rattle.std.proofs.lemmas.Grind.{pow_more}
use Rattle.std.proofs.lemmas.Option.{slice_get_within, same_Some}
use Rattle.std.proofs.lemmas.Nat.{mul-le}
use Rattle.std.proofs.lemmas.Bool.{cases_lt}
use Rattle.ipa_spec.specs.declared.predicates.Predicate.{Predicate}
use Rattle.ipa_spec.specs.declared.specification.Specification.{Specification}
use Rattle.ipa_logic.specs.Facts.{Universe, IsFact}
use Rattle.ipa_logic.specs.declared.facts.Fact.{Fact}
use Rattle.ipa_ground.specs.Enumeration.{numbers, tuples, IsTuple, three, size_in, place_sizes, facts_of, facts_from, facts_over}
use Rattle.ipa_ground.specs.ListLaws.{get-left, get-right, get-map}
use Rattle.ipa_ground.specs.BranchLaws.{length-branches, get-branches}
use Rattle.ipa_ground.specs.EnumerationLaws.{ArePlaced, placed_tuple, length-numbers}
use Rattle.ipa_ground.specs.FactsLaws.{facts_from-push}
use Rattle.ipa_ground.specs.Places.{tuple_count, tuple_place, AreStarts}

-- the sizes of the first places
abbrev pub first_sizes : Universe → Predicate → ℕ → List ℕ
first_sizes universe p n = map (size_in universe p) (numbers n)

pub first_sizes-none : (universe : Universe) (p : Predicate) → first_sizes universe p 0 ≡ []
unfolding numbers
first_sizes-none universe p = refl

pub first_sizes-more : (universe : Universe) (p : Predicate) (n : ℕ) → first_sizes universe p (n + 1) ≡ first_sizes universe p n ++ size_in universe p n ∷ []
unfolding numbers
first_sizes-more universe p n = ap (first_sizes universe p) (add-one n) ∙ map-append (size_in universe p) (numbers n) (n ∷ [])

length-first_sizes : (universe : Universe) (p : Predicate) (n : ℕ) → length (first_sizes universe p n) ≡ n
length-first_sizes universe p n = length-map (numbers n) (size_in universe p) ∙ length-numbers n

-- one size more
pub tuple_count-push : (sizes : List ℕ) (size : ℕ) → tuple_count (sizes ++ size ∷ []) ≡ tuple_count sizes * size
tuple_count-push [] size = omega arith
tuple_count-push (s ∷ sizes) size = ap (λ n. s * n) (tuple_count-push sizes size) ∙ omega arith

pub tuple_place-push : (sizes xs : List ℕ) (size x : ℕ) → length xs ≡ length sizes → tuple_place (sizes ++ size ∷ []) (xs ++ x ∷ []) ≡ tuple_place sizes xs * size + x
tuple_place-push [] [] size x e = omega arith
tuple_place-push [] (y ∷ xs) size x e = absurd (omega (arith, e))
tuple_place-push (s ∷ sizes) [] size x e = absurd (omega (arith, e))
tuple_place-push (s ∷ sizes) (y ∷ xs) size x e =
    let more : y * tuple_count (sizes ++ size ∷ []) ≡ y * tuple_count sizes * size = ap (λ n. y * n) (tuple_count-push sizes size) ∙ omega arith in
    let rest = tuple_place-push sizes xs size x (omega (arith, e)) in
    omega arith

-- the count is the number of tuples
pub length-tuples : (sizes : List ℕ) → length (tuples sizes) ≡ tuple_count sizes
length-tuples [] = refl
length-tuples (size ∷ sizes) = length-branches (λ _. tuples sizes) size (tuple_count sizes) (λ x l. length-tuples sizes)

-- a tuple stands at its place
pub get-tuples : (sizes xs : List ℕ) → IsTuple sizes xs → slice_get (tuples sizes) (tuple_place sizes xs) ≡ Some xs
get-tuples [] [] h = refl
get-tuples [] (x ∷ xs) h = absurd h
get-tuples (size ∷ sizes) [] h = absurd h
get-tuples (size ∷ sizes) (x ∷ xs) h = get-branches (λ _. tuples sizes) size (tuple_count sizes) x (tuple_place sizes xs) xs (λ y l. length-tuples sizes) h.0 (get-tuples sizes xs h.1)

pub length-facts_of : (number : ℕ) (p : Predicate) (universe : Universe) → length (facts_of number p universe) ≡ tuple_count (place_sizes p universe)
length-facts_of number p universe = length-map (tuples (place_sizes p universe)) (λ (elements : List ℕ). record { predicate = number; args = three elements }) ∙ length-tuples (place_sizes p universe)

-- the places of the first so many predicates and of one more
pub starts-next : (ps : List Predicate) (universe : Universe) (n : ℕ) (p : Predicate) → n < length ps → p ≡ get_or ps n p
    → length (facts_from 0 (take (n + 1) ps) universe) ≡ length (facts_from 0 (take n ps) universe) + tuple_count (place_sizes p universe)
starts-next ps universe n p l at =
    ap (λ qs. length (facts_from 0 qs universe)) (take_more ps n p l)
    ∙ (ap (λ q. length (facts_from 0 (take n ps ++ q ∷ []) universe)) (sym at)
    ∙ (ap length (facts_from-push 0 (take n ps) p universe)
    ∙ (length-append (facts_from 0 (take n ps) universe) (facts_of (0 + length (take n ps)) p universe)
    ∙ ap (λ m. length (facts_from 0 (take n ps) universe) + m) (length-facts_of (0 + length (take n ps)) p universe))))

-- a fact stands where those of its predicate start, and then at the place of its elements
pub get-facts_from : (number : ℕ) (ps : List Predicate) (universe : Universe) (k : ℕ) (p : Predicate) (j : ℕ) (f : Fact) → slice_get ps k ≡ Some p → slice_get (facts_of (number + k) p universe) j ≡ Some f
    → slice_get (facts_from number ps universe) (length (facts_from number (take k ps) universe) + j) ≡ Some f
get-facts_from number [] universe k p j f e h = cc
get-facts_from number (q ∷ ps) universe zero p j f e h =
    let first : slice_get (facts_of number q universe) j ≡ Some f =
    subst (λ (r : Predicate). slice_get (facts_of number r universe) j ≡ Some f) (sym (same_Some q p e))
    (subst (λ n. slice_get (facts_of n p universe) j ≡ Some f) (omega arith) h) in
    ap (slice_get (facts_of number q universe ++ facts_from (number + 1) ps universe)) (omega arith)
    ∙ get-left (facts_of number q universe) (facts_from (number + 1) ps universe) j f first
get-facts_from number (q ∷ ps) universe (suc k) p j f e h =
    let rest = get-facts_from (number + 1) ps universe k p j f e (subst (λ n. slice_get (facts_of n p universe) j ≡ Some f) (omega arith) h) in
    let place : length (facts_of number q universe ++ facts_from (number + 1) (take k ps) universe) + j ≡ length (facts_of number q universe) + (length (facts_from (number + 1) (take k ps) universe) + j)
    = omega (arith, length-append (facts_of number q universe) (facts_from (number + 1) (take k ps) universe)) in
    ap (slice_get (facts_of number q universe ++ facts_from (number + 1) ps universe)) place
    ∙ (get-right (facts_of number q universe) (facts_from (number + 1) ps universe) (length (facts_from (number + 1) (take k ps) universe) + j) ∙ rest)

pub get-facts_of : (number : ℕ) (p : Predicate) (universe : Universe) (f : Fact) → p.arity ≤ 3 → f.predicate ≡ number → ArePlaced p.arity (size_in universe p) f.args
    → slice_get (facts_of number p universe) (tuple_place (place_sizes p universe) (take p.arity f.args)) ≡ Some f
get-facts_of number p universe f short same h =
    let tuple = placed_tuple p.arity (size_in universe p) f.args short h in
    let is : record { predicate = number; args = three (take p.arity f.args) } ≡ f = λ i. record { predicate = sym same i; args = tuple.1 i } in
    get-map (λ (elements : List ℕ). record { predicate = number; args = three elements }) (tuples (place_sizes p universe)) (tuple_place (place_sizes p universe) (take p.arity f.args)) (take p.arity f.args)
    (get-tuples (place_sizes p universe) (take p.arity f.args) tuple.0) ∙ ap (λ (g : Fact). Some g) is

-- at most three sizes of at most sixteen
pub power-step : (n count size : ℕ) → count ≤ 16 ^ n → size ≤ 16 → count * size ≤ 16 ^ (n + 1)
power-step n count size l s = rw (pow_more 16 n) (mul-le count size (16 ^ n) 16 l s)

pub place-step : (n number size x : ℕ) → number < 16 ^ n → size ≤ 16 → x < 16 → number * size + x < 16 ^ (n + 1)
place-step n number size x l s h = rw (pow_more 16 n) (let bound : number * size ≤ number * 16 = mul-le number size number 16 (omega arith) s in omega arith)

-- the count after one place more
pub count-next : (universe : Universe) (p : Predicate) (n count size : ℕ) → count ≡ tuple_count (first_sizes universe p n) → size ≡ size_in universe p n
    → count * size ≡ tuple_count (first_sizes universe p (n + 1))
count-next universe p n count size e s =
    (λ i. e i * s i) ∙ sym (ap tuple_count (first_sizes-more universe p n) ∙ tuple_count-push (first_sizes universe p n) (size_in universe p n))

-- the number after one place more
pub number-next : (universe : Universe) (p : Predicate) (args : List ℕ) (n number size x : ℕ) → number ≡ tuple_place (first_sizes universe p n) (take n args) → size ≡ size_in universe p n
    → n < length args → x ≡ slice_index args n → number * size + x ≡ tuple_place (first_sizes universe p (n + 1)) (take (n + 1) args)
number-next universe p args n number size x e s l at =
    (λ i. e i * s i + at i) ∙ sym ((λ i. tuple_place (first_sizes-more universe p n i) (take_more args n 0 l i))
    ∙ tuple_place-push (first_sizes universe p n) (take n args) (size_in universe p n) (slice_index args n) (length-take-le n args (omega arith) ∙ sym (length-first_sizes universe p n)))

-- the table of starts is filled for the first n predicates
pub record StartsBelow (starts : List ℕ) (ps : List Predicate) (universe : Universe) (n : ℕ) : Type 0 where
  pub width : length starts ≡ 33
  pub numbers : (k : ℕ) → k ≤ n → slice_index starts k ≡ length (facts_from 0 (take k ps) universe)
  pub bound : (k : ℕ) → k ≤ n → slice_index starts k ≤ k * 4096

pub starts-none : (ps : List Predicate) (universe : Universe) → StartsBelow (replicate 33 0) ps universe 0
starts-none ps universe = record { width = refl; numbers = λ k l. first k (omega arith); bound = λ k l. low k (omega arith) }
  where
    first : (k : ℕ) → k ≡ 0 → slice_index (replicate 33 0) k ≡ length (facts_from 0 (take k ps) universe)
    first zero e = refl
    first (suc k) e = absurd (omega arith)

    low : (k : ℕ) → k ≡ 0 → slice_index (replicate 33 0) k ≤ k * 4096
    low zero e = omega arith
    low (suc k) e = absurd (omega arith)

pub starts-more : (starts : List ℕ) (ps : List Predicate) (universe : Universe) (n count : ℕ) (p : Predicate) → n < 32 → n < length ps → p ≡ get_or ps n p
    → count ≡ tuple_count (place_sizes p universe) → count ≤ 4096 → StartsBelow starts ps universe n → StartsBelow (set starts (n + 1) (slice_index starts n + count)) ps universe (n + 1)
starts-more starts ps universe n count p small l at e few h =
    let inside : n + 1 < length starts = omega (arith, h.width) in
    let here : slice_index (set starts (n + 1) (slice_index starts n + count)) (n + 1) ≡ slice_index starts n + count = get_or-set_same starts (n + 1) (slice_index starts n + count) 0 inside in
    record {
      width = length-set starts (n + 1) (slice_index starts n + count) ∙ h.width;
      numbers = λ k below. elim (cases_lt n k) [
        | inl above ↦ (let same : k ≡ n + 1 = omega arith in
            ap (slice_index (set starts (n + 1) (slice_index starts n + count))) same ∙ (here ∙ ((λ i. h.numbers n (omega arith) i + e i) ∙ (sym (starts-next ps universe n p l at) ∙ ap (λ m. length (facts_from 0 (take m ps) universe)) (sym same)))))
        | inr le ↦ (let other : k ≢ n + 1 = omega arith in get_or-set_other starts (n + 1) k (slice_index starts n + count) 0 other ∙ h.numbers k le)
      ];
      bound = λ k below. elim (cases_lt n k) [
        | inl above ↦ (let same : k ≡ n + 1 = omega arith in
            let at_k : slice_index (set starts (n + 1) (slice_index starts n + count)) k ≡ slice_index starts n + count = ap (slice_index (set starts (n + 1) (slice_index starts n + count))) same ∙ here in
            omega (arith, h.bound n (omega arith)))
        | inr le ↦ (let other : k ≢ n + 1 = omega arith in
            let same : slice_index (set starts (n + 1) (slice_index starts n + count)) k ≡ slice_index starts k = get_or-set_other starts (n + 1) k (slice_index starts n + count) 0 other in
            omega (arith, h.bound k le))
      ];
    }

pub starts-all : (starts : List ℕ) (ps : List Predicate) (universe : Universe) (n : ℕ) → length ps ≤ n → StartsBelow starts ps universe n → AreStarts starts ps universe
starts-all starts ps universe n l h = record { numbers = λ k below. h.numbers k (omega arith); bound = λ k below. h.bound k (omega arith) }

-- the number of a fact of the predicate at its place
pub number-found : (starts : List ℕ) (ps : List Predicate) (universe : Universe) (f : Fact) (p : Predicate) (number : ℕ) → AreStarts starts ps universe → p.arity ≤ 3 → slice_get ps f.predicate ≡ Some p
    → ArePlaced p.arity (size_in universe p) f.args → number ≡ tuple_place (place_sizes p universe) (take p.arity f.args)
    → slice_get (facts_over ps universe) (slice_index starts f.predicate + number) ≡ Some f
number-found starts ps universe f p number h short e placed is =
    (let within : f.predicate < length ps = slice_get_within ps f.predicate p e in
    λ i. slice_get (facts_over ps universe) (h.numbers f.predicate (omega arith) i + is i))
    ∙ get-facts_from 0 ps universe f.predicate p (tuple_place (place_sizes p universe) (take p.arity f.args)) f e
    (get-facts_of (0 + f.predicate) p universe f short (omega arith) placed)

-- the elements of a fact over the universe stand in its places
pub fact-placed : (s : Specification) (universe : Universe) (f : Fact) (p : Predicate) → IsFact s universe f → slice_get s.predicates f.predicate ≡ Some p → ArePlaced p.arity (size_in universe p) f.args
fact-placed s universe f p h e =
    subst (λ (q : Predicate). ArePlaced q.arity (size_in universe q) f.args) (same_Some h.predicate p (sym h.declared ∙ e))
    (record { elements = h.elements; unused = h.unused; width = h.width })

-- after the starts stands the number of all facts
pub starts-count : (starts : List ℕ) (ps : List Predicate) (universe : Universe) (n : ℕ) → AreStarts starts ps universe → n ≡ length ps → slice_index starts n ≡ length (facts_over ps universe)
starts-count starts ps universe n h e =
    ap (slice_index starts) e ∙ (h.numbers (length ps) (omega arith) ∙ ap (λ qs. length (facts_from 0 qs universe)) (take_all (length ps) ps (omega arith)))
