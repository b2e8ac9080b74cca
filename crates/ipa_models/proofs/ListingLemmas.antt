-- Listing facts place by place, and how many there are.
use Rattle.std.proofs.Common.{◌≡◌, ℕ, zero, suc, ◌+◌, ◌*◌, ◌^◌, ◌<◌, ◌≤◌, List, [], ◌∷◌, ◌++◌, length, map, take, drop, Some, refl, sym, ap, ◌∙◌, subst, arith, slice_get, get_or, set, add-one, inl, inr}
use Rattle.std.specs.List.{slice_index}
use Rattle.std.proofs.lemmas.Bool.{cases_lt}
use Rattle.std.proofs.lemmas.Grind.{pow_more}
use Rattle.std.proofs.lemmas.List.{length-append, length-map, map-append, append-nil, append_assoc, take_more, length-take-le, drop_more, drop_all, get_or-map, get_or_append_left, get_or_push, get_or_past, set_past}
use Rattle.std.proofs.lemmas.Nat.{mul-le}
use Rattle.std.proofs.lemmas.Simd.{map-map}
use Rattle.ipa_spec.specs.declared.specification.Specification.{Specification}
use Rattle.ipa_spec.specs.declared.predicates.Predicate.{Predicate}
use Rattle.ipa_spec.specs.Fits.{IsFit}
use Rattle.ipa_logic.specs.Facts.{Universe, IsUniverse, size_of}
use Rattle.ipa_logic.specs.declared.facts.Fact.{Fact}
use Rattle.ipa_ground.specs.Enumeration.{numbers, branches, tuples, three, size_in, place_sizes, facts_of, facts_from, facts_over}
use Rattle.ipa_ground.specs.EnumerationLaws.{length-numbers, length-place_sizes}
use Rattle.ipa_ground.specs.FactsLaws.{facts_from-push}
use Rattle.ipa_ground.specs.BranchLaws.{branch, branches-suc, length-branches}
use Rattle.ipa_ground.specs.Instances.{filled}
use Rattle.ipa_ground.specs.Places.{AreSmall}
use Rattle.ipa_ground.specs.PlaceLaws.{power-below}
use Rattle.ipa_models.specs.Listing.{with_rest, facts_with, facts_below}
use Rattle.ipa_models.specs.Questions.{IsNumbered}

-- the numbers below n, by place
get-numbers : (n k d : ℕ) → k < n → get_or (numbers n) k d ≡ k
unfolding numbers
get-numbers zero k d l = absurd (omega arith)
get-numbers (suc n) k d l = elim (cases_lt k n) [
  | inl lt ↦ get_or_append_left (numbers n) (n ∷ []) d k (omega (arith, length-numbers n)) ∙ get-numbers n k d lt
  | inr ge ↦ (let same : k ≡ n = omega arith in get_or_push (numbers n) n d k (length-numbers n ∙ sym same) ∙ sym same)
]

-- the sizes from a place on
drop-sizes : (p : Predicate) (universe : Universe) (at : ℕ) → at < p.arity → drop at (place_sizes p universe) ≡ size_in universe p at ∷ drop (at + 1) (place_sizes p universe)
drop-sizes p universe at l =
    drop_more (place_sizes p universe) at 0 (omega (arith, length-place_sizes p universe))
    ∙ ap (λ n. n ∷ drop (at + 1) (place_sizes p universe))
    (get_or-map (size_in universe p) (numbers p.arity) at 0 0 (omega (arith, length-numbers p.arity)) ∙ ap (size_in universe p) (get-numbers p.arity at 0 l))

-- behind the last place stands the fact itself
pub facts_with-none : (fact : Fact) (p : Predicate) (universe : Universe) (at : ℕ) → at ≡ p.arity → facts_with fact at (drop at (place_sizes p universe)) ≡ fact ∷ []
facts_with-none fact p universe at e = ap (facts_with fact at) (drop_all at (place_sizes p universe) (omega (arith, length-place_sizes p universe)))

-- no element yet
facts_below-none : (fact : Fact) (at : ℕ) (sizes : List ℕ) → facts_below fact at 0 sizes ≡ []
unfolding numbers
facts_below-none fact at sizes = refl

-- one element more
facts_below-more : (fact : Fact) (at n : ℕ) (sizes : List ℕ)
    → facts_below fact at (n + 1) sizes ≡ facts_below fact at n sizes ++ facts_with (record { predicate = fact.predicate; args = set fact.args at n }) (at + 1) sizes
facts_below-more fact at n sizes =
    ap (λ m. facts_below fact at m sizes) (add-one n)
    ∙ (ap (map (with_rest fact at)) (branches-suc (λ _. tuples sizes) n)
    ∙ (map-append (with_rest fact at) (branches n (λ _. tuples sizes)) (branch (λ _. tuples sizes) n)
    ∙ ap (λ fs. facts_below fact at n sizes ++ fs) (map-map (with_rest fact at) (λ (rest : List ℕ). n ∷ rest) (tuples sizes))))

-- the loop over the elements of a place: its start, its step and its end
pub below-none : (base : List Fact) (fact : Fact) (at : ℕ) (sizes : List ℕ) → base ≡ base ++ facts_below fact at 0 sizes
below-none base fact at sizes = sym (ap (λ fs. base ++ fs) (facts_below-none fact at sizes) ∙ append-nil base)

pub below-next : (base now next : List Fact) (fact : Fact) (at n : ℕ) (sizes : List ℕ) → now ≡ base ++ facts_below fact at n sizes
    → next ≡ now ++ facts_with (record { predicate = fact.predicate; args = set fact.args at n }) (at + 1) sizes → next ≡ base ++ facts_below fact at (n + 1) sizes
below-next base now next fact at n sizes h e =
    let more : List Fact = facts_with (record { predicate = fact.predicate; args = set fact.args at n }) (at + 1) sizes in
    e ∙ (ap (λ fs. fs ++ more) h
    ∙ (append_assoc base (facts_below fact at n sizes) more
    ∙ ap (λ fs. base ++ fs) (sym (facts_below-more fact at n sizes))))

pub below-all : (base now : List Fact) (fact : Fact) (p : Predicate) (universe : Universe) (at n : ℕ) → at < p.arity → n ≡ size_in universe p at
    → now ≡ base ++ facts_below fact at n (drop (at + 1) (place_sizes p universe)) → now ≡ base ++ facts_with fact at (drop at (place_sizes p universe))
below-all base now fact p universe at n l e h =
    h ∙ ap (λ fs. base ++ fs) (ap (λ m. facts_below fact at m (drop (at + 1) (place_sizes p universe))) e ∙ sym (ap (facts_with fact at) (drop-sizes p universe at l)))

-- elements in all three places
three-filled : (rest : List ℕ) → filled 0 (0 ∷ 0 ∷ 0 ∷ []) rest ≡ three rest
three-filled [] = refl
three-filled (a ∷ []) = refl
three-filled (a ∷ b ∷ []) = refl
three-filled (a ∷ b ∷ c ∷ rest) = past 3 (a ∷ b ∷ c ∷ []) rest (omega arith) refl
  where
    past : (at : ℕ) (xs rest : List ℕ) → 3 ≤ at → length xs ≡ 3 → filled at xs rest ≡ xs
    past at xs [] l e = refl
    past at xs (d ∷ rest) l e = ap (λ ys. filled (at + 1) ys rest) (set_past xs at d (omega (arith, e))) ∙ past (at + 1) xs rest (omega arith) e

facts_with-all : (number : ℕ) (p : Predicate) (universe : Universe) → facts_with (record { predicate = number; args = 0 ∷ 0 ∷ 0 ∷ [] }) 0 (drop 0 (place_sizes p universe)) ≡ facts_of number p universe
facts_with-all number p universe = λ i. map (λ (rest : List ℕ). record { predicate = number; args = three-filled rest i }) (tuples (place_sizes p universe))

-- one predicate more
pub predicates-next : (ps : List Predicate) (universe : Universe) (n : ℕ) (p : Predicate) (now next : List Fact) → n < length ps → p ≡ get_or ps n p → now ≡ facts_over (take n ps) universe
    → next ≡ now ++ facts_with (record { predicate = n; args = 0 ∷ 0 ∷ 0 ∷ [] }) 0 (drop 0 (place_sizes p universe)) → next ≡ facts_over (take (n + 1) ps) universe
predicates-next ps universe n p now next l at h e =
    e ∙ ((λ i. h i ++ facts_with-all n p universe i)
    ∙ sym (ap (λ qs. facts_over qs universe) (take_more ps n p l)
    ∙ (ap (λ q. facts_over (take n ps ++ q ∷ []) universe) (sym at)
    ∙ (facts_from-push 0 (take n ps) p universe
    ∙ ap (λ m. facts_over (take n ps) universe ++ facts_of m p universe) (omega (arith, length-take-le n ps))))))

-- at most three sizes of at most sixteen
tuples-few : (f : ℕ → ℕ) → ((k : ℕ) → f k ≤ 16) → (ns : List ℕ) → length (tuples (map f ns)) ≤ 16 ^ length ns
tuples-few f small [] = omega arith
tuples-few f small (n ∷ ns) =
    let count : length (tuples (map f (n ∷ ns))) ≡ f n * length (tuples (map f ns)) = length-branches (λ _. tuples (map f ns)) (f n) (length (tuples (map f ns))) (λ x l. refl) in
    let bound : f n * length (tuples (map f ns)) ≤ 16 * 16 ^ length ns = mul-le (f n) (length (tuples (map f ns))) 16 (16 ^ length ns) (small n) (tuples-few f small ns) in
    let same : length ns + 1 ≡ length (n ∷ ns) = omega arith in
    subst (λ m. length (tuples (map f (n ∷ ns))) ≤ 16 ^ m) same (omega (arith, pow_more 16 (length ns)))

size-small : (universe : Universe) (sort : ℕ) → AreSmall universe → size_of universe sort ≤ 16
size-small universe sort small = elim (cases_lt sort (length universe)) [
  | inl inside ↦ small sort 0 inside
  | inr past ↦ omega (arith, get_or_past universe sort 0 past)
]

facts-few : (universe : Universe) → AreSmall universe → (number : ℕ) (ps : List Predicate) → ((n : ℕ) (p : Predicate) → slice_get ps n ≡ Some p → p.arity ≤ 3) → length (facts_from number ps universe) ≤ length ps * 4096
facts-few universe small number [] h = omega arith
facts-few universe small number (p ∷ ps) h =
    let here : length (tuples (place_sizes p universe)) ≤ 16 ^ length (numbers p.arity) = tuples-few (size_in universe p) (λ k. size-small universe (slice_index p.sorts k) small) (numbers p.arity) in
    let same : length (facts_of number p universe) ≡ length (tuples (place_sizes p universe)) = length-map (tuples (place_sizes p universe)) (λ (elements : List ℕ). record { predicate = number; args = three elements }) in
    let power : 16 ^ p.arity ≤ 4096 = power-below p.arity (h 0 p refl) in
    let arity : 16 ^ length (numbers p.arity) ≡ 16 ^ p.arity = ap (λ m. 16 ^ m) (length-numbers p.arity) in
    let rest : length (facts_from (number + 1) ps universe) ≤ length ps * 4096 = facts-few universe small (number + 1) ps (λ n q e. h (suc n) q e) in
    let both : length (facts_from number (p ∷ ps) universe) ≡ length (facts_of number p universe) + length (facts_from (number + 1) ps universe) = length-append (facts_of number p universe) (facts_from (number + 1) ps universe) in
    omega arith

-- the variables of the facts have numbers
pub numbered : (s : Specification) (universe : Universe) → IsFit s → IsUniverse s universe → AreSmall universe →
    IsNumbered s universe
numbered s universe fit sizes small = record {
  fit = fit;
  sizes = sizes;
  small = small;
  room = omega (arith, facts-few universe small 0 s.predicates fit.arities, fit.predicate_count);
}
