-- Counts of a specification without a fault, and of its lines.
--
--   AreInside s       the counts that being fit says nothing of
--   inside            so they are in a specification without a fault
--   one_limit, two_limits, three_limits   a line that passes none of its limits
--   count_inside      a count up to the greatest allowed
--   size_inside       a size of a bound from 1 to 65535
--   count_before      the count of the parts before a part, and of it
use Rattle.std.proofs.Common.{◌≡◌, ℕ, zero, suc, ◌+◌, ◌≤◌, Bool, true, false, cond, not, ◌&&◌, leb, List, [], ◌∷◌, ◌++◌, length, map, Option, Some, None, refl, ap, subst, ◌∙◌, arith}
use Rattle.std.specs.List.{slice_get, find}
use Rattle.std.specs.Option.{option_map}
use Rattle.std.proofs.lemmas.Bool.{le-ltb, not-false}
use Rattle.std.proofs.lemmas.List.{length-append, length-map}
use Rattle.std.proofs.lemmas.Option.{same_Some}
use Rattle.ipa_spec.specs.Limits.{first_there, size_outside, IsFaultless}
use Rattle.ipa_spec.specs.FaultlessFits.{limits_of-faultless, not_found, above-map}
use Rattle.ipa_spec.specs.declared.faults.SpecFault.{SpecFault}
use Rattle.ipa_spec.specs.declared.faults.SpecFault.TheVariants as fault
use Rattle.ipa_spec.specs.declared.operations.Operation.{Operation}
use Rattle.ipa_spec.specs.declared.bounds.Bound.{Bound}
use Rattle.ipa_spec.specs.declared.specification.Specification.{Specification}
use Rattle.ipa_names.specs.Counts.{count_above}

none_passes : {X : Type 0} (test : ℕ → Bool) (named : ℕ → SpecFault) (of : X → ℕ) (xs : List X) → option_map named (find test (map of xs)) ≡ None → (n : ℕ) (x : X) → slice_get xs n ≡ Some x → test (of x) ≡ false
none_passes test named of [] h n x e = cc
none_passes test named of (y ∷ xs) h zero x e = subst (λ z. test (of z) ≡ false) (same_Some _ _ e) (not_found (test (of y)) named (of y) (find test (map of xs)) h).head
none_passes test named of (y ∷ xs) h (suc n) x e = none_passes test named of xs (not_found (test (of y)) named (of y) (find test (map of xs)) h).rest n x e

pub record IsSizeInside (size : ℕ) : Type 0 where
  pub is : (leb 1 size && leb size 65535) ≡ true

pub record AreInside (s : Specification) : Type 0 where
  pub effects : (n : ℕ) (o : Operation) → slice_get s.operations n ≡ Some o → length o.effects ≤ 12
  pub needs : (n : ℕ) (o : Operation) → slice_get s.operations n ≡ Some o → length o.needs ≤ 6
  pub params : (n : ℕ) (o : Operation) → slice_get s.operations n ≡ Some o → length o.params ≤ 4
  pub sizes : (n : ℕ) (b : Bound) → slice_get s.bounds n ≡ Some b → IsSizeInside b.most
  pub removes : (n : ℕ) (b : Bound) → slice_get s.bounds n ≡ Some b → length b.removes ≤ 4

pub inside : (s : Specification) → IsFaultless s → AreInside s
inside s h = record {
  params = above-map 8 4 (λ x. length x.params) s.operations (limits_of-faultless s h 7 _ refl);
  effects = above-map 9 12 (λ x. length x.effects) s.operations (limits_of-faultless s h 8 _ refl);
  needs = above-map 10 6 (λ x. length x.needs) s.operations (limits_of-faultless s h 9 _ refl);
  sizes = λ n b e. record { is = not-false (leb 1 b.most && leb b.most 65535) (none_passes (λ size. not (leb 1 size && leb size 65535)) (λ found. fault.Limit 12 found) (λ x. x.most) s.bounds (limits_of-faultless s h 11 _ refl) n b e) };
  removes = above-map 13 4 (λ x. length x.removes) s.bounds (limits_of-faultless s h 12 _ refl);
}

pub count_inside : (which most count : ℕ) → count ≤ most → count_above which most count ≡ None
count_inside which most count l = ap (λ b. option_map (λ found. fault.Limit which found) (cond b (Some count) None)) (le-ltb most count l)

pub size_inside : (size : ℕ) → IsSizeInside size → size_outside (size ∷ []) ≡ None
size_inside size h = ap (λ b. option_map (λ found. fault.Limit 12 found) (cond (not b) (Some size) None)) h.is

pub one_limit : (o : Option SpecFault) → o ≡ None → first_there (o ∷ []) ≡ None
one_limit o e = ap (λ x. first_there (x ∷ [])) e

pub two_limits : (o p : Option SpecFault) → o ≡ None → p ≡ None → first_there (o ∷ p ∷ []) ≡ None
two_limits o p e f = ap (λ x. first_there (x ∷ p ∷ [])) e ∙ one_limit p f

pub three_limits : (o p q : Option SpecFault) → o ≡ None → p ≡ None → q ≡ None → first_there (o ∷ p ∷ q ∷ []) ≡ None
three_limits o p q e f g = ap (λ x. first_there (x ∷ p ∷ q ∷ [])) e ∙ two_limits p q f g

pub count_before : {X Y : Type 0} (of : X → Y) (before later : List X) (x : X) (all : List X) (most : ℕ) → all ≡ before ++ x ∷ later → length all ≤ most → length (map of before) + 1 ≤ most
count_before of before later x all most e l = omega (arith, length-map before of, ap length e, length-append before (x ∷ later), l)
