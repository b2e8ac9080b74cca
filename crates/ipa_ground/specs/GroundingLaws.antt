-- What an assignment says of facts.
--
--   test_of-listed      the fact at a place is true where the variable of that place is
--   test_of-unlisted    no other fact is true
--   test_of-assigned    the assignment of a test makes true the listed facts of the test
--   lit-same, lit-range the literal of a fact is true as the fact is, or as its opposite, and of a fact over the universe
use Rattle.std.proofs.Common.{◌≡◌, ℕ, zero, suc, ◌+◌, ◌<◌, Bool, true, false, not, cond, ◌||◌, ◌&&◌, List, [], ◌∷◌, ◌++◌, length, map, Some, refl, sym, ap, ◌∙◌, subst, arith, inl, inr, slice_get}
use Rattle.std.specs.Ordering.{is_eq}
use Rattle.std.specs.declared.cmp.Ordering.TheVariants.{Less}
use Rattle.std.proofs.lemmas.Bool.{cases_Bool, or_parts, cond-true, cond-false}
use Rattle.std.proofs.lemmas.List.{append_assoc, get_or_at, length_push}
use Rattle.std.proofs.lemmas.Option.{same_Some, slice_get_within}
use Rattle.ipa_spec.specs.declared.specification.Specification.{Specification}
use Rattle.ipa_logic.specs.Facts.{Universe, fact_cmp, has, IsRising}
use Rattle.ipa_logic.specs.FactLaws.{same_fact, fact_itself, same-turned}
use Rattle.ipa_logic.specs.declared.facts.Fact.{Fact}
use Rattle.ipa_sat.specs.Formula.{value, literal_true as lit_true}
use Rattle.ipa_sat.specs.declared.cnf.Lit.{Lit}
use Rattle.ipa_ground.specs.Enumeration.{facts_over, AreShort}
use Rattle.ipa_ground.specs.FactsLaws.{IsRising-facts_over}
use Rattle.ipa_ground.specs.ListLaws.{Rises-head, Rises-tail}
use Rattle.ipa_ground.specs.Grounding.{test_of}
use Rattle.ipa_ground.specs.GroundingSteps.{IsLitOf}

-- a fact below another is not that fact
other-below : (f g : Fact) → fact_cmp g f ≡ Less → is_eq (fact_cmp f g) ≡ false
other-below f g l = same-turned f g ∙ ap is_eq l

-- the fact at a place is true where the variable of that place is
pub test_of-listed : (first : ℕ) (a : List Bool) (facts : List Fact) (k : ℕ) (f : Fact) → IsRising facts → slice_get facts k ≡ Some f → test_of first a facts f ≡ value a (first + k)
unfolding test_of
test_of-listed first a [] k f h e = cc
test_of-listed first a (g ∷ gs) zero f h e =
    let same : is_eq (fact_cmp f g) ≡ true = subst (λ (x : Fact). is_eq (fact_cmp f x) ≡ true) (sym (same_Some g f e)) (fact_itself f) in
    cond-true (is_eq (fact_cmp f g)) (value a first) (test_of (first + 1) a gs f) same ∙ ap (value a) (omega arith)
test_of-listed first a (g ∷ gs) (suc k) f h e =
    let other : is_eq (fact_cmp f g) ≡ false = other-below f g (Rises-head fact_cmp g gs h f (record { place = k; there = e })) in
    cond-false (is_eq (fact_cmp f g)) (value a first) (test_of (first + 1) a gs f) other
    ∙ (test_of-listed (first + 1) a gs k f (Rises-tail fact_cmp g gs h) e ∙ ap (value a) (omega arith))

-- no other fact is true
pub test_of-unlisted : (first : ℕ) (a : List Bool) (facts : List Fact) (f : Fact) → has facts f ≡ false → test_of first a facts f ≡ false
unfolding test_of
test_of-unlisted first a [] f h = refl
test_of-unlisted first a (g ∷ gs) f h =
    let parts = or_parts (is_eq (fact_cmp f g)) (has gs f) h in
    cond-false (is_eq (fact_cmp f g)) (value a first) (test_of (first + 1) a gs f) parts.0 ∙ test_of-unlisted (first + 1) a gs f parts.1

-- the assignment that gives each fact its truth in a test
pub test_of-assigned : (front back : List Bool) (t : Fact → Bool) (facts : List Fact) (f : Fact) → test_of (length front) (front ++ (map t facts ++ back)) facts f ≡ (has facts f && t f)
unfolding test_of
test_of-assigned front back t [] f = refl
test_of-assigned front back t (g ∷ gs) f = elim (cases_Bool (is_eq (fact_cmp f g))) [
  | inl same ↦ (
      let here : value (front ++ (t g ∷ (map t gs ++ back))) (length front) ≡ t g = get_or_at front (t g) (map t gs ++ back) false (length front) refl in
      let is : g ≡ f = sym (same_fact f g same) in
      cond-true (is_eq (fact_cmp f g)) _ _ same ∙ (here ∙ (ap t is ∙ sym (ap (λ (b : Bool). (b || has gs f) && t f) same))))
  | inr other ↦ (
      let more : front ++ (t g ∷ (map t gs ++ back)) ≡ (front ++ t g ∷ []) ++ (map t gs ++ back) = sym (append_assoc front (t g ∷ []) (map t gs ++ back)) in
      let next : length front + 1 ≡ length (front ++ t g ∷ []) = sym (length_push front (t g)) in
      cond-false (is_eq (fact_cmp f g)) _ _ other
      ∙ ((λ i. test_of (next i) (more i) gs f)
      ∙ (test_of-assigned (front ++ t g ∷ []) back t gs f
      ∙ sym (ap (λ (b : Bool). (b || has gs f) && t f) other))))
]

-- the literal of a fact, or of its opposite
pub lit-same : (s : Specification) (universe : Universe) (first : ℕ) (a : List Bool) (f : Fact) (positive : Bool) (lit : Lit) → AreShort s.predicates → IsLitOf s universe first f positive lit
    → lit_true a lit ≡ cond positive (test_of first a (facts_over s.predicates universe) f) (not (test_of first a (facts_over s.predicates universe) f))
lit-same s universe first a f positive lit short h =
    let here : test_of first a (facts_over s.predicates universe) f ≡ value a lit.var = test_of-listed first a (facts_over s.predicates universe) h.place f (IsRising-facts_over s.predicates universe short) h.there ∙ ap (value a) (sym h.var_is) in
    (λ i. cond (h.sign i) (value a lit.var) (not (value a lit.var))) ∙ (λ i. cond positive (sym here i) (not (sym here i)))

pub lit-range : (s : Specification) (universe : Universe) (first : ℕ) (f : Fact) (positive : Bool) (lit : Lit) → IsLitOf s universe first f positive lit → lit.var < first + length (facts_over s.predicates universe)
lit-range s universe first f positive lit h = let within = slice_get_within (facts_over s.predicates universe) h.place f h.there in omega (arith, h.var_is)
