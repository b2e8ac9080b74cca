-- The enumeration of facts is complete, and stands strictly in order.
--
--   AreShort-from_fit                  the predicates of a fit specification are short
--   facts_from-push                    the facts of one predicate more
--   facts_over-fact, fact-facts_over   the listed facts are the facts over the universe
--   has-facts_over, facts_over-has     the same, of the test
--   IsRising-facts_over                they stand strictly in the order of facts
use Rattle.std.proofs.Common.{◌≡◌, ℕ, zero, suc, ◌+◌, ◌<◌, true, List, [], ◌∷◌, ◌++◌, length, Some, refl, sym, ap, ◌∙◌, subst, arith, inl, inr, ◌↔◌, slice_get}
use Rattle.std.proofs.lemmas.List.{append-nil, append_assoc}
use Rattle.std.proofs.lemmas.Option.{same_Some}
use Rattle.ipa_spec.specs.Fits.{IsFit}
use Rattle.ipa_spec.specs.declared.predicates.Predicate.{Predicate}
use Rattle.ipa_spec.specs.declared.specification.Specification.{Specification}
use Rattle.ipa_logic.specs.Facts.{Universe, fact_cmp, IsFact, has, IsRising}
use Rattle.ipa_logic.specs.declared.facts.Fact.{Fact}
use Rattle.ipa_ground.specs.Enumeration.{size_in, facts_of, facts_from, facts_over, AreShort, IsListed}
use Rattle.ipa_ground.specs.ListLaws.{Listed-append_left, Listed-append_right, listed_in, Rises-append, Rises-none}
use Rattle.ipa_ground.specs.BranchLaws.{less-from_lt}
use Rattle.ipa_ground.specs.EnumerationLaws.{ArePlaced, listed_facts_of, Listed-facts_of, Rises-facts_of, Listed-has, has-Listed}

-- the predicates of a fit specification are short
pub AreShort-from_fit : (s : Specification) → IsFit s → AreShort s.predicates
AreShort-from_fit s fit = record { short = fit.arities }

-- the facts of one predicate more
pub facts_from-push : (number : ℕ) (ps : List Predicate) (p : Predicate) (universe : Universe) → facts_from number (ps ++ p ∷ []) universe ≡ facts_from number ps universe ++ facts_of (number + length ps) p universe
facts_from-push number [] p universe = append-nil (facts_of number p universe) ∙ ap (λ n. facts_of n p universe) (omega arith)
facts_from-push number (q ∷ ps) p universe =
    ap (λ fs. facts_of number q universe ++ fs) (facts_from-push (number + 1) ps p universe)
    ∙ (sym (append_assoc (facts_of number q universe) (facts_from (number + 1) ps universe) (facts_of (number + 1 + length ps) p universe))
    ∙ ap (λ n. (facts_of number q universe ++ facts_from (number + 1) ps universe) ++ facts_of n p universe) (omega arith))

-- the predicates after the first are short where all are
short-tail : (p : Predicate) (ps : List Predicate) → AreShort (p ∷ ps) → AreShort ps
short-tail p ps h = record { short = λ n q e. h.short (suc n) q e }

-- a fact of one of these predicates, which are numbered from here on
pub record IsFactFrom (number : ℕ) (ps : List Predicate) (universe : Universe) (f : Fact) : Type 0 where
  pub place : ℕ
  pub predicate : Predicate
  pub declared : slice_get ps place ≡ Some predicate
  pub numbered : f.predicate ≡ number + place
  pub placed : ArePlaced predicate.arity (size_in universe predicate) f.args

pub listed_facts_from : (number : ℕ) (ps : List Predicate) (universe : Universe) (f : Fact) → AreShort ps → IsListed (facts_from number ps universe) f → IsFactFrom number ps universe f
listed_facts_from number [] universe f short h = cc
listed_facts_from number (p ∷ ps) universe f short h = elim (listed_in (facts_of number p universe) (facts_from (number + 1) ps universe) f h) [
  | inl here ↦ let found = listed_facts_of number p universe f (short.short 0 p refl) here in
      record { place = 0; predicate = p; declared = refl; numbered = found.0 ∙ omega arith; placed = found.1 }
  | inr later ↦ let found = listed_facts_from (number + 1) ps universe f (short-tail p ps short) later in
      record { place = suc found.place; predicate = found.predicate; declared = found.declared; numbered = found.numbered ∙ omega arith; placed = found.placed }
]

pub Listed-facts_from : (number : ℕ) (ps : List Predicate) (universe : Universe) (f : Fact) (k : ℕ) (p : Predicate) → AreShort ps → slice_get ps k ≡ Some p → f.predicate ≡ number + k
    → ArePlaced p.arity (size_in universe p) f.args → IsListed (facts_from number ps universe) f
Listed-facts_from number [] universe f k p short e same h = cc
Listed-facts_from number (q ∷ ps) universe f zero p short e same h =
    let first : q ≡ p = same_Some q p e in
    Listed-append_left (facts_of number q universe) (facts_from (number + 1) ps universe) f
    (subst (λ (r : Predicate). IsListed (facts_of number r universe) f) (sym first)
    (Listed-facts_of number p universe f (short.short 0 p e) (same ∙ omega arith) h))
Listed-facts_from number (q ∷ ps) universe f (suc k) p short e same h =
    Listed-append_right (facts_of number q universe) (facts_from (number + 1) ps universe) f
    (Listed-facts_from (number + 1) ps universe f k p (short-tail q ps short) e (same ∙ omega arith) h)

Rises-facts_from : (number : ℕ) (ps : List Predicate) (universe : Universe) → AreShort ps → IsRising (facts_from number ps universe)
Rises-facts_from number [] universe short = Rises-none fact_cmp
Rises-facts_from number (p ∷ ps) universe short = Rises-append fact_cmp (facts_of number p universe) (facts_from (number + 1) ps universe)
    (Rises-facts_of number p universe (short.short 0 p refl))
    (Rises-facts_from (number + 1) ps universe (short-tail p ps short))
    (λ f g l m.
    let first = listed_facts_of number p universe f (short.short 0 p refl) l in
    let later = listed_facts_from (number + 1) ps universe g (short-tail p ps short) m in
    let same : f.predicate ≡ number = first.0 in
    let above : f.predicate < g.predicate = omega (arith, later.numbered) in
    rw (less-from_lt f.predicate g.predicate above) refl)

-- a listed fact is a fact over the universe
pub facts_over-fact : (s : Specification) (universe : Universe) (f : Fact) → AreShort s.predicates →
    IsListed (facts_over s.predicates universe) f → IsFact s universe f
facts_over-fact s universe f short h =
    let found = listed_facts_from 0 s.predicates universe f short h in
    record {
      predicate = found.predicate;
      declared = ap (slice_get s.predicates) (found.numbered ∙ omega arith) ∙ found.declared;
      elements = found.placed.elements;
      unused = found.placed.unused;
      width = found.placed.width;
    }

-- a fact over the universe is listed
pub fact-facts_over : (s : Specification) (universe : Universe) (f : Fact) → AreShort s.predicates →
    IsFact s universe f → IsListed (facts_over s.predicates universe) f
fact-facts_over s universe f short h =
    Listed-facts_from 0 s.predicates universe f f.predicate h.predicate short h.declared (omega arith)
    (record { elements = h.elements; unused = h.unused; width = h.width })

-- the facts over the universe are just those of the list
pub has-facts_over : (s : Specification) (universe : Universe) (f : Fact) → AreShort s.predicates →
    (has (facts_over s.predicates universe) f ≡ true) ↔ IsFact s universe f
has-facts_over s universe f short = (
  (λ h. facts_over-fact s universe f short (Listed-has (facts_over s.predicates universe) f h)),
  (λ h. has-Listed (facts_over s.predicates universe) f (fact-facts_over s universe f short h)),
)

-- they stand strictly in the order of facts
pub IsRising-facts_over : (ps : List Predicate) (universe : Universe) → AreShort ps → IsRising (facts_over ps universe)
IsRising-facts_over ps universe short = Rises-facts_from 0 ps universe short
