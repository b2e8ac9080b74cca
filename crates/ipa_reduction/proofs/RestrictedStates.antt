-- The state of a small universe that a state of a large one gives.
--
--   restricted            the facts of the small universe that are true in the large one
--   has-restricted        a fact of the small universe is among them where it is true
--   IsState-restricted    they are a state
--   restricts             which tells of the small universe what the large one's tells
use Rattle.std.proofs.Common.{◌≡◌, ℕ, Bool, ◌&&◌, List, filter, sym, ap, ◌∙◌}
use Rattle.std.specs.Ordering.{is_eq}
use Rattle.std.proofs.Math.Bool.{and-true}
use Rattle.std.proofs.lemmas.Bool.{and_parts}
use Rattle.std.proofs.lemmas.List.Kept.{IsStrictlySortedBy-filter}
use Rattle.std.proofs.lemmas.Map.Views.{any-filter_same}
use Rattle.ipa_spec.specs.declared.specification.Specification.{Specification}
use Rattle.ipa_logic.specs.Facts.{Universe, fact_cmp, IsState, has}
use Rattle.ipa_logic.specs.FactLaws.{same_fact}
use Rattle.ipa_logic.specs.Renaming.{embed_fact, IsRestriction}
use Rattle.ipa_logic.specs.declared.facts.Fact.{Fact}
use Rattle.ipa_ground.specs.Enumeration.{facts_over, AreShort}
use Rattle.ipa_ground.specs.FactsLaws.{has-facts_over, IsRising-facts_over}

module _ (s : Specification) (small : Universe) (e : ℕ → ℕ → ℕ) (state : List Fact) where
  -- the fact of the large universe is true
  abbrev is_true : Fact → Bool
  is_true f = has state (embed_fact e s f)

  -- the facts of the small universe that are true in the large one
  abbrev pub restricted : List Fact
  restricted = filter (λ f. has state (embed_fact e s f)) (facts_over s.predicates small)

  has-restricted : (f : Fact) → has restricted f ≡ (is_true f && has (facts_over s.predicates small) f)
  has-restricted f = any-filter_same (λ g. is_eq (fact_cmp f g)) is_true (is_true f) (λ g h. ap is_true (sym (same_fact f g h))) (facts_over s.predicates small)

  module _ (short : AreShort s.predicates) where
    pub IsState-restricted : IsState s small restricted
    IsState-restricted = record {
      rising = IsStrictlySortedBy-filter fact_cmp is_true (facts_over s.predicates small) (IsRising-facts_over s.predicates small short);
      facts = λ f h. (has-facts_over s small f short).0 (and_parts (is_true f) (has (facts_over s.predicates small) f) (sym (has-restricted f) ∙ h)).1;
    }

    pub restricts : IsRestriction s small e (has restricted) (has state)
    restricts = record {
      tells = λ f is. has-restricted f ∙ (ap (λ (b : Bool). is_true f && b) ((has-facts_over s small f short).1 is) ∙ and-true (is_true f));
    }
