-- Gathering demands, one after the other, and hidden facts.
--
--   gathered-none, gathered-nothing, gathered-fact   of no demands, of nothing more asked, of one fact more
--   gathered-impossible        nothing answers what has something impossible
--   with_each-more             one literal more
use Rattle.std.proofs.Common.{◌≡◌, ◌↔◌, ℕ, zero, suc, ◌+◌, Bool, List, [], ◌∷◌, ◌++◌, take, map, Option, Some, refl, ap, ◌∙◌, subst, slice_get, All}
use Rattle.std.specs.List.{AllByRecursion}
use Rattle.std.proofs.lemmas.List.{map-append}
use Rattle.std.proofs.lemmas.List.Elements.{All-push, All-nil, All-from_recursion, recursion_from_All}
use Rattle.std.proofs.lemmas.Option.{same_Some}
use Rattle.ipa_logic.specs.Facts.{IsFact}
use Rattle.ipa_logic.specs.declared.facts.Fact.{Fact}
use Rattle.ipa_models.specs.declared.demands.Demand.{Demand}
use Rattle.ipa_pairs.specs.Asked.{Answers, AnswersEach, IsOfFact, IsGathered}
use Rattle.ipa_pairs.specs.Examples.{with_fact, with_each}
use Rattle.ipa_pairs.specs.declared.asking.Asked.{Asked}
use Rattle.ipa_pairs.specs.declared.asking.Asked.TheVariants as asked
use Rattle.ipa_pairs.proofs.AskedLemmas.{each-append}

-- of nothing asked, no demands
pub gathered-none : IsGathered [] []
gathered-none = record {
  exactly = λ t. ((λ h. All-nil (λ (d : Demand). t d.fact ≡ d.holds)), (λ h. tt));
  facts = λ s universe h. All-nil (λ (d : Demand). IsFact s universe d.fact);
}

-- what holds of each, and of one more
each-push : {X : Type 0} (P : X → Type 0) (xs : List X) (x : X) → AllByRecursion P (xs ++ x ∷ []) ↔ (AllByRecursion P xs × P x)
each-push P xs x = let a = each-append P xs (x ∷ []) in ((λ h. ((a.0 h).0, (a.0 h).1.0)), (λ h. a.1 (h.0, (h.1, tt))))

all-push : {X : Type 0} (P : X → Type 0) (xs : List X) (x : X) → All P (xs ++ x ∷ []) ↔ (All P xs × P x)
all-push P xs x = (
  (λ h. let r = (each-push P xs x).0 (recursion_from_All P (xs ++ x ∷ []) h) in (All-from_recursion P xs r.0, r.1)),
  (λ h. All-push P xs x h.0 h.1),
)

-- nothing more is asked
pub gathered-nothing : (asks : List Asked) (demands : List Demand) → IsGathered asks demands → IsGathered (asks ++ asked.Nothing ∷ []) demands
gathered-nothing asks demands h = record {
  exactly = λ t. ((λ a. (h.exactly t).0 ((each-push (Answers t) asks asked.Nothing).0 a).0), (λ d. (each-push (Answers t) asks asked.Nothing).1 ((h.exactly t).1 d, tt)));
  facts = λ s universe a. h.facts s universe ((each-push (IsOfFact s universe) asks asked.Nothing).0 a).0;
}

-- one fact more is asked for
pub gathered-fact : (asks : List Asked) (demands : List Demand) (d : Demand) → IsGathered asks demands → IsGathered (asks ++ asked.OfFact d ∷ []) (demands ++ d ∷ [])
gathered-fact asks demands d h = record {
  exactly = λ t. (
    (λ a. let r = (each-push (Answers t) asks (asked.OfFact d)).0 a in (all-push (λ (e : Demand). t e.fact ≡ e.holds) demands d).1 ((h.exactly t).0 r.0, r.1)),
    (λ a. let r = (all-push (λ (e : Demand). t e.fact ≡ e.holds) demands d).0 a in (each-push (Answers t) asks (asked.OfFact d)).1 ((h.exactly t).1 r.0, r.1)),
  );
  facts = λ s universe a. let r = (each-push (IsOfFact s universe) asks (asked.OfFact d)).0 a in (all-push (λ (e : Demand). IsFact s universe e.fact) demands d).1 (h.facts s universe r.0, r.1);
}

-- what is impossible has no answer
pub gathered-impossible : (t : Fact → Bool) (asks : List Asked) (k : ℕ) → slice_get asks k ≡ Some asked.Impossible → AnswersEach t asks → ⊥
gathered-impossible t [] k e h = cc
gathered-impossible t (x ∷ asks) zero e h = subst (Answers t) (same_Some x asked.Impossible e) h.0
gathered-impossible t (x ∷ asks) (suc k) e h = gathered-impossible t asks k e h.1

-- facts, and then more
with_each-append : (seen : List Fact) (xs ys : List (Option Fact)) → with_each seen (xs ++ ys) ≡ with_each (with_each seen xs) ys
with_each-append seen [] ys = refl
with_each-append seen (x ∷ xs) ys = with_each-append (with_fact seen x) xs ys

-- one literal more
pub with_each-more : {X : Type 0} (h : X → Option Fact) (xs : List X) (k : ℕ) (x : X) → take (k + 1) xs ≡ take k xs ++ x ∷ [] → with_each [] (map h (take (k + 1) xs)) ≡ with_fact (with_each [] (map h (take k xs))) (h x)
with_each-more h xs k x more =
    ap (λ ys. with_each [] (map h ys)) more
    ∙ (ap (with_each []) (map-append h (take k xs) (x ∷ []))
    ∙ with_each-append [] (map h (take k xs)) (h x ∷ []))
