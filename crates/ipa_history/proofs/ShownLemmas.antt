-- The facts that a walk finds, among those that a question asks for.
--
--   AreShown test shown left state   those found, and the facts left, are the facts of the state that pass
--   shown-none     before the first step
--   shown-more     one step further
--   shown-fewer    fewer facts are left then
--   shown-all      after the last
use Rattle.std.proofs.Common.{◌≡◌, ℕ, ◌<◌, Bool, true, false, cond, ◌&&◌, ◌||◌, ◌==◌, List, [], ◌∷◌, length, filter, Option, Some, None, refl, sym, ◌∙◌, ap, subst, arith}
use Rattle.std.specs.Ordering.{is_eq}
use Rattle.std.specs.List.Sorted.{IsStrictlySortedBy}
use Rattle.std.proofs.lemmas.Bool.{and_parts}
use Rattle.std.proofs.lemmas.List.Kept.{IsStrictlySortedBy-filter}
use Rattle.ipa_logic.specs.Facts.{has, fact_cmp, IsRising, IsStateOf}
use Rattle.ipa_logic.specs.FactLaws.{same_fact, same-turned}
use Rattle.ipa_logic.specs.FilterLaws.{filter-behind}
use Rattle.ipa_logic.specs.Views.{next_fact, is_left}
use Rattle.ipa_logic.specs.WalkLaws.{walk-some, filter-find_none}
use Rattle.ipa_logic.specs.Walks.{facts_after}
use Rattle.ipa_logic.specs.declared.facts.Fact.{Fact}
use Rattle.ipa_matching.specs.Matches.{fit}
use Rattle.ipa_history.specs.Answers.{is_shown}

-- the facts found are in order, and with the facts left they are the facts of the state that pass
pub record AreShown (test : Fact → Bool) (shown left state : List Fact) : Type 0 where
  pub rising : IsRising shown
  pub facts : (f : Fact) → (has shown f || has left f) ≡ (has state f && test f)

-- whether a filtered list has a fact
filtered : (p : Fact → Bool) (s : List Fact) (f : Fact) → has (filter p s) f ≡ (has s f && p f)
filtered p [] f = refl
filtered p (x ∷ xs) f = here (p x) refl (is_eq (fact_cmp f x)) refl (filtered p xs f)
  where
    none : (b : Bool) → (b && false) ≡ false
    none true = refl
    none false = refl

    here : (b : Bool) → p x ≡ b → (e : Bool) → is_eq (fact_cmp f x) ≡ e → has (filter p xs) f ≡ (has xs f && p f) →
        has (cond b (x ∷ filter p xs) (filter p xs)) f ≡ ((e || has xs f) && p f)
    here true h true same rest = rw same (sym (ap p (same_fact f x same) ∙ h))
    here true h false other rest = rw other rest
    here false h true same rest =
        let fails : p f ≡ false = ap p (same_fact f x same) ∙ h in
        rest ∙ (ap (λ (b : Bool). has xs f && b) fails ∙ (none (has xs f) ∙ sym fails))
    here false h false other rest = rest

-- a fact that is asked for is of the predicate
of_predicate : (predicate : ℕ) (places : List (Option ℕ)) (f : Fact) → is_shown predicate places f ≡ true →
    ((f.predicate == predicate) && true) ≡ true
of_predicate predicate places f h =
    ap (λ (b : Bool). b && true) (and_parts (f.predicate == predicate) (fit places f.args) h).0

-- no facts stand in order
nothing_rises : IsRising []
unfolding IsStrictlySortedBy
nothing_rises = tt

-- before the first step
pub shown-none : (predicate : ℕ) (places : List (Option ℕ)) (state shown : List Fact) → shown ≡ [] →
    AreShown (is_shown predicate places) shown (facts_after (filter (is_shown predicate places) state) predicate None)
    state
shown-none predicate places state shown e = record {
  rising = subst IsRising (sym e) nothing_rises;
  facts = λ f.
      rw e (ap (λ (s : List Fact). has s f)
      (filter-behind (is_shown predicate places) (λ (g : Fact). (g.predicate == predicate) && true)
      (λ g h. of_predicate predicate places g h) state)
      ∙ filtered (is_shown predicate places) state f);
}

module _ (test : Fact → Bool) (predicate : ℕ) (state : List Fact) (rising : IsRising state) where
  -- the facts that are left begin with the next one
  left-some : (last : Option Fact) (x : Fact) → Some x ≡ next_fact (filter test state) predicate last →
      facts_after (filter test state) predicate last ≡ x ∷ facts_after (filter test state) predicate (Some x)
  left-some last x e =
      walk-some (λ f. f.predicate == predicate) (filter test state) last x
      (IsStrictlySortedBy-filter fact_cmp test state rising) (sym e)

  -- one step further
  pub shown-more : (old new : List Fact) (last : Option Fact) (x : Fact) →
      Some x ≡ next_fact (filter test state) predicate last →
      AreShown test old (facts_after (filter test state) predicate last) state → IsRising new →
      ((f : Fact) → has new f ≡ (is_eq (fact_cmp x f) || has old f)) →
      AreShown test new (facts_after (filter test state) predicate (Some x)) state
  shown-more old new last x e are rises puts = record {
    rising = rises;
    facts = λ f.
        ap (λ (b : Bool). b || has (facts_after (filter test state) predicate (Some x)) f) (puts f)
        ∙ (parts (is_eq (fact_cmp x f)) (has old f) (has (facts_after (filter test state) predicate (Some x)) f)
        ∙ (ap (λ (b : Bool). has old f || (b || has (facts_after (filter test state) predicate (Some x)) f))
        (same-turned x f)
        ∙ (ap (λ (facts : List Fact). has old f || has facts f) (sym (left-some last x e)) ∙ are.facts f)));
  }
    where
      parts : (a s l : Bool) → ((a || s) || l) ≡ (s || (a || l))
      parts true true l = refl
      parts true false l = refl
      parts false s l = refl

  -- fewer facts are left then
  pub shown-fewer : (last : Option Fact) (x : Fact) → Some x ≡ next_fact (filter test state) predicate last →
      length (facts_after (filter test state) predicate (Some x))
      < length (facts_after (filter test state) predicate last)
  shown-fewer last x e = omega (arith, ap length (left-some last x e))

-- after the last
pub shown-all : (test : Fact → Bool) (predicate : ℕ) (state shown : List Fact) (last : Option Fact) →
    None ≡ next_fact (filter test state) predicate last →
    AreShown test shown (facts_after (filter test state) predicate last) state →
    IsStateOf (λ f. has state f && test f) shown
shown-all test predicate state shown last e are = record {
  rising = are.rising;
  facts = λ f.
      nothing (has shown f)
      ∙ (ap (λ (facts : List Fact). has shown f || has facts f)
      (sym (filter-find_none (is_left predicate last) (filter test state) (sym e))) ∙ are.facts f);
}
  where
    nothing : (b : Bool) → b ≡ (b || false)
    nothing true = refl
    nothing false = refl
