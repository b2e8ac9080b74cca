-- Whether two lists of facts are the same, by going through them.
--
--   all_true, true_all     each fact of the second is one of the first, by a test of each
--   AreLeft                a walk through a predicate: what is left, and what was found in the other list
--   left_start, left_next, left_end   before the first step, one step further, after the last
--   first_left             the next one has to be there too
--   up_to                  what holds of each predicate holds of each fact
--   same_states, true_same   two states with the same facts are one
--   final_is, final_true, final_in   the facts are the state of a test
--   state_all, declared_all   the state at the cut with all entries, and the predicates of its facts
use Rattle.std.proofs.Common.{◌≡◌, ℕ, ◌<◌, Bool, true, ◌&&◌, ◌==◌, List, [], ◌∷◌, length, filter, None, refl, sym, ◌∙◌, ap, arith, ◌⊎◌, inl, inr}
use Rattle.std.specs.List.{list_all}
use Rattle.std.specs.Ordering.{is_eq}
use Rattle.std.proofs.lemmas.Bool.{false≢true, and_parts, and_from, or_cases, or_left, or_right, eqb-true, eq-eqb}
use Rattle.std.proofs.lemmas.Option.{slice_get_within}
use Rattle.ipa_logic.specs.Facts.{has, fact_cmp, IsRising, IsStateOf}
use Rattle.ipa_logic.specs.FactLaws.{same_fact, fact_itself, same_rising}
use Rattle.ipa_logic.specs.Walks.{facts_after}
use Rattle.ipa_logic.specs.declared.facts.Fact.{Fact}
use Rattle.ipa_history.specs.MemberLaws.{found, any_from, member-filter, filter_member, same_bool}
use Rattle.ipa_clock.specs.declared.cut.Cut.{Cut}
use Rattle.ipa_clock.specs.Cut.{count_of}
use Rattle.ipa_spec.specs.Fits.{IsFit}
use Rattle.ipa_spec.specs.declared.specification.Specification.{Specification}
use Rattle.ipa_logic.specs.Facts.{Universe}
use Rattle.ipa_history.specs.Histories.{number_of}
use Rattle.ipa_history.specs.Legality.{IsLegalHistory}
use Rattle.ipa_history.specs.Values.{value_of, value_at}
use Rattle.ipa_history.specs.declared.history.Tx.{Tx}
use Rattle.ipa_lift.specs.StandingLaws.{IsFact-value}
use Rattle.ipa_sets.specs.WholeCutLaws.{value-clock}
use Rattle.ipa_audit.specs.Finals.{AreTrueIn, AreIn, AreInUpTo}

pub all_true : (s t : List Fact) → list_all (has s) t ≡ true → AreTrueIn s t
all_true s [] h = record { each = λ f g. absurd (false≢true g) }
all_true s (x ∷ xs) h =
    let parts = and_parts (has s x) (list_all (has s) xs) h in
    let rest = all_true s xs parts.1 in
    record {
      each = λ f g. elim (or_cases (is_eq (fact_cmp f x)) (has xs f) g) [
        | inl here ↦ ap (has s) (same_fact f x here) ∙ parts.0
        | inr later ↦ rest.each f later
      ];
    }

pub true_all : (s t : List Fact) → AreTrueIn s t → list_all (has s) t ≡ true
true_all s [] are = refl
true_all s (x ∷ xs) are =
    and_from (has s x) (list_all (has s) xs)
    (are.each x (or_left (is_eq (fact_cmp x x)) (has xs x) (fact_itself x)))
    (true_all s xs (record { each = λ f g. are.each f (or_right (is_eq (fact_cmp f x)) (has xs f) g) }))

-- two states with the same facts are one
pub same_states : (s t : List Fact) → IsRising s → IsRising t → AreTrueIn s t → AreTrueIn t s → s ≡ t
same_states s t r q one other =
    same_rising s t r q (λ f. same_bool (has s f) (has t f) (λ h. other.each f h) (λ h. one.each f h))

pub true_same : (s t : List Fact) → s ≡ t → AreTrueIn s t
true_same s t e = record { each = λ f h. ap (λ (x : List Fact). has x f) e ∙ h }

-- what is left are facts of the predicate, and all others of it were found in the other list
pub record AreLeft (p : ℕ) (s t left : List Fact) : Type 0 where
  pub inside : (f : Fact) → has left f ≡ true → (f.predicate ≡ p) × (has s f ≡ true)
  pub each : (f : Fact) → f.predicate ≡ p → has s f ≡ true → (has t f ≡ true) ⊎ (has left f ≡ true)

-- a fact of a filtered list is one of the list that passes
filtered : (q : Fact → Bool) (s : List Fact) (f : Fact) → has (filter q s) f ≡ true → (has s f ≡ true) × (q f ≡ true)
filtered q s f h =
    let one = found (λ (g : Fact). is_eq (fact_cmp f g)) (filter q s) h in
    let kept = filter_member q s one.one one.member in
    let same : f ≡ one.one = same_fact f one.one one.passes in
    (any_from (λ (g : Fact). is_eq (fact_cmp f g)) s one.one kept.member one.passes, ap q same ∙ kept.passes)

unfiltered : (q : Fact → Bool) (s : List Fact) (f : Fact) → has s f ≡ true → q f ≡ true → has (filter q s) f ≡ true
unfiltered q s f h passes =
    let one = found (λ (g : Fact). is_eq (fact_cmp f g)) s h in
    let same : f ≡ one.one = same_fact f one.one one.passes in
    any_from (λ (g : Fact). is_eq (fact_cmp f g)) (filter q s) one.one
    (member-filter q s one.one one.member (ap q (sym same) ∙ passes)) one.passes

pub left_start : (p : ℕ) (s t left : List Fact) → left ≡ facts_after s p None → AreLeft p s t left
left_start p s t left e = record {
  inside = λ f h.
      let k = filtered (λ (g : Fact). (g.predicate == p) && true) s f (ap (λ (x : List Fact). has x f) (sym e) ∙ h) in
      let parts = and_parts (f.predicate == p) true k.1 in
      (eqb-true f.predicate p parts.0, k.0);
  each = λ f same h. inr (ap (λ (x : List Fact). has x f) e
      ∙ unfiltered (λ (g : Fact). (g.predicate == p) && true) s f h
      (and_from (f.predicate == p) true (eq-eqb f.predicate p same) refl));
}

pub left_next : (p : ℕ) (s t left rest : List Fact) (x : Fact) → left ≡ x ∷ rest → has t x ≡ true →
    AreLeft p s t left → AreLeft p s t rest
left_next p s t left rest x e there are = record {
  inside = λ f h. are.inside f (ap (λ (y : List Fact). has y f) e ∙ or_right (is_eq (fact_cmp f x)) (has rest f) h);
  each = λ f same h. elim (are.each f same h) [
    | inl here ↦ inl here
    | inr left_there ↦
        elim (or_cases (is_eq (fact_cmp f x)) (has rest f) (ap (λ (y : List Fact). has y f) (sym e) ∙ left_there)) [
          | inl this ↦ inl (ap (has t) (same_fact f x this) ∙ there)
          | inr later ↦ inr later
        ]
  ];
}

pub left_end : (p : ℕ) (s t left : List Fact) → left ≡ [] → AreLeft p s t left → AreIn p s t
left_end p s t left e are = record {
  each = λ f same h. elim (are.each f same h) [
    | inl here ↦ here
    | inr none ↦ absurd (false≢true (ap (λ (y : List Fact). has y f) (sym e) ∙ none))
  ];
}

-- the next one has to be there too
pub first_left : (p : ℕ) (s t left rest : List Fact) (x : Fact) → left ≡ x ∷ rest → AreLeft p s t left → AreIn p s t →
    has t x ≡ true
first_left p s t left rest x e are all =
    let here = are.inside x (ap (λ (y : List Fact). has y x) e
    ∙ or_left (is_eq (fact_cmp x x)) (has rest x) (fact_itself x)) in
    all.each x here.0 here.1

-- what holds of each predicate holds of each fact
pub up_to : (n : ℕ) (s t : List Fact) → ((p : ℕ) → p < n → AreIn p s t) → AreInUpTo n s t
up_to n s t each = record { each = λ f l h. let one = each f.predicate l in one.each f refl h }

pub from_up_to : (n : ℕ) (s t : List Fact) → AreInUpTo n s t → (p : ℕ) → p < n → AreIn p s t
from_up_to n s t all p l = record { each = λ f same h. all.each f (omega (arith, same, l)) h }

module _ (n : ℕ) (v : Fact → Bool) (s t : List Fact) (state : IsStateOf v s)
    (declared : (f : Fact) → v f ≡ true → f.predicate < n) where
  -- the facts are the state of the test
  pub final_is : IsRising t → AreTrueIn s t → AreInUpTo n s t → IsStateOf v t
  final_is rising true_in all_in = record {
    rising = rising;
    facts = λ f. same_bool (has t f) (v f) (λ h. sym (state.facts f) ∙ true_in.each f h)
        (λ h. all_in.each f (declared f h) (state.facts f ∙ h));
  }

  -- and only if
  pub final_true : IsStateOf v t → AreTrueIn s t
  final_true is = record { each = λ f h. state.facts f ∙ (sym (is.facts f) ∙ h) }

  pub final_in : IsStateOf v t → AreInUpTo n s t
  final_in is = record { each = λ f l h. is.facts f ∙ (sym (state.facts f) ∙ h) }

module _ (s : Specification) (fit : IsFit s) (universe : Universe) (base : List Fact) (h : List Tx)
    (legal : IsLegalHistory s universe base h) where
  -- the state at the cut with all entries
  pub state_all : (c : Cut) → ((origin : ℕ) → origin < 16 → count_of c origin ≡ number_of origin h) →
      (facts : List Fact) → IsStateOf (value_at s base h c) facts → IsStateOf (value_of s base h) facts
  state_all c counts facts at = record {
    rising = at.rising;
    facts = λ f. at.facts f ∙ value-clock h legal.history c counts s base f;
  }

  -- the predicates of its facts are declared
  pub declared_all : (f : Fact) → value_of s base h f ≡ true → f.predicate < length s.predicates
  declared_all f v =
      let fact = IsFact-value s fit universe base h legal h (λ u m. m) f v in
      slice_get_within s.predicates f.predicate fact.predicate fact.declared
