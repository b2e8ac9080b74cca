-- A triple has one reported example.
--
--   same-pattern     two lists of classes of which none is before the other are the same
--   IsFirstOn        the first place and states of a triple's conflict on a pattern
--   one-first        there is one
--   example_at       the example of a triple on a pattern, with a place and states
--   IsReportedAs     the example is the first one of this triple
--   reported-as      a reported example is the first one of its triple
--   one-example      there is one
use Rattle.std.proofs.Common.{◌≡◌, ℕ, ◌<◌, true, List, refl, sym, ap, ◌∙◌, subst, inl, inr, Some, slice_get}
use Rattle.std.specs.Ordering.{nat_cmp, is_lt, ordering_reverse}
use Rattle.std.specs.Cmp.Lexicographic.{slice_cmp, nat_list_cmp_total}
use Rattle.std.specs.declared.cmp.Ordering.{Ordering}
use Rattle.std.specs.declared.cmp.Ordering.TheVariants.{Less, Equal, Greater}
use Rattle.std.proofs.lemmas.Bool.{cases_order}
use Rattle.std.proofs.lemmas.Map.Lookups.{exact_bytes}
use Rattle.std.proofs.lemmas.Option.{same_Some}
use Rattle.ipa_spec.specs.declared.specification.Specification.{Specification}
use Rattle.ipa_spec.specs.declared.clauses.Clause.{Clause}
use Rattle.ipa_spec.specs.declared.operations.Action.{Action}
use Rattle.ipa_logic.specs.declared.facts.Fact.{Fact}
use Rattle.ipa_ground.specs.Enumeration.{AreShort}
use Rattle.ipa_ground.specs.PatternValues.{is_before}
use Rattle.ipa_reduction.specs.Cases.{IsTriplePattern, triple_values, left_args, right_args, ConflictOn, IsConflictOn}
use Rattle.ipa_pairs.specs.Width.{Triple}
use Rattle.ipa_pairs.specs.Examples.{IsEarlierState, IsExampleOn, IsReportedExample, hidden_facts}
use Rattle.ipa_pairs.specs.Analyses.{triple_of}
use Rattle.ipa_pairs.specs.Openness.{case_of}
use Rattle.ipa_pairs.specs.declared.analysis.Conflict.{Conflict as Example}
use Rattle.ipa_pairs.specs.declared.cases.Case.{Case}
use Rattle.ipa_pairs.proofs.ConflictLemmas.{example_of}
use Rattle.ipa_pairs.proofs.EarlierLemmas.{same-state}
use Rattle.ipa_pairs.proofs.LossLemmas.{open-from, loss-from, conflict-from}

-- of two lists of classes that differ one is before
pub same-pattern : (p q : List ℕ) → (is_before p q ≡ true → ⊥) → (is_before q p ≡ true → ⊥) → p ≡ q
same-pattern p q before behind = at (slice_cmp nat_cmp p q) refl
  where
    at : (o : Ordering) → slice_cmp nat_cmp p q ≡ o → p ≡ q
    at Less e = absurd (before (ap is_lt e))
    at Equal e = exact_bytes p q e
    at Greater e = absurd (behind (ap is_lt (nat_list_cmp_total.antisymm q p ∙ ap ordering_reverse e)))

module _ (s : Specification) (left right : Action) (c : Clause) (classes : List ℕ) where
  abbrev here : Case
  here = case_of s left right c classes

  -- the place of the first literal that can be lost on the pattern, with the first states
  pub record IsFirstOn (place : ℕ) (after_left after_right : List Fact) : Type 0 where
    pub shows : IsConflictOn s left right c classes place after_left after_right
    pub first_lost : (k : ℕ) (l r : List Fact) → k < place → IsConflictOn s left right c classes k l r → ⊥
    pub first_left : (l : List Fact) → IsConflictOn s left right c classes place l after_right → IsEarlierState s left right c classes l after_left → ⊥
    pub first_right : (r : List Fact) → IsConflictOn s left right c classes place after_left r → IsEarlierState s left right c classes r after_right → ⊥

  -- the state after left of one conflict, and the state after right of another
  mixed : (place : ℕ) (l r m n : List Fact) → IsConflictOn s left right c classes place l r → IsConflictOn s left right c classes place m n → IsConflictOn s left right c classes place l n
  mixed place l r m n h k =
      let one = loss-from s c here place l r h.lost h.lost_at h in
      let other = loss-from s c here place m n h.lost h.lost_at k in
      conflict-from s c here place l n h.lost h.lost_at (record { sizes = h.sizes; left = h.left_arguments; right = h.right_arguments; values = h.clause_values }) (open-from s c here place l r h)
      (record { can_be_lost = one.can_be_lost; left = one.left; right = other.right })

  same-states : AreShort s.predicates → (place : ℕ) (l r m n : List Fact) → IsFirstOn place l r → IsFirstOn place m n → (l ≡ m) × (r ≡ n)
  same-states short place l r m n h k = (
    same-state s here.universe.sizes here.values c.literals short l m h.shows.left_state k.shows.left_state
        (λ before. k.first_left l (mixed place l r m n h.shows k.shows) before) (λ behind. h.first_left m (mixed place m n l r k.shows h.shows) behind),
    same-state s here.universe.sizes here.values c.literals short r n h.shows.right_state k.shows.right_state
        (λ before. k.first_right r (mixed place m n l r k.shows h.shows) before) (λ behind. h.first_right n (mixed place l r m n h.shows k.shows) behind),
  )

  same-place : (place other : ℕ) (l r m n : List Fact) → IsFirstOn place l r → IsFirstOn other m n → place ≡ other
  same-place place other l r m n h k = elim (cases_order place other) [
    | inl same ↦ same
    | inr (inl less) ↦ absurd (k.first_lost place l r less h.shows)
    | inr (inr more) ↦ absurd (h.first_lost other m n more k.shows)
  ]

  -- there is one such place, with one pair of states
  pub one-first : AreShort s.predicates → (place other : ℕ) (l r m n : List Fact) → IsFirstOn place l r → IsFirstOn other m n → (place ≡ other) × (l ≡ m) × (r ≡ n)
  one-first short place other l r m n h k =
      let same = same-place place other l r m n h k in
      let states = same-states short place l r m n h (subst (λ (j : ℕ). IsFirstOn j m n) (sym same) k) in
      (same, states.0, states.1)

-- the example of a triple on a pattern, with this place and these states
abbrev pub example_at : Specification → Triple → Clause → List ℕ → ℕ → List Fact → List Fact → Example
example_at s t c classes place l r = example_of t.left t.right t.clause (case_of s t.left t.right c classes) place l r
    (hidden_facts s t.left t.right (left_args s t.left classes) (right_args s t.left t.right classes) (triple_values s t.left t.right c classes) c.literals)

-- the example is the first one of this triple, with this clause
pub record IsReportedAs (s : Specification) (t : Triple) (c : Clause) (e : Example) : Type 0 where
  pub classes : List ℕ
  pub is_pattern : IsTriplePattern s t.left t.right c classes
  pub first_pattern : (earlier : List ℕ) → IsTriplePattern s t.left t.right c earlier → is_before earlier classes ≡ true → ConflictOn s t.left t.right c earlier → ⊥
  pub place : ℕ
  pub after_left : List Fact
  pub after_right : List Fact
  pub first : IsFirstOn s t.left t.right c classes place after_left after_right
  pub is : e ≡ example_at s t c classes place after_left after_right

-- a reported example is the first one of its triple
own-triple : (s : Specification) (e : Example) (h : IsReportedExample s e) → IsReportedAs s (triple_of e) h.clause e
own-triple s e h = record {
  classes = h.classes;
  is_pattern = h.is_pattern;
  first_pattern = h.first_pattern;
  place = e.lost;
  after_left = e.after_left;
  after_right = e.after_right;
  first = record { shows = x.shows; first_lost = h.first_on.first_lost; first_left = h.first_on.first_left; first_right = h.first_on.first_right };
  is = λ i. record {
    left = e.left;
    right = e.right;
    clause = e.clause;
    universe = record { sizes = x.universe i };
    left_args = x.left_args i;
    right_args = x.right_args i;
    values = x.values i;
    after_left = e.after_left;
    after_right = e.after_right;
    lost = e.lost;
    hidden = hidden i;
  };
}
  where
    x : IsExampleOn s h.clause h.classes e
    x = h.first_on.example

    hidden : e.hidden ≡ hidden_facts s e.left e.right (left_args s e.left h.classes) (right_args s e.left e.right h.classes) (triple_values s e.left e.right h.clause h.classes) h.clause.literals
    hidden = x.hidden ∙ (λ i. hidden_facts s e.left e.right (x.left_args i) (x.right_args i) (x.values i) h.clause.literals)

pub reported-as : (s : Specification) (e : Example) → IsReportedExample s e → (t : Triple) → triple_of e ≡ t → (c : Clause) → slice_get s.clauses t.clause ≡ Some c → IsReportedAs s t c e
reported-as s e h t same = subst (λ (u : Triple). (c : Clause) → slice_get s.clauses u.clause ≡ Some c → IsReportedAs s u c e) same
    (λ c at. subst (λ (d : Clause). IsReportedAs s (triple_of e) d e) (same_Some h.clause c (sym h.declared ∙ at)) (own-triple s e h))

-- a triple has one first example
pub one-example : (s : Specification) → AreShort s.predicates → (t : Triple) (c : Clause) (d e : Example) → IsReportedAs s t c d → IsReportedAs s t c e → d ≡ e
one-example s short t c d e h k =
    let same : h.classes ≡ k.classes = same-pattern h.classes k.classes
    (λ before. k.first_pattern h.classes h.is_pattern before (record { place = h.place; after_left = h.after_left; after_right = h.after_right; conflict = h.first.shows }))
    (λ behind. h.first_pattern k.classes k.is_pattern behind (record { place = k.place; after_left = k.after_left; after_right = k.after_right; conflict = k.first.shows })) in
    let parts = one-first s t.left t.right c h.classes short h.place k.place h.after_left h.after_right k.after_left k.after_right h.first
    (subst (λ (p : List ℕ). IsFirstOn s t.left t.right c p k.place k.after_left k.after_right) (sym same) k.first) in
    h.is ∙ ((λ i. example_at s t c (same i) (parts.0 i) (parts.1 i) (parts.2 i)) ∙ sym k.is)
