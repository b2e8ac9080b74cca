-- A drop and a clause have one reported example.
--
--   drop_at              the example of a drop and a clause on a pattern, with a state
--   IsDropReportedAs     the example is the first one of this bound and clause
--   drop-reported-as     a reported example is the first one of its bound and clause
--   one-drop             there is one
use Rattle.std.proofs.Common.{◌≡◌, ℕ, true, List, sym, ◌∙◌, subst, Some, slice_get}
use Rattle.std.proofs.lemmas.Option.{same_Some}
use Rattle.ipa_spec.specs.declared.specification.Specification.{Specification}
use Rattle.ipa_spec.specs.declared.bounds.Bound.{Bound}
use Rattle.ipa_spec.specs.declared.clauses.Clause.{Clause}
use Rattle.ipa_logic.specs.declared.facts.Fact.{Fact}
use Rattle.ipa_ground.specs.Enumeration.{AreShort}
use Rattle.ipa_ground.specs.PatternValues.{is_before}
use Rattle.ipa_reduction.specs.Cases.{IsDropPattern, drop_universe, drop_args, drop_values, DropBreaksOn, IsDropBreakOn}
use Rattle.ipa_pairs.specs.Examples.{IsDropExampleOn, IsEarlierBefore, IsReportedDrop}
use Rattle.ipa_pairs.specs.Collecting.{BoundClause, bound_clause_of}
use Rattle.ipa_pairs.specs.declared.analysis.UnsafeDrop.{UnsafeDrop}
use Rattle.ipa_pairs.proofs.EarlierLemmas.{same-state}
use Rattle.ipa_pairs.proofs.OneExampleLemmas.{same-pattern}

-- the example of a drop and a clause on a pattern, with this state
abbrev pub drop_at : Specification → BoundClause → Clause → List ℕ → List Fact → UnsafeDrop
drop_at s t c classes before = record {
  bound = t.bound;
  clause = t.clause;
  universe = record { sizes = drop_universe s t.bound c classes };
  args = drop_args s t.bound classes;
  values = drop_values s t.bound c classes;
  before = before;
}

-- the first state on the pattern in which the drop breaks the instance
pub record IsFirstDropOn (s : Specification) (n : ℕ) (b : Bound) (c : Clause) (classes : List ℕ) (before : List Fact) : Type 0 where
  pub shows : IsDropBreakOn s n b c classes before
  pub first : (other : List Fact) → IsDropBreakOn s n b c classes other → IsEarlierBefore s n c classes other before → ⊥

-- the example is the first one of this bound and clause
pub record IsDropReportedAs (s : Specification) (t : BoundClause) (b : Bound) (c : Clause) (e : UnsafeDrop) : Type 0 where
  pub classes : List ℕ
  pub is_pattern : IsDropPattern s t.bound c classes
  pub first_pattern : (earlier : List ℕ) → IsDropPattern s t.bound c earlier → is_before earlier classes ≡ true → DropBreaksOn s t.bound b c earlier → ⊥
  pub before : List Fact
  pub first : IsFirstDropOn s t.bound b c classes before
  pub is : e ≡ drop_at s t c classes before

-- a reported example is the first one of its bound and clause
own-drop : (s : Specification) (e : UnsafeDrop) (h : IsReportedDrop s e) → IsDropReportedAs s (bound_clause_of e) h.bound h.clause e
own-drop s e h = record {
  classes = h.classes;
  is_pattern = h.is_pattern;
  first_pattern = h.first_pattern;
  before = e.before;
  first = record { shows = x.shows; first = h.first_on.first_before };
  is = λ i. record { bound = e.bound; clause = e.clause; universe = record { sizes = x.universe i }; args = x.args i; values = x.values i; before = e.before };
}
  where
    x : IsDropExampleOn s h.bound h.clause h.classes e
    x = h.first_on.example

pub drop-reported-as : (s : Specification) (e : UnsafeDrop) → IsReportedDrop s e → (t : BoundClause) → bound_clause_of e ≡ t → (b : Bound) (c : Clause) → slice_get s.bounds t.bound ≡ Some b → slice_get s.clauses t.clause ≡ Some c
    → IsDropReportedAs s t b c e
drop-reported-as s e h t same = subst (λ (u : BoundClause). (b : Bound) (c : Clause) → slice_get s.bounds u.bound ≡ Some b → slice_get s.clauses u.clause ≡ Some c → IsDropReportedAs s u b c e) same
    (λ b c bound clause. subst (λ (x : Bound). IsDropReportedAs s (bound_clause_of e) x c e) (same_Some h.bound b (sym h.bound_declared ∙ bound))
    (subst (λ (x : Clause). IsDropReportedAs s (bound_clause_of e) h.bound x e) (same_Some h.clause c (sym h.clause_declared ∙ clause)) (own-drop s e h)))

-- a drop and a clause have one first example
pub one-drop : (s : Specification) → AreShort s.predicates → (t : BoundClause) (b : Bound) (c : Clause) (d e : UnsafeDrop) → IsDropReportedAs s t b c d → IsDropReportedAs s t b c e → d ≡ e
one-drop s short t b c d e h k =
    let same : h.classes ≡ k.classes = same-pattern h.classes k.classes
    (λ before. k.first_pattern h.classes h.is_pattern before (record { before = h.before; break = h.first.shows }))
    (λ behind. h.first_pattern k.classes k.is_pattern behind (record { before = k.before; break = k.first.shows })) in
    let other : IsFirstDropOn s t.bound b c h.classes k.before = subst (λ (p : List ℕ). IsFirstDropOn s t.bound b c p k.before) (sym same) k.first in
    let state : h.before ≡ k.before = same-state s (drop_universe s t.bound c h.classes) (drop_values s t.bound c h.classes) c.literals short h.before k.before
    h.first.shows.droppable.state other.shows.droppable.state (λ before. other.first h.before h.first.shows before) (λ behind. h.first.first k.before other.shows behind) in
    h.is ∙ ((λ i. drop_at s t c (same i) (state i)) ∙ sym k.is)
