-- Laws of the state after an action.
--
--   list_all-weaker     a test that passes where another does
--   StandsAfter-plain   where an action's needs hold, the state after it is one that it could have left
--   IsFact-adds         what an action adds is a fact of the universe
--   IsState-after       the state after an action is a state
--   broken-undecided    an instance that is broken is decided by the state alone
use Rattle.std.proofs.Common.{◌≡◌, ℕ, Bool, true, false, not, ◌&&◌, ◌||◌, List, [], ◌∷◌, refl, sym, ◌∙◌, ap, subst, Some, slice_get, inl, inr}
use Rattle.std.specs.List.{list_any, list_all}
use Rattle.std.specs.Ordering.{is_eq}
use Rattle.std.proofs.lemmas.Bool.{and_parts, and_from, both_ways, cases_Bool, or_left, or_right, or_parts, not-false, not_from_false, or_cases}
use Rattle.ipa_spec.specs.Actions.{effects_of, needs_of, sorts_of}
use Rattle.ipa_spec.specs.Fits.{IsFit, EffectFits}
use Rattle.ipa_spec.specs.FoundLaws.{found_at, list_any-false, none_of}
use Rattle.ipa_spec.specs.declared.specification.Specification.{Specification}
use Rattle.ipa_spec.specs.declared.clauses.Atom.{Atom}
use Rattle.ipa_spec.specs.declared.clauses.Clause.{Clause}
use Rattle.ipa_spec.specs.declared.clauses.Literal.{Literal}
use Rattle.ipa_spec.specs.declared.clauses.Literal.TheVariants.{Holds, Fails, Same, Differ}
use Rattle.ipa_spec.specs.declared.operations.Action.{Action}
use Rattle.ipa_logic.specs.Facts.{Universe, IsUniverse, IsFact, IsState, has, fact_cmp}
use Rattle.ipa_logic.specs.FactLaws.{same_fact}
use Rattle.ipa_logic.specs.FitLaws.{IsWhole-add, IsFact-fact_given}
use Rattle.ipa_logic.specs.TouchLaws.{plain-adds, plain-removes, literal-untouched}
use Rattle.ipa_logic.specs.Truth.{IsArguments, fact_of, literal_true, instance_true}
use Rattle.ipa_logic.specs.Touches.{gives, fact_given, adds, removes, plain_application, IsAfter, makes_true, makes_false, touches_need}
use Rattle.ipa_logic.specs.Conflicts.{StandsAfter, is_true_comparison, denies, is_denied_by, is_undecided}
use Rattle.ipa_logic.specs.declared.facts.Fact.{Fact}

-- a test that passes where another does
pub list_all-weaker : {X : Type 0} (p q : X → Bool) (xs : List X) → ((x : X) → p x ≡ true → q x ≡ true) → list_all p xs ≡ true → list_all q xs ≡ true
list_all-weaker p q [] weaker h = refl
list_all-weaker p q (x ∷ xs) weaker h =
    let parts = and_parts (p x) (list_all p xs) h in
    and_from (q x) (list_all q xs) (weaker x parts.0) (list_all-weaker p q xs weaker parts.1)

module _ (s : Specification) (universe : Universe) (action : Action) (args : List ℕ) (t : Fact → Bool) where
  -- a need that the action does not touch holds as it did
  need_kept : (l : Literal) → literal_true s t args l ≡ true →
      (touches_need s action args l || literal_true s (plain_application s action args t) args l) ≡ true
  need_kept l h = elim (cases_Bool (touches_need s action args l)) [
    | inl touched ↦ or_left (touches_need s action args l) (literal_true s (plain_application s action args t) args l) touched
    | inr away ↦
        let parts = or_parts (makes_true s action args args l) (makes_false s action args args l) away in
        or_right (touches_need s action args l) (literal_true s (plain_application s action args t) args l)
        (literal-untouched s action args t args l parts.0 parts.1 ∙ h)
  ]

  -- where an action's needs hold, the state after it is one that it could have left
  pub StandsAfter-plain : list_all (literal_true s t args) (needs_of s action) ≡ true →
      StandsAfter s universe action args (plain_application s action args t)
  StandsAfter-plain needs = record {
    added = λ f is h. plain-adds s action args t f h;
    removed = λ f is h. plain-removes s action args t f h;
    needed = list_all-weaker (literal_true s t args)
        (λ l. touches_need s action args l || literal_true s (plain_application s action args t) args l) (needs_of s action) need_kept needs;
  }

-- what an action adds is a fact of the universe
pub IsFact-adds : (s : Specification) (universe : Universe) (action : Action) (args : List ℕ) (f : Fact) → IsFit s → IsUniverse s universe →
    IsArguments s universe action args → adds s action args f ≡ true → IsFact s universe f
IsFact-adds s universe action args f fit large over h =
    let e = found_at (gives s args f) (effects_of s action) h in
    let parts = and_parts e.item.add (is_eq (fact_cmp (fact_given s args e.item) f)) e.passes in
    let fits : EffectFits s (sorts_of s action) e.item = fit.effects action e.place e.item e.at in
    subst (λ (g : Fact). IsFact s universe g) (same_fact (fact_given s args e.item) f parts.1)
    (IsFact-fact_given s universe (sorts_of s action) args e.item fits large (IsWhole-add s (sorts_of s action) e.item fits parts.0) over)

-- the state after an action is a state
pub IsState-after : (s : Specification) (universe : Universe) (action : Action) (args : List ℕ) (before after : List Fact) → IsFit s → IsUniverse s universe →
    IsArguments s universe action args → IsState s universe before → IsAfter s action args before after → IsState s universe after
IsState-after s universe action args before after fit large over state is = record {
  rising = is.rising;
  facts = λ f h. elim (or_cases (adds s action args f) (has before f && not (removes s action args f)) (sym (is.facts f) ∙ h)) [
    | inl added ↦ IsFact-adds s universe action args f fit large over added
    | inr kept ↦ state.facts f (and_parts (has before f) (not (removes s action args f)) kept).0
  ];
}

-- an instance that is broken is decided by the state alone
pub broken-undecided : (s : Specification) (t : Fact → Bool) (values : List ℕ) (c : Clause) → instance_true s t values c ≡ false →
    is_undecided s values c.literals ≡ true
broken-undecided s t values c broken =
    and_from (not (list_any (is_true_comparison s values) c.literals)) (not (list_any (is_denied_by s values c.literals) c.literals))
    (not_from_false (list_any (is_true_comparison s values) c.literals) (none_of (is_true_comparison s values) c.literals (λ n l at. compared l (all n l at))))
    (not_from_false (list_any (is_denied_by s values c.literals) c.literals) (none_of (is_denied_by s values c.literals) c.literals denied))
  where
    all : (n : ℕ) (l : Literal) → slice_get c.literals n ≡ Some l → literal_true s t values l ≡ false
    all n l at = list_any-false (literal_true s t values) c.literals broken n l at

    compared : (l : Literal) → literal_true s t values l ≡ false → is_true_comparison s values l ≡ false
    compared (Holds a) h = refl
    compared (Fails a) h = refl
    compared (Same v w) h = h
    compared (Differ v w) h = h

    beside : (a : Atom) (m : ℕ) → slice_get c.literals m ≡ Some (Holds a) → (n : ℕ) (l : Literal) → slice_get c.literals n ≡ Some l → denies s values a l ≡ false
    beside a m here n (Holds b) at = refl
    beside a m here n (Fails b) at = elim (cases_Bool (denies s values a (Fails b))) [
      | inl same ↦ absurd (
          let one = same_fact (fact_of s values a) (fact_of s values b) same in
          both_ways (t (fact_of s values b)) (sym (ap t one) ∙ all m (Holds a) here) (not-false (t (fact_of s values b)) (all n (Fails b) at)))
      | inr apart ↦ apart
    ]
    beside a m here n (Same v w) at = refl
    beside a m here n (Differ v w) at = refl

    denied : (n : ℕ) (l : Literal) → slice_get c.literals n ≡ Some l → is_denied_by s values c.literals l ≡ false
    denied n (Holds a) at = none_of (denies s values a) c.literals (λ m l there. beside a n at m l there)
    denied n (Fails a) at = refl
    denied n (Same v w) at = refl
    denied n (Differ v w) at = refl
