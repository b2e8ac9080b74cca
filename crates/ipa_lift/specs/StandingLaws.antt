-- The state just after a member of a legal history.
--
--   is_named u t        the two have one dot
--   is_upto t u         u is before t, or it is t
--   upto h t            what stands up to t: what it has seen, and itself
--   IsFact-value        the facts of a value are facts of the universe
--   Standing            the state just after t keeps the clauses and is one that its action could have left
--   Standing-of         each member of a legal history has one
use Rattle.std.proofs.Common.{◌≡◌, ℕ, suc, Bool, true, not, ◌&&◌, ◌||◌, List, [], ◌∷◌, ◌++◌, refl, sym, ◌∙◌, ap, subst, Some, None, slice_get, take, inl, inr}
use Rattle.std.specs.Prelude.{filter, ◌==◌}
use Rattle.std.specs.List.{list_all}
use Rattle.std.proofs.lemmas.Bool.{and_parts, and_from, or_cases, or_left, or_right, eqb-true, eq-eqb}
use Rattle.ipa_clock.specs.declared.dot.Dot.{Dot}
use Rattle.ipa_spec.specs.Actions.{needs_of}
use Rattle.ipa_spec.specs.Fits.{IsFit}
use Rattle.ipa_spec.specs.declared.specification.Specification.{Specification}
use Rattle.ipa_spec.specs.declared.operations.Action.{Action}
use Rattle.ipa_spec.specs.declared.operations.Action.TheVariants.{Op, Drop}
use Rattle.ipa_logic.specs.Facts.{Universe, IsFact, IsState, has}
use Rattle.ipa_logic.specs.StandingLaws.{StandsAfter-plain, IsFact-adds}
use Rattle.ipa_logic.specs.Truth.{Keeps, literal_true}
use Rattle.ipa_logic.specs.Touches.{has_rule, is_add_wins, NeedsHold, plain_application}
use Rattle.ipa_logic.specs.Conflicts.{StandsAfter}
use Rattle.ipa_logic.specs.declared.facts.Fact.{Fact}
use Rattle.ipa_clock.specs.Cut.{is_covered}
use Rattle.ipa_history.specs.Histories.{IsMember, is_before, members_of}
use Rattle.ipa_history.specs.Values.{adds_fact, removes_fact, value_of}
use Rattle.ipa_history.specs.Legality.{IsLegalAs, IsLegalHistory}
use Rattle.ipa_history.specs.MemberLaws.{member_cases, member_none, member-filter, filter_member, member-append_left, member-append_right, member-append_cases}
use Rattle.ipa_history.specs.EffectLaws as effects
use Rattle.ipa_history.specs.HistoryLaws as histories
use Rattle.ipa_history.specs.HistoryLaws.{covers_covered, member-take}
use Rattle.ipa_history.specs.NextLaws.{IsNext}
use Rattle.ipa_lift.specs.CutLaws.{value-same, top_is_plain}
use Rattle.ipa_history.specs.declared.history.Tx.{Tx}

-- the two have one dot
abbrev pub is_named : Tx → Tx → Bool
is_named u t = (u.dot.origin == t.dot.origin) && (u.dot.number == t.dot.number)

pub named_itself : (t : Tx) → is_named t t ≡ true
named_itself t = and_from (t.dot.origin == t.dot.origin) (t.dot.number == t.dot.number)
    (eq-eqb t.dot.origin t.dot.origin refl) (eq-eqb t.dot.number t.dot.number refl)

pub named_same : (u t : Tx) → is_named u t ≡ true → u.dot ≡ t.dot
named_same u t h =
    let parts = and_parts (u.dot.origin == t.dot.origin) (u.dot.number == t.dot.number) h in
    let dot : ℕ → ℕ → Dot = λ origin number. record { origin = origin; number = number } in
    ap (λ (o : ℕ). dot o u.dot.number) (eqb-true u.dot.origin t.dot.origin parts.0)
    ∙ ap (dot t.dot.origin) (eqb-true u.dot.number t.dot.number parts.1)

-- u is before t, or it is t
abbrev pub is_upto : Tx → Tx → Bool
is_upto t u = is_before u t || is_named u t

-- what a transaction has seen, and itself
abbrev pub upto : List Tx → Tx → List Tx
upto h t = filter (is_upto t) h

-- a test that passes at each place passes everywhere
all_from : {X : Type 0} (p : X → Bool) (xs : List X) → ((k : ℕ) (x : X) → slice_get xs k ≡ Some x → p x ≡ true) →
    list_all p xs ≡ true
all_from p [] each = refl
all_from p (x ∷ xs) each = and_from (p x) (list_all p xs) (each 0 x refl) (all_from p xs (λ k y e. each (suc k) y e))

-- the state just after t keeps the clauses, and is one that its action could have left
pub record Standing (s : Specification) (universe : Universe) (base : List Fact) (h : List Tx) (t : Tx) : Type 0 where
  pub after : List Fact
  pub state : IsState s universe after
  pub keeps : Keeps s universe (has after)
  pub stands : StandsAfter s universe t.action t.args (has after)
  pub tells : (f : Fact) → has after f ≡ value_of s base (upto h t) f

-- the state after a transaction whose needs hold is one that its action could have left
stands-after : (s : Specification) (universe : Universe) (t : Tx) (before after : List Fact) →
    ((f : Fact) → has after f ≡ plain_application s t.action t.args (has before) f) →
    NeedsHold s (has before) t.action t.args → StandsAfter s universe t.action t.args (has after)
stands-after s universe t before after plain needs =
    let same : has after ≡ plain_application s t.action t.args (has before) = λ i f. plain f i in
    subst (λ (x : Fact → Bool). StandsAfter s universe t.action t.args x) (sym same)
    (StandsAfter-plain s universe t.action t.args (has before)
    (all_from (literal_true s (has before) t.args) (needs_of s t.action) needs.each))

-- what both kinds of legality say
legal_keeps : (action : Action) (s : Specification) (universe : Universe) (members : List Tx) (t : Tx)
    (before after : List Fact) → IsLegalAs action s universe members t before after → Keeps s universe (has after)
legal_keeps (Op n) s universe members t before after l = l.keeps
legal_keeps (Drop n) s universe members t before after l = l.keeps

legal_needs : (action : Action) (s : Specification) (universe : Universe) (members : List Tx) (t : Tx)
    (before after : List Fact) → t.action ≡ action → IsLegalAs action s universe members t before after →
    NeedsHold s (has before) t.action t.args
legal_needs (Op n) s universe members t before after e l = l.needs
legal_needs (Drop n) s universe members t before after e l = record {
  each = λ k need at.
      let none : slice_get (needs_of s (Drop n)) k ≡ Some need = ap (λ (a : Action). slice_get (needs_of s a) k) (sym e)
      ∙ at in
      let empty : None ≡ Some need = none in
      absurd cc;
}

module _ (s : Specification) (fit : IsFit s) (universe : Universe) (base : List Fact) (h : List Tx)
    (legal : IsLegalHistory s universe base h) where
  -- what stands up to a member
  upto_there : (k : ℕ) (t : Tx) → slice_get h k ≡ Some t → (u : Tx) →
      IsMember (members_of (take k h) t.cut ++ t ∷ []) u → IsMember (upto h t) u
  upto_there k t e u m = elim (member-append_cases (members_of (take k h) t.cut) (t ∷ []) u m) [
    | inl a ↦
        let kept = filter_member (λ (v : Tx). is_covered t.cut v.dot) (take k h) u a in
        member-filter (is_upto t) h u (member-take k h u kept.member)
        (or_left (is_before u t) (is_named u t) kept.passes)
    | inr b ↦ elim (member_cases t [] u b) [
      | inl same ↦ member-filter (is_upto t) h u (record { place = k; at = e ∙ ap (λ (v : Tx). Some v) same })
          (or_right (is_before u t) (is_named u t) (ap (λ (v : Tx). is_named v t) (sym same) ∙ named_itself t))
      | inr none ↦ absurd (member_none u none)
    ]
  ]

  upto_back : (k : ℕ) (t : Tx) → slice_get h k ≡ Some t → (u : Tx) → IsMember (upto h t) u →
      IsMember (members_of (take k h) t.cut ++ t ∷ []) u
  upto_back k t e u m =
      let kept = filter_member (is_upto t) h u m in
      elim (or_cases (is_before u t) (is_named u t) kept.passes) [
        | inl b ↦ member-append_left (members_of (take k h) t.cut) (t ∷ []) u
            (member-filter (λ (v : Tx). is_covered t.cut v.dot) (take k h) u
            (histories.seen_earlier h legal.history k t u e kept.member b) b)
        | inr n ↦ member-append_right (members_of (take k h) t.cut) (t ∷ []) u
            (record {
              place = 0;
              at = ap (λ (v : Tx). Some v)
                  (sym (histories.one_named h legal.history u t kept.member (record { place = k; at = e })
                  (named_same u t n)));
            })
      ]

  -- the facts of a value are facts of the universe
  pub IsFact-value : (ms : List Tx) → ((u : Tx) → IsMember ms u → IsMember h u) → (f : Fact) →
      value_of s base ms f ≡ true → IsFact s universe f
  IsFact-value ms inside f v =
      elim (effects.true_from is_before (adds_fact s f) (removes_fact s f) (has base f)
      (has_rule is_add_wins s f.predicate) ms (histories.Order-part h legal.history ms inside) v) [
        | inl b ↦ legal.base_state.facts f b
        | inr a ↦ IsFact-adds s universe a.one.action a.one.args f fit legal.sizes
            (legal.fitting a.one (inside a.one a.member)).arguments a.passes
      ]

  pub Standing-of : (t : Tx) → IsMember h t → Standing s universe base h t
  Standing-of t m =
      let is = legal.legal m.place t m.at in
      let next : IsNext (take m.place h) t = record {
        below = λ u mu c. histories.seen_below h legal.history t u m (member-take m.place h u mu)
            (covers_covered t.cut u.dot c);
        own = legal.history.own t m;
      } in
      let tells : (f : Fact) → has is.after f ≡ value_of s base (upto h t) f = λ f. is.state_after.facts f
      ∙ value-same s base f (members_of (take m.place h) t.cut ++ t ∷ []) (upto h t) (upto_there m.place t m.at)
      (upto_back m.place t m.at) in
      record {
        after = is.after;
        state = record {
          rising = is.state_after.rising;
          facts = λ f g. IsFact-value (upto h t) (λ u mu. let kept = filter_member (is_upto t) h u mu in kept.member) f
              (sym (tells f) ∙ g);
        };
        keeps = legal_keeps t.action s universe (members_of (take m.place h) t.cut) t is.before is.after is.legal;
        stands = stands-after s universe t is.before is.after
            (λ f. is.state_after.facts f ∙ (top_is_plain s base (take m.place h) t next f
            ∙ ap (λ (b : Bool). adds_fact s f t || (b && not (removes_fact s f t)))
            (sym (is.state_before.facts f))))
            (legal_needs t.action s universe (members_of (take m.place h) t.cut) t is.before is.after refl is.legal);
        tells = tells;
      }
