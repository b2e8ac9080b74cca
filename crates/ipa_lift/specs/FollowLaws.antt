-- What a legal history gains by one more transaction.
--
--   IsLegalHistory-push   a legal transaction that may follow leaves a legal history
--   value_at-raised       the state at its cut with it added is the state at the raised cut of the longer history
--   due_drop-legal        a due drop at a closed cut of a legal history of an accepted specification is legal
--   drop_never_breaks     and breaks no clause
use Rattle.std.proofs.Common.{◌≡◌, ℕ, ◌+◌, ◌<◌, Bool, List, [], ◌∷◌, ◌++◌, length, refl, sym, ◌∙◌, ap, subst, arith, inl, inr}
use Rattle.std.proofs.lemmas.Bool.{both_ways}
use Rattle.ipa_clock.specs.Cut.{is_covered, count_of, raised}
use Rattle.ipa_clock.specs.Lemmas.{covers_raised}
use Rattle.ipa_spec.specs.Fits.{IsFit}
use Rattle.ipa_spec.specs.declared.specification.Specification.{Specification}
use Rattle.ipa_spec.specs.declared.operations.Action.{Action}
use Rattle.ipa_spec.specs.declared.operations.Action.TheVariants.{Drop}
use Rattle.ipa_logic.specs.Facts.{Universe, IsState, IsStateOf, has}
use Rattle.ipa_logic.specs.Truth.{IsArguments, Keeps, instance_true}
use Rattle.ipa_logic.specs.DropLaws.{due_drop-true}
use Rattle.ipa_history.specs.Ages.{age_of}
use Rattle.ipa_logic.specs.Acceptance.{IsAccepted, IsDroppable, drop_fact}
use Rattle.ipa_logic.specs.Touches.{plain_application}
use Rattle.ipa_logic.specs.declared.facts.Fact.{Fact}
use Rattle.ipa_logic.specs.declared.facts.Broken.{Broken}
use Rattle.ipa_history.specs.Histories.{IsMember, IsHistory, IsClosed, members_of}
use Rattle.ipa_history.specs.Values.{value_of, value_at}
use Rattle.ipa_history.specs.Legality.{IsDropOf, IsLegalAs, IsLegal, IsIllegal, IsReasonAs, DropBreaksAt, IsFitting, IsLegalHistory}
use Rattle.ipa_history.specs.MemberLaws.{member_cases, member_first, member_none, member-filter, filter_member, member-append_left, member-append_right, member-append_cases}
use Rattle.ipa_history.specs.HistoryLaws as histories
use Rattle.ipa_history.specs.HistoryLaws.{covers_covered, covered_covers}
use Rattle.ipa_history.specs.PushLaws as pushes
use Rattle.ipa_history.specs.PushLaws.{CanFollow, push_cases, IsHistory-push}
use Rattle.ipa_lift.specs.CutLaws.{value-same, top_is_plain}
use Rattle.ipa_lift.specs.StandingLaws.{IsFact-value}
use Rattle.ipa_lift.specs.Meetings.{NoMeetingConflict}
use Rattle.ipa_lift.specs.Lift.{meeting_keeps}
use Rattle.ipa_history.specs.declared.history.Tx.{Tx}
use Rattle.ipa_history.specs.declared.reasons.Reason.TheVariants.{Clause as Breaks}

-- a legal transaction that may follow leaves a legal history
pub IsLegalHistory-push : (s : Specification) (universe : Universe) (base : List Fact) (h : List Tx) (t : Tx) →
    IsLegalHistory s universe base h → CanFollow h t
    → IsFitting s universe t → IsLegal s universe base h t → IsLegalHistory s universe base (h ++ t ∷ [])
IsLegalHistory-push s universe base h t legal follows fitting is = record {
  history = IsHistory-push h legal.history t follows;
  sizes = legal.sizes;
  base_state = legal.base_state;
  base_keeps = legal.base_keeps;
  base_within = legal.base_within;
  fitting = λ u m. elim (member-append_cases h (t ∷ []) u m) [
    | inl a ↦ legal.fitting u a
    | inr b ↦ elim (member_cases t [] u b) [
      | inl e ↦ subst (λ
          (x : Tx). IsFitting s universe x) e fitting
      | inr none ↦ absurd (member_none u none)
    ]
  ];
  legal = λ k u e. elim (push_cases h t k u e) [
    | inl a ↦ subst (λ (xs : List Tx). IsLegal s universe base xs u)
        (sym (pushes.front h legal.history t follows k (omega (arith, a.0)))) (legal.legal k u a.1)
    | inr b ↦ subst (λ (xs : List Tx). IsLegal s universe base xs u)
        (sym (pushes.whole h legal.history t follows k b.0)) (subst (λ (x : Tx). IsLegal s universe base h x) b.1 is)
  ];
}

-- the state at its cut with it added is the state at the raised cut of the longer history
pub value_at-raised : (s : Specification) (base : List Fact) (h : List Tx) (t : Tx) (f : Fact) → IsHistory h →
    CanFollow h t → length t.cut.counts ≡ 16
    → value_at s base (h ++ t ∷ []) (raised t.cut t.dot) f ≡ value_of s base (members_of h t.cut ++ t ∷ []) f
value_at-raised s base h t f is follows width =
    value-same s base f (members_of (h ++ t ∷ []) (raised t.cut t.dot)) (members_of h t.cut ++ t ∷ []) there back
  where
    last : IsMember (h ++ t ∷ []) t
    last = member-append_right h (t ∷ []) t (member_first t [])

    inside : t.dot.origin < length t.cut.counts
    inside = let o = follows.origin in omega (arith, o, width)

    there : (u : Tx) → IsMember (members_of (h ++ t ∷ []) (raised t.cut t.dot)) u →
        IsMember (members_of h t.cut ++ t ∷ []) u
    there u m =
        let k = filter_member (λ (v : Tx). is_covered (raised t.cut t.dot) v.dot) (h ++ t ∷ []) u m in
        elim ((covers_raised t.cut t.dot u.dot inside (sym follows.own)).0
        (covered_covers (raised t.cut t.dot) u.dot k.passes)) [
          | inl c ↦ elim (member-append_cases h (t ∷ []) u k.member) [
            | inl a ↦ member-append_left (members_of h t.cut) (t ∷ []) u
                (member-filter (λ (v : Tx). is_covered t.cut v.dot) h u a (covers_covered t.cut u.dot c))
            | inr b ↦ member-append_right (members_of h t.cut) (t ∷ []) u b
          ]
          | inr e ↦ subst (λ (v : Tx). IsMember (members_of h t.cut ++ t ∷ []) v)
              (sym (histories.one_named (h ++ t ∷ []) (IsHistory-push h is t follows) u t k.member last e))
              (member-append_right (members_of h t.cut) (t ∷ []) t (member_first t []))
        ]

    back : (u : Tx) → IsMember (members_of h t.cut ++ t ∷ []) u →
        IsMember (members_of (h ++ t ∷ []) (raised t.cut t.dot)) u
    back u m = elim (member-append_cases (members_of h t.cut) (t ∷ []) u m) [
      | inl a ↦
          let k = filter_member (λ (v : Tx). is_covered t.cut v.dot) h u a in
          member-filter (λ (v : Tx). is_covered (raised t.cut t.dot) v.dot) (h ++ t ∷ []) u
          (member-append_left h (t ∷ []) u k.member)
          (covers_covered (raised t.cut t.dot) u.dot ((covers_raised t.cut t.dot u.dot inside (sym follows.own)).1
          (inl (covered_covers t.cut u.dot k.passes))))
      | inr b ↦ elim (member_cases t [] u b) [
        | inl e ↦ subst (λ (v : Tx). IsMember (members_of (h ++ t ∷ []) (raised t.cut t.dot)) v) e
            (member-filter (λ (v : Tx). is_covered (raised t.cut t.dot) v.dot) (h ++ t ∷ []) t last
            (covers_covered (raised t.cut t.dot) t.dot ((covers_raised t.cut t.dot t.dot inside (sym follows.own)).1
            (inr refl))))
        | inr none ↦ absurd (member_none u none)
      ]
    ]

module _ (s : Specification) (fit : IsFit s) (accepted : IsAccepted s) (universe : Universe) (base : List Fact)
    (h : List Tx) (legal : IsLegalHistory s universe base h) (t : Tx)
    (closed : IsClosed h t.cut) (own : count_of t.cut t.dot.origin + 1 ≡ t.dot.number)
    (fitting : IsFitting s universe t) where
  -- the state before it keeps the clauses
  before_keeps : (before : List Fact) → IsStateOf (value_at s base h t.cut) before → Keeps s universe (has before)
  before_keeps before is =
      let tells : has before ≡ value_at s base h t.cut = λ i f. is.facts f i in
      let meetings : NoMeetingConflict s h = record {
        apart = λ u v k mu mv differs b d conflict. accepted.apart u.action v.action k conflict;
      } in
      subst (λ (x : Fact → Bool). Keeps s universe x) (sym tells)
      (meeting_keeps s fit universe base h legal meetings t.cut closed)

  -- and is a state of the universe
  IsState-before : (before : List Fact) → IsStateOf (value_at s base h t.cut) before → IsState s universe before
  IsState-before before is = record {
    rising = is.rising;
    facts = λ f g. IsFact-value s fit universe base h legal (members_of h t.cut)
        (λ u m. let k = filter_member (λ (v : Tx). is_covered t.cut v.dot) h u m in k.member) f (sym (is.facts f) ∙ g);
  }

  -- the state after it is the plain application
  after-plain : (before after : List Fact) → IsStateOf (value_at s base h t.cut) before →
      IsStateOf (value_of s base (members_of h t.cut ++ t ∷ [])) after →
      (f : Fact) → has after f ≡ plain_application s t.action t.args (has before) f
  after-plain before after is second f =
      second.facts f ∙ (top_is_plain s base h t (record { below = closed.below; own = own }) f
      ∙ ap (λ (b : Bool). plain_one b) (sym (is.facts f)))
    where
      plain_one : Bool → Bool
      plain_one b = plain_application s t.action t.args (λ g. b) f

  -- after a due drop all clauses are kept
  pub due_drop-keeps : (n : ℕ) (before after : List Fact) → t.action ≡ Drop n →
      IsStateOf (value_at s base h t.cut) before → IsStateOf (value_of s base (members_of h t.cut ++ t ∷ [])) after →
      IsDropOf s n (members_of h t.cut) t before → Keeps s universe (has after)
  due_drop-keeps n before after is first second due =
      let droppable : IsDroppable s due.bound n universe t.args before = record {
        declared = due.declared;
        sizes = legal.sizes;
        arguments = subst (λ (a : Action). IsArguments s universe a t.args) is fitting.arguments;
        state = IsState-before before first;
        keeps = before_keeps before first;
        holds = (due_drop-true s.bounds before (age_of s (members_of h t.cut)) n
            (drop_fact s due.bound t.args) due.due).0;
      } in
      let safe = (accepted.safe n).keeps due.bound universe t.args before droppable in
      let same : has after ≡ plain_application s (Drop n) t.args (has before) = λ i f.
      (after-plain before after first second f
      ∙ ap (λ (a : Action). plain_application s a t.args (has before) f) is) i in
      subst (λ (x : Fact → Bool). Keeps s universe x) (sym same) safe

  -- so it is legal
  pub due_drop-legal : (n : ℕ) (before after : List Fact) → t.action ≡ Drop n →
      IsStateOf (value_at s base h t.cut) before → IsStateOf (value_of s base (members_of h t.cut ++ t ∷ [])) after →
      IsDropOf s n (members_of h t.cut) t before → IsLegal s universe base h t
  due_drop-legal n before after is first second due = record {
    before = before;
    after = after;
    state_before = first;
    state_after = second;
    legal = subst (λ (a : Action). IsLegalAs a s universe (members_of h t.cut) t before after) (sym is)
        (record { due = due; keeps = due_drop-keeps n before after is first second due });
  }

  -- and never breaks a clause
  pub drop_never_breaks : (n : ℕ) (r : Broken) → t.action ≡ Drop n → IsIllegal s universe base h t (Breaks r) → ⊥
  drop_never_breaks n r is illegal =
      let b : DropBreaksAt s universe n (members_of h t.cut) t illegal.before illegal.after r =
      subst (λ (a : Action). IsReasonAs a s universe (members_of h t.cut) t illegal.before illegal.after (Breaks r))
      is illegal.reason in
      let kept = due_drop-keeps n illegal.before illegal.after is illegal.state_before illegal.state_after b.due in
      both_ways (instance_true s (has illegal.after) r.values b.first.clause) b.first.broken
      ((kept.clauses r.clause b.first.clause b.first.declared).instances r.values b.first.over)
