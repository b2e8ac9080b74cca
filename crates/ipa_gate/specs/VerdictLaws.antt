-- The verdict between a view and what follows it is that of the history at the cut.
--
--   meetings_of          members of an accepted specification's history meet without conflict
--   keeps_before         the state at the cut keeps the clauses
--   state_after          the plain application is the state with the transaction added
--   operation_judged     the verdict on an operation
--   drop_legal, drop_illegal     the verdict on a drop
--   moved                what holds of the parts of a setting holds of equal ones
use Rattle.std.proofs.Common.{◌≡◌, ℕ, Bool, true, List, [], ◌∷◌, ◌++◌, sym, ◌∙◌, ap, subst, Option, Some, None}
use Rattle.std.specs.Prelude.{MatchOption}
use Rattle.ipa_spec.specs.declared.specification.Specification.{Specification}
use Rattle.ipa_spec.specs.declared.operations.Action.{Action}
use Rattle.ipa_spec.specs.declared.operations.Action.TheVariants.{Op, Drop}
use Rattle.ipa_logic.specs.Facts.{Universe, IsStateOf, has}
use Rattle.ipa_logic.specs.Truth.{Keeps}
use Rattle.ipa_logic.specs.Touches.{plain_application, IsAfter}
use Rattle.ipa_logic.specs.Applied.{applied}
use Rattle.ipa_logic.specs.AppliedLaws.{IsAfter-applied}
use Rattle.ipa_logic.specs.Acceptance.{IsAccepted, drop_fact}
use Rattle.ipa_logic.specs.declared.facts.Age.{Age}
use Rattle.ipa_logic.specs.declared.facts.Fact.{Fact}
use Rattle.ipa_history.specs.Histories.{members_of}
use Rattle.ipa_history.specs.Values.{value_of, value_at}
use Rattle.ipa_history.specs.Ages.{age_of, age_at}
use Rattle.ipa_history.specs.Legality.{IsLegalAs, IsReasonAs, IsLegalOperation, IsOperationReason, IsDropOf, IsLegal, IsIllegal}
use Rattle.ipa_history.specs.declared.history.Tx.{Tx}
use Rattle.ipa_history.specs.declared.reasons.Reason.{Reason}
use Rattle.ipa_history.specs.declared.reasons.Reason.TheVariants.{NotTheDrop}
use Rattle.ipa_lift.specs.CutLaws.{top_is_plain}
use Rattle.ipa_lift.specs.FollowLaws.{due_drop-legal}
use Rattle.ipa_lift.specs.Meetings.{NoMeetingConflict}
use Rattle.ipa_lift.specs.Lift.{meeting_keeps}
use Rattle.ipa_gate.specs.DueDrops.{IsDueAs, due_drop-aged}
use Rattle.ipa_gate.specs.Verdicts.{IsAtCut}

-- members of an accepted specification's history meet without conflict
pub meetings_of : (s : Specification) → IsAccepted s → (h : List Tx) → NoMeetingConflict s h
meetings_of s accepted h = record {
  apart = λ u v k mu mv differs b d conflict. accepted.apart u.action v.action k conflict;
}

module _ (s : Specification) (universe : Universe) (base : List Fact) (h : List Tx) (t : Tx)
    (is : IsAtCut s universe base h t) (before : List Fact) (state : IsStateOf (value_at s base h t.cut) before) where
  -- the state at the cut keeps the clauses
  pub keeps_before : Keeps s universe (has before)
  keeps_before =
      let tells : has before ≡ value_at s base h t.cut = λ i f. state.facts f i in
      subst (λ (x : Fact → Bool). Keeps s universe x) (sym tells)
      (meeting_keeps s is.fit universe base h is.legal (meetings_of s is.accepted h) t.cut is.closed)

  abbrev pub after : List Fact
  after = applied s t.action t.args before

  after_plain : IsAfter s t.action t.args before after
  after_plain = IsAfter-applied s t.action t.args before

  -- the plain application is the state with the transaction added
  pub state_after : IsStateOf (value_of s base (members_of h t.cut ++ t ∷ [])) after
  state_after = record {
    rising = after_plain.rising;
    facts = λ f. after_plain.facts f
        ∙ (ap (λ (b : Bool). plain_one f b) (state.facts f)
        ∙ sym (top_is_plain s base h t (record { below = is.closed.below; own = is.own }) f));
  }
    where
      plain_one : Fact → Bool → Bool
      plain_one f b = plain_application s t.action t.args (λ g. b) f

  -- of an operation
  pub operation_judged : (n : ℕ) (r : Option Reason) → t.action ≡ Op n →
      ((end : List Fact) → IsAfter s t.action t.args before end →
      MatchOption r (IsLegalOperation s universe t before end) (IsOperationReason s universe t before end)) →
      MatchOption r (IsLegal s universe base h t) (IsIllegal s universe base h t)
  operation_judged n None action judged = record {
    before = before;
    after = after;
    state_before = state;
    state_after = state_after;
    legal = subst (λ (a : Action). IsLegalAs a s universe (members_of h t.cut) t before after) (sym action)
        (judged after after_plain);
  }
  operation_judged n (Some reason) action judged = record {
    before = before;
    after = after;
    state_before = state;
    state_after = state_after;
    reason = subst (λ (a : Action). IsReasonAs a s universe (members_of h t.cut) t before after reason) (sym action)
        (judged after after_plain);
  }

  -- of a drop, where the ages of true facts are those at the cut
  module _ (ages : Fact → Age) (same : (f : Fact) → has before f ≡ true → ages f ≡ age_at s h t.cut f) (n : ℕ)
      (action : t.action ≡ Drop n) where
    pub drop_legal : IsDueAs s before ages n t.args → IsLegal s universe base h t
    drop_legal due = due_drop-legal s is.fit is.accepted universe base h is.legal t is.closed is.own is.fitting n before
        after action state state_after (record {
          bound = due.bound;
          declared = due.declared;
          due = due_drop-aged s.bounds before ages (age_of s (members_of h t.cut)) n (drop_fact s due.bound t.args) same
              due.due;
        })

    not_due : (IsDueAs s before ages n t.args → ⊥) → IsDropOf s n (members_of h t.cut) t before → ⊥
    not_due wrong due = wrong (record {
      bound = due.bound;
      declared = due.declared;
      due = due_drop-aged s.bounds before (age_of s (members_of h t.cut)) ages n (drop_fact s due.bound t.args)
          (λ f there. sym (same f there)) due.due;
    })

    pub drop_illegal : (IsDueAs s before ages n t.args → ⊥) → IsIllegal s universe base h t NotTheDrop
    drop_illegal wrong = record {
      before = before;
      after = after;
      state_before = state;
      state_after = state_after;
      reason = subst (λ (a : Action). IsReasonAs a s universe (members_of h t.cut) t before after NotTheDrop)
          (sym action) (not_due wrong);
    }

-- what holds of the parts of a setting holds of equal ones
pub moved : (P : Specification → Universe → List Fact → Type 0) (s one : Specification) (u two : Universe)
    (b three : List Fact) → s ≡ one → u ≡ two → b ≡ three → P s u b → P one two three
moved P s one u two b three first second third is =
    subst (λ (x : Specification). P x two three) first
    (subst (λ (x : Universe). P s x three) second (subst (λ (x : List Fact). P s u x) third is))
