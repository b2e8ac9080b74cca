-- What is legal is not refused, and where a state is within the bounds, no drop is due.
--
--   one_verdict      a transaction that is legal at its cut has no reason why it is not
--   calm_not_due     where the state at a session's cut is within the bounds, no drop is due there
--   session_of       a session without room
--   lawful_of, due_of, calm_of      what is said of a session does not speak of its room
use Rattle.std.proofs.Common.{◌≡◌, ℕ, Bool, List, sym, ◌∙◌, subst, arith}
use Rattle.std.proofs.lemmas.Bool.{false≢true}
use Rattle.ipa_clock.specs.declared.cut.Cut.{Cut}
use Rattle.ipa_spec.specs.declared.bounds.Bound.{Bound}
use Rattle.ipa_spec.specs.declared.operations.Action.{Action}
use Rattle.ipa_spec.specs.declared.operations.Action.TheVariants.{Op, Drop}
use Rattle.ipa_spec.specs.declared.specification.Specification.{Specification}
use Rattle.ipa_logic.specs.Facts.{Universe, IsStateOf, has}
use Rattle.ipa_logic.specs.FactLaws.{same_rising}
use Rattle.ipa_logic.specs.Groups.{Within}
use Rattle.ipa_logic.specs.Truth.{Keeps, IsFirstBroken}
use Rattle.ipa_logic.specs.Touches.{NeedsHold, IsFirstFailing}
use Rattle.ipa_logic.specs.DueDrops.{IsFirstOver}
use Rattle.ipa_logic.specs.declared.facts.Fact.{Fact}
use Rattle.ipa_history.specs.Histories.{members_of}
use Rattle.ipa_history.specs.Legality.{IsLegalAs, IsReasonAs, IsLegal, IsIllegal}
use Rattle.ipa_history.specs.declared.history.Tx.{Tx}
use Rattle.ipa_history.specs.declared.reasons.Reason.{Reason}
use Rattle.ipa_history.specs.declared.reasons.Reason.TheVariants.{NotWithin, Need, Clause as Breaks, Over, NotTheDrop}
use Rattle.ipa_gate.specs.Settings.{SettingParts}
use Rattle.ipa_session.specs.Sessions.{SessionParts, IsLawfulNext, IsCalmAt, IsDueNext}

-- two states of one test of facts are the same
one_state : (t : Fact → Bool) (s r : List Fact) → IsStateOf t s → IsStateOf t r → s ≡ r
one_state t s r one other = same_rising s r one.rising other.rising (λ f. one.facts f ∙ sym (other.facts f))

-- within the bounds, no bound is exceeded
not_over : (bounds : List Bound) (state : List Fact) (n : ℕ) → Within bounds state → IsFirstOver bounds state n → ⊥
not_over bounds state n within first =
    let low = within.groups n first.bound first.key first.declared in
    let high = first.over in
    absurd (omega (arith, low, high))

-- where all needs hold, none fails
none_fails : (s : Specification) (t : Fact → Bool) (action : Action) (args : List ℕ) (k : ℕ) → NeedsHold s t action args →
    IsFirstFailing s t action args k → ⊥
none_fails s t action args k hold first =
    absurd (false≢true (sym first.fails ∙ hold.each k first.need first.declared))

-- where all clauses are kept, none is broken
none_broken : (s : Specification) (universe : Universe) (t : Fact → Bool) (k : ℕ) (values : List ℕ) →
    Keeps s universe t → IsFirstBroken s universe t k values → ⊥
none_broken s universe t k values keeps first =
    let kept = keeps.clauses k first.clause first.declared in
    absurd (false≢true (sym first.broken ∙ kept.instances values first.over))

-- what is legal between two states has no reason there
unreasoned : (s : Specification) (universe : Universe) (members : List Tx) (t : Tx) (before after : List Fact)
    (action : Action) (r : Reason) → IsLegalAs action s universe members t before after →
    IsReasonAs action s universe members t before after r → ⊥
unreasoned s universe members t before after (Op n) (NotWithin m) legal reason =
    not_over s.bounds before m legal.within_before reason
unreasoned s universe members t before after (Op n) (Need k) legal reason =
    none_fails s (has before) t.action t.args k legal.needs reason.first
unreasoned s universe members t before after (Op n) (Breaks b) legal reason =
    none_broken s universe (has after) b.clause b.values legal.keeps reason.first
unreasoned s universe members t before after (Op n) (Over m) legal reason =
    not_over s.bounds after m legal.within_after reason.first
unreasoned s universe members t before after (Op n) NotTheDrop legal reason = reason
unreasoned s universe members t before after (Drop n) (NotWithin m) legal reason = reason
unreasoned s universe members t before after (Drop n) (Need k) legal reason = reason
unreasoned s universe members t before after (Drop n) (Breaks b) legal reason =
    none_broken s universe (has after) b.clause b.values legal.keeps reason.first
unreasoned s universe members t before after (Drop n) (Over m) legal reason = reason
unreasoned s universe members t before after (Drop n) NotTheDrop legal reason = reason legal.due

-- a transaction that is legal at its cut has no reason why it is not
pub one_verdict : (s : Specification) (universe : Universe) (base : List Fact) (h : List Tx) (t : Tx) (r : Reason) →
    IsLegal s universe base h t → IsIllegal s universe base h t r → ⊥
one_verdict s universe base h t r legal illegal =
    let before = one_state _ illegal.before legal.before illegal.state_before legal.state_before in
    let after = one_state _ illegal.after legal.after illegal.state_after legal.state_after in
    unreasoned s universe (members_of h t.cut) t legal.before legal.after t.action r legal.legal
    (subst (λ (x : List Fact). IsReasonAs t.action s universe (members_of h t.cut) t legal.before x r) after
    (subst (λ (x : List Fact). IsReasonAs t.action s universe (members_of h t.cut) t x illegal.after r) before
    illegal.reason))

-- where the state at a session's cut is within the bounds, no drop is due there
pub calm_not_due : (p : SessionParts) (c : Cut) (t : Tx) → IsCalmAt p c → IsDueNext p c t → ⊥
calm_not_due p c t calm due =
    not_over p.setting.spec.bounds due.due.state due.number
    (subst (λ (x : List Fact). Within p.setting.spec.bounds x)
    (one_state _ calm.state due.due.state calm.at due.due.at) calm.within)
    due.due.due.group.first

-- a session without room
abbrev pub session_of : SettingParts → ℕ → List Tx → SessionParts
session_of s origin seen = record { setting = s; origin = origin; seen = seen; spare = 0 }

-- what is said of a session does not speak of its room
pub lawful_of : (p : SessionParts) (c : Cut) (t : Tx) → IsLawfulNext p c t →
    IsLawfulNext (session_of p.setting p.origin p.seen) c t
lawful_of p c t is = record {
  next = record { dot = is.next.dot; cut = is.next.cut; shaped = is.next.shaped };
  legal = is.legal;
}

pub due_of : (p : SessionParts) (c : Cut) (t : Tx) → IsDueNext p c t →
    IsDueNext (session_of p.setting p.origin p.seen) c t
due_of p c t is = record {
  lawful = lawful_of p c t is.lawful;
  number = is.number;
  action = is.action;
  bound = is.bound;
  declared = is.declared;
  due = is.due;
}

pub calm_of : (p : SessionParts) (c : Cut) → IsCalmAt p c → IsCalmAt (session_of p.setting p.origin p.seen) c
calm_of p c is = record { state = is.state; at = is.at; within = is.within; keeps = is.keeps }
