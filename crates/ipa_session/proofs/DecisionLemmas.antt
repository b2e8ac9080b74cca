-- What a session decides on an operation.
--
--   decision_commit     its next transaction, where that is legal
--   decision_refuse     the first reason, where it is not
--   decision_show       on a question the true facts that were asked for
use Rattle.std.proofs.Common.{◌≡◌, ℕ, Bool, ◌&&◌, Option, List, ◌∙◌, ap, subst}
use Rattle.ipa_clock.specs.declared.cut.Cut.{Cut}
use Rattle.ipa_spec.specs.Fits.{IsFit}
use Rattle.ipa_spec.specs.declared.operations.Action.TheVariants.{Op}
use Rattle.ipa_logic.specs.Requests.{IsDo}
use Rattle.ipa_logic.specs.Facts.{IsStateOf, has}
use Rattle.ipa_logic.specs.declared.facts.Fact.{Fact}
use Rattle.ipa_logic.specs.declared.facts.Request.TheVariants.{Do, Show}
use Rattle.ipa_history.specs.Answers.{is_shown, next_operation}
use Rattle.ipa_history.specs.Clocks.{IsClockOf}
use Rattle.ipa_history.specs.Legality.{IsLegal, IsIllegal}
use Rattle.ipa_history.specs.declared.history.Tx.{Tx}
use Rattle.ipa_history.specs.declared.reasons.Reason.{Reason}
use Rattle.ipa_sets.specs.FactSets.{true_facts, IsFactsOf}
use Rattle.ipa_sets.specs.declared.facts.Facts.{Facts}
use Rattle.ipa_gate.specs.Settings.{IsSetting}
use Rattle.ipa_session.specs.Sessions.{SessionParts, IsSession, IsNextWith, IsDecision}
use Rattle.ipa_session.specs.declared.decision.Decision.TheVariants.{Commit, Refused, Shown}
use Rattle.ipa_session.proofs.CutLemmas.{state_at, shaped_next}

module _ (p : SessionParts) (c : Cut) (op : ℕ) (args : List ℕ) (t : Tx) (next : IsNextWith p c (Op op) args t) where
  -- its next transaction is that of the operation
  pub is_operation : t ≡ next_operation p.setting.spec c p.origin op args
  is_operation = λ i. record {
    dot = next.dot i;
    cut = next.cut i;
    action = next.action_is i;
    args = next.args_are i;
    count = next.count i;
  }

  -- the first reason, where it is not legal
  pub decision_refuse : (r : Reason) →
      IsIllegal p.setting.spec p.setting.universe p.setting.base p.seen t r → IsDecision p c (Do op args) (Refused r)
  decision_refuse r illegal = record {
    answer = subst (λ (x : Tx). IsIllegal p.setting.spec p.setting.universe p.setting.base p.seen x r) is_operation illegal;
    whole = tt;
  }

  -- its next transaction, where that is legal
  pub decision_commit : (fit : IsFit p.setting.spec) (setting : IsSetting p.setting) (is : IsSession p) →
      IsClockOf p.seen c → IsDo p.setting.spec p.setting.universe op args →
      IsLegal p.setting.spec p.setting.universe p.setting.base p.seen t → IsDecision p c (Do op args) (Commit t)
  decision_commit fit setting is clock request legal = record {
    answer = record {
      numbered = ap (λ (x : Tx). x.dot.number) is_operation;
      legal = subst (λ (x : Tx). IsLegal p.setting.spec p.setting.universe p.setting.base p.seen x) is_operation legal;
    };
    whole = record {
      operation = is_operation;
      lawful = record {
        next = record {
          dot = next.dot;
          cut = next.cut;
          shaped = shaped_next p fit setting is c clock (Op op) args t next request.declared request.arguments;
        };
        legal = legal;
      };
    };
  }

-- on a question the true facts that were asked for
pub decision_show : (p : SessionParts) (fit : IsFit p.setting.spec) (setting : IsSetting p.setting) (is : IsSession p)
    (c : Cut) (clock : IsClockOf p.seen c) (facts : Facts) (are : IsFactsOf p.setting.spec p.setting.base p.seen facts)
    (predicate : ℕ) (places : List (Option ℕ)) (shown : List Fact) →
    IsStateOf (λ f. has (true_facts facts) f && is_shown predicate places f) shown →
    IsDecision p c (Show predicate places) (Shown shown)
decision_show p fit setting is c clock facts are predicate places shown told = record {
  answer = record {
    rising = told.rising;
    facts = λ f. told.facts f ∙ ap (λ (b : Bool). b && is_shown predicate places f)
        ((state_at p fit setting is c clock facts are).facts f);
  };
  whole = tt;
}
