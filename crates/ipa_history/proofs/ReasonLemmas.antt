-- The reason against a transaction at its cut, by the reason between the states around it.
use Rattle.std.proofs.Common.{◌≡◌, List, Option, Some, None, subst}
use Rattle.std.specs.Prelude.{MatchOption}
use Rattle.ipa_spec.specs.declared.specification.Specification.{Specification}
use Rattle.ipa_logic.specs.Facts.{Universe}
use Rattle.ipa_logic.specs.declared.facts.Fact.{Fact}
use Rattle.ipa_history.specs.Histories.{members_of}
use Rattle.ipa_history.specs.Legality.{IsLegalAs, IsReasonAs, IsLegal, IsIllegal}
use Rattle.ipa_history.specs.Faults.{IsAround}
use Rattle.ipa_history.specs.declared.history.Tx.{Tx}
use Rattle.ipa_history.specs.declared.reasons.Reason.{Reason}

pub reason_found : (s : Specification) (universe : Universe) (base : List Fact) (h : List Tx) (t : Tx)
    (members : List Tx)
    (before after : List Fact) (r : Option Reason) → members ≡ members_of h t.cut → IsAround s base h t before after →
    MatchOption r (IsLegalAs t.action s universe members t before after)
    (IsReasonAs t.action s universe members t before after) →
    MatchOption r (IsLegal s universe base h t) (IsIllegal s universe base h t)
reason_found s universe base h t members before after None same around is = record {
  before = before;
  after = after;
  state_before = around.state_before;
  state_after = around.state_after;
  legal = subst (λ (ms : List Tx). IsLegalAs t.action s universe ms t before after) same is;
}
reason_found s universe base h t members before after (Some r) same around is = record {
  before = before;
  after = after;
  state_before = around.state_before;
  state_after = around.state_after;
  reason = subst (λ (ms : List Tx). IsReasonAs t.action s universe ms t before after r) same is;
}
