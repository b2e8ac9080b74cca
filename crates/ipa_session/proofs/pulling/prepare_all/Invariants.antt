use Rattle.std.proofs.Common.{List, take}
use Rattle.ipa_logic.specs.declared.facts.Fact.{Fact}
use Rattle.ipa_history.specs.Histories.{IsMember}
use Rattle.ipa_history.specs.declared.history.Tx.{Tx}
use Rattle.ipa_sets.specs.FactSets.{IsFactsOf, IsReadyFor}
use Rattle.ipa_session.proofs.pulling.prepare_all.Given as goal

abbrev pub invariant-loop-tx : goal.invariant-loop-tx
invariant-loop-tx l = record {
  ready : (t : Tx) → IsMember (take l.tx-index l.news) t → IsReadyFor l.spec t l.facts;
  same : (base : List Fact) (taken : List Tx) → IsFactsOf l.spec base taken l.fn.facts → IsFactsOf l.spec base taken l.facts;
}
