use Rattle.std.proofs.Common.{◌∙◌, sym, subst}
use Rattle.ipa_history.specs.Histories.{IsHistory}
use Rattle.ipa_sets.specs.FrontLaws.{front_none, history_next}
use Rattle.ipa_sets.proofs.index.Index.of.Goals as goal

pub loop-tx-init : goal.loop-tx-init
loop-tx-init c = record {
  entries = c.new-index.ensures.entries ∙ front_none c.as_slice-tx-items.result.now;
  indexed = c.new-index.ensures.indexed c.args.spec.now;
}

pub take-requires-clause-next : goal.take-requires-clause-next
take-requires-clause-next c = history_next c.as_slice-tx-items.result.now
    (subst IsHistory (sym c.as_slice-tx-items.ensures.history) c.as_slice-tx-items.ensures.formed)
    c.loop-tx.tx-index _ c.loop-tx-test.true c.loop-tx.index.entries c.loop-tx.invariant.entries
