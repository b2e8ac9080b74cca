use Rattle.std.proofs.Common.{List, ◌++◌, take, subst}
use Rattle.std.specs.Prelude.{slice_index_or}
use Rattle.std.proofs.lemmas.List.{take_more, take_all}
use Rattle.ipa_history.specs.declared.history.Tx.{Tx}
use Rattle.ipa_sets.specs.FactSets.{IsFactsOf}
use Rattle.ipa_session.proofs.AbsorbLemmas.{no_tx, one_more, history_next}
use Rattle.ipa_session.proofs.pulling.take_all.Goals as goal

pub loop-tx-preserved : goal.loop-tx-preserved
loop-tx-preserved c = record {
  ready = λ t m. c.take_in.ensures.kept t (c.loop-tx.invariant.ready t m);
  taken = λ base taken is history. subst (λ (zs : List Tx). IsFactsOf c.args.spec.now base zs c.take_in.new.facts)
      (one_more taken c.args.news.now c.loop-tx.tx-index (slice_index_or c.args.news.now c.loop-tx.tx-index no_tx)
      (take_more c.args.news.now c.loop-tx.tx-index no_tx c.loop-tx-test.true))
      (c.take_in.ensures.taken base (taken ++ take c.loop-tx.tx-index c.args.news.now)
      (c.loop-tx.invariant.taken base taken is history)
      (history_next taken c.args.news.now c.loop-tx.tx-index (slice_index_or c.args.news.now c.loop-tx.tx-index no_tx)
      (take_more c.args.news.now c.loop-tx.tx-index no_tx c.loop-tx-test.true) history));
}

pub returns : goal.returns
returns c base taken is history = subst (λ (zs : List Tx). IsFactsOf c.args.spec.now base (taken ++ zs) c.loop-tx.facts)
    (take_all c.loop-tx.tx-index c.args.news.now c.loop-tx-test.false) (c.loop-tx.invariant.taken base taken is history)
