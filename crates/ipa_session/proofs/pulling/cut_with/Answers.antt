use Rattle.std.specs.Prelude.{slice_index_or}
use Rattle.std.proofs.lemmas.List.{take_more}
use Rattle.ipa_session.proofs.AbsorbLemmas.{no_tx, origin_next, number_next, clock_next}
use Rattle.ipa_session.proofs.pulling.cut_with.Goals as goal

pub raised-raised-requires-clause-exists : goal.raised-raised-requires-clause-exists
raised-raised-requires-clause-exists c = origin_next c.args.seen.now c.args.news.now c.loop-tx.tx-index (slice_index_or c.args.news.now c.loop-tx.tx-index no_tx)
    (take_more c.args.news.now c.loop-tx.tx-index no_tx c.loop-tx-test.true) c.requires.history

pub raised-raised-requires-clause-next : goal.raised-raised-requires-clause-next
raised-raised-requires-clause-next c = number_next c.args.seen.now c.args.news.now c.loop-tx.tx-index (slice_index_or c.args.news.now c.loop-tx.tx-index no_tx)
    (take_more c.args.news.now c.loop-tx.tx-index no_tx c.loop-tx-test.true) c.requires.history
    c.loop-tx.raised c.loop-tx.invariant

pub loop-tx-preserved : goal.loop-tx-preserved
loop-tx-preserved c = clock_next c.args.seen.now c.args.news.now c.loop-tx.tx-index (slice_index_or c.args.news.now c.loop-tx.tx-index no_tx)
    (take_more c.args.news.now c.loop-tx.tx-index no_tx c.loop-tx-test.true) c.requires.history
    c.loop-tx.raised c.raised-raised.result c.loop-tx.invariant c.raised-raised.ensures
