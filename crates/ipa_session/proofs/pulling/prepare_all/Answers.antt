use Rattle.std.proofs.Common.{List, [], sym, subst}
use Rattle.std.specs.Prelude.{slice_index_or}
use Rattle.std.proofs.lemmas.List.{take_more, take_all}
use Rattle.ipa_history.specs.Histories.{IsMember}
use Rattle.ipa_history.specs.declared.history.Tx.{Tx}
use Rattle.ipa_sets.specs.FactSets.{IsReadyFor}
use Rattle.ipa_session.proofs.AbsorbLemmas.{no_tx, ready_next}
use Rattle.ipa_session.proofs.pulling.prepare_all.Goals as goal

pub returns-in_err-prepare-clause-same : goal.returns-in_err-prepare-clause-same
returns-in_err-prepare-clause-same c base taken is =
    c.prepare.ensures.same c.args.spec.now base taken (c.loop-tx.invariant.same base taken is)

pub loop-tx-preserved : goal.loop-tx-preserved
loop-tx-preserved c = record {
  ready = ready_next [] c.args.news.now c.loop-tx.tx-index (slice_index_or c.args.news.now c.loop-tx.tx-index no_tx)
      (take_more c.args.news.now c.loop-tx.tx-index no_tx c.loop-tx-test.true)
      (λ t. IsReadyFor c.args.spec.now t c.loop-tx.facts) (λ t. IsReadyFor c.args.spec.now t c.prepare.new.self)
      c.prepare.ensures.kept c.loop-tx.invariant.ready c.in_ok-prepare.ensures.ready;
  same = λ base taken is. c.prepare.ensures.same c.args.spec.now base taken (c.loop-tx.invariant.same base taken is);
}

pub returns-clause-ready : goal.returns-clause-ready
returns-clause-ready c t m = c.loop-tx.invariant.ready t
    (subst (λ (zs : List Tx). IsMember zs t) (sym (take_all c.loop-tx.tx-index c.args.news.now c.loop-tx-test.false)) m)
