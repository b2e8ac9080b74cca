use Rattle.ipa_history.specs.Histories.{IsMember}
use Rattle.ipa_gate.proofs.AgreementLemmas.{divergence_found, all_there}
use Rattle.ipa_gate.proofs.WalkLemmas.{one_more}
use Rattle.ipa_gate.proofs.pulls.first_parted.Goals as goal

pub returns-in-Some : goal.returns-in-Some
returns-in-Some c =
    divergence_found c.args.index.now.entries c.args.seen.now c.as_slice-tx-items.result.now c.loop-tx.tx-index
    c.as_slice-tx-items.ensures.history c.loop-tx.invariant _ c.in-Some.diverged c.loop-tx-test.true c.in-Some.ensures

pub loop-tx-preserved : goal.loop-tx-preserved
loop-tx-preserved c =
    one_more (IsMember c.args.index.now.entries) c.as_slice-tx-items.result.now c.loop-tx.tx-index _
    c.loop-tx-test.true c.in_default.ensures c.loop-tx.invariant

pub returns : goal.returns
returns c =
    all_there c.args.index.now.entries c.args.seen.now c.as_slice-tx-items.result.now c.loop-tx.tx-index
    c.as_slice-tx-items.ensures.history c.loop-tx.invariant c.loop-tx-test.false
