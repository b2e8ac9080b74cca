use Rattle.std.proofs.Common.{sym, ◌∙◌}
use Rattle.std.proofs.lemmas.Bool.{false≢true}
use Rattle.ipa_history.specs.Closings.{IsBelowIfCovered}
use Rattle.ipa_gate.proofs.CutLemmas.{open_found, below_all}
use Rattle.ipa_gate.proofs.WalkLemmas.{one_more}
use Rattle.ipa_gate.proofs.cuts.first_open.Goals as goal

pub returns-then-not-is_below_if_covered : goal.returns-then-not-is_below_if_covered
returns-then-not-is_below_if_covered c =
    open_found c.args.history.now c.as_slice-tx-items.result.now c.args.cut.now c.loop-tx.tx-index _
    c.as_slice-tx-items.ensures.history c.loop-tx-test.true
    (λ b. false≢true (sym c.if-not-is_below_if_covered.true ∙ c.is_below_if_covered.ensures.1 b)) c.loop-tx.invariant

pub loop-tx-preserved : goal.loop-tx-preserved
loop-tx-preserved c =
    one_more (IsBelowIfCovered c.args.cut.now) c.as_slice-tx-items.result.now c.loop-tx.tx-index _ c.loop-tx-test.true
    (c.is_below_if_covered.ensures.0 c.if-not-is_below_if_covered.false) c.loop-tx.invariant

pub returns : goal.returns
returns c =
    below_all c.args.history.now c.as_slice-tx-items.result.now c.args.cut.now c.loop-tx.tx-index
    c.as_slice-tx-items.ensures.history c.loop-tx-test.false c.loop-tx.invariant
