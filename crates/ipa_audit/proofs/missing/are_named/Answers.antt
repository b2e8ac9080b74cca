use Rattle.std.proofs.Common.{sym, ◌∙◌}
use Rattle.ipa_audit.proofs.CommitLemmas.{named_more, all_named, one_unlisted}
use Rattle.ipa_audit.proofs.missing.are_named.Goals as goal

pub loop-tx-preserved : goal.loop-tx-preserved
loop-tx-preserved c = named_more c.args.entries.now c.args.commits.now.keys c.loop-tx.tx-index _ c.loop-tx-test.true
    (sym c.is_named.ensures ∙ c.if-not-is_named.false) c.loop-tx.invariant

pub returns-then-not-is_named : goal.returns-then-not-is_named
returns-then-not-is_named c = one_unlisted c.args.entries.now c.args.commits.now.keys c.loop-tx.tx-index _ c.loop-tx-test.true
    (sym c.is_named.ensures ∙ c.if-not-is_named.true)

pub returns : goal.returns
returns c = all_named c.args.entries.now c.args.commits.now.keys c.loop-tx.tx-index c.loop-tx-test.false c.loop-tx.invariant
