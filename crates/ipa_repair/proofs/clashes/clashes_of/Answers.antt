use Rattle.ipa_repair.proofs.ShownLemmas.{clashes-from_report}
use Rattle.ipa_repair.proofs.clashes.clashes_of.Goals as goal

pub returns : goal.returns
returns c =
    clashes-from_report c.args.spec.now (c.conflicts_are_on_patterns.ensures.conflict c.args.spec.now) c.args.conflicts.now c.in_ok-clashes.clashes
    c.in_ok-clashes.ensures c.requires
