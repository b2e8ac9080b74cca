use Rattle.std.proofs.Common.{sym, ◌∙◌}
use Rattle.ipa_repair.proofs.ShownLemmas.{told_pair-first, told_pair-second}
use Rattle.ipa_repair.proofs.pairs.pair_conflicts.Goals as goal

pub returns-then-has_clash : goal.returns-then-has_clash
returns-then-has_clash c =
    rw c.if-has_clash.true
    (told_pair-first c.args.spec.now c.args.clashes.now c.requires c.args.left c.args.right (sym c.has_clash.ensures ∙ c.if-has_clash.true))

pub returns-else-has_clash : goal.returns-else-has_clash
returns-else-has_clash c =
    told_pair-second c.args.spec.now c.args.clashes.now c.requires c.args.left c.args.right c.has_clash-else-has_clash.result
    (sym c.has_clash.ensures ∙ c.if-has_clash.false) c.has_clash-else-has_clash.ensures
