use Rattle.ipa_repair.proofs.ShownLemmas.{told_clause-first, told_clause-second}
use Rattle.ipa_repair.proofs.reporting.is_reported.Goals as goal

pub returns-then-is_clash : goal.returns-then-is_clash
returns-then-is_clash c =
    rw c.if-is_clash.true (told_clause-first c.args.spec.now c.args.left c.args.right c.args.number c.if-is_clash.ensures)

pub returns-else-is_clash : goal.returns-else-is_clash
returns-else-is_clash c =
    told_clause-second c.args.spec.now c.args.left c.args.right c.args.number c.is_clash-else-is_clash.result c.if-is_clash.ensures
    c.is_clash-else-is_clash.ensures
