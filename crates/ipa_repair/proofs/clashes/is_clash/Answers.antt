use Rattle.ipa_repair.proofs.ShownLemmas.{told_on}
use Rattle.ipa_repair.proofs.clashes.is_clash.Goals as goal

pub returns : goal.returns
returns c = told_on c.args.spec.now c.args.clashes.now c.requires c.args.left c.args.right c.args.number c.has_clash_on.result c.has_clash_on.ensures
