use Rattle.std.proofs.Common.{sym}
use Rattle.ipa_lift.specs.CutLaws.{top_is_plain}
use Rattle.ipa_lift.proofs.law_top_is_plain.Goals as goal

pub returns : goal.returns
returns c f = top_is_plain c.args.spec.now c.args.base.now c.args.history.now c.args.tx.now
    (record { below = c.requires.closed.below; own = sym c.requires.next }) f
