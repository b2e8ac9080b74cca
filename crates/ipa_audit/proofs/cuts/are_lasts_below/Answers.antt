use Rattle.std.proofs.Common.{below_more}
use Rattle.ipa_audit.proofs.cuts.are_lasts_below.Goals as goal

pub loop-origin-preserved : goal.loop-origin-preserved
loop-origin-preserved c =
    below_more _ _ c.loop-origin.invariant (c.is_last_below.ensures.0 c.if-not-is_last_below.false)
