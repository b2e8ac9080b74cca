use Rattle.ipa_lift.specs.Lift.{meeting_keeps}
use Rattle.ipa_lift.proofs.law_no_meeting_conflict_keeps.Goals as goal

pub returns : goal.returns
returns c = meeting_keeps c.args.spec.now c.spec_is_fit.ensures.fit
    c.args.universe.now.sizes c.args.base.now c.args.history.now c.requires.legal c.requires.apart c.args.cut.now c.requires.closed
