use Rattle.ipa_schedule.proofs.Gone.{gone_none, gone_as}
use Rattle.ipa_schedule.proofs.Passing.{unless_always}
use Rattle.ipa_schedule.proofs.playing.take_turn.Goals as goal

pub returns-in-Session-clause-gone : goal.returns-in-Session-clause-gone
returns-in-Session-clause-gone g c = unless_always c.session_turn.result _
    (gone_as _ _ c.args.weathers.now.items c.args.weathers.now.items c.args.progress.now.fates c.args.progress.now.fates
    c.session_turn.new.progress.fates (gone_none _ _ c.args.weathers.now.items c.args.progress.now.fates)
    c.session_turn.ensures.fates)
