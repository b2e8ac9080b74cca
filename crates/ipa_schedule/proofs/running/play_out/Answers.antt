use Rattle.ipa_schedule.proofs.Gone.{gone_as}
use Rattle.ipa_schedule.proofs.Passing.{unless_always}
use Rattle.ipa_schedule.proofs.running.play_out.Goals as goal

pub returns-clause-gone : goal.returns-clause-gone
returns-clause-gone g c = unless_always c.settle.result _
    (gone_as _ _ c.args.weathers.now.items c.play.new.weathers.items c.args.progress.now.fates c.play.new.progress.fates
    c.settle.new.progress.fates c.in_ok-play.ensures.gone c.settle.ensures.fates)
