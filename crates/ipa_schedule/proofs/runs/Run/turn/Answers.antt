use Rattle.std.proofs.Common.{ap}
use Rattle.ipa_schedule.specs.Runs.{RunState}
use Rattle.ipa_schedule.proofs.Closing.{unless_from}
use Rattle.ipa_schedule.proofs.runs.Run.turn.Goals as goal

pub returns-clause-fates : goal.returns-clause-fates
returns-clause-fates g c = unless_from _ _ c.args.weathers.now.items c.turn_of.new.weathers.items
    c.self.inside.progress.fates c.args.self.now.run.fates c.turn_of.new.progress.fates c.turn_of.result
    (ap (λ (s : RunState). s.run.fates) c.self.view_is) c.turn_of.ensures.fates
