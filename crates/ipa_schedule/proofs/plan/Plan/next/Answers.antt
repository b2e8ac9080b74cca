use Rattle.ipa_schedule.proofs.Planning.{gone_turn, place_within}
use Rattle.ipa_schedule.proofs.plan.Plan.next.Goals as goal

pub returns-clause-turn : goal.returns-clause-turn
returns-clause-turn c w k is =
    let plan = c.args.self.now in
    let gone = c.go_on.ensures.gone in
    gone_turn w k plan is gone.none (place_within w k plan is c.requires.some) c.go_on.result gone.turn_at
