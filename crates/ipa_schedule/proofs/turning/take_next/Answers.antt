use Rattle.std.proofs.Common.{◌+◌, List, subst}
use Rattle.ipa_history.specs.Histories.{IsMember}
use Rattle.ipa_schedule.specs.Running.{run_of}
use Rattle.ipa_schedule.specs.declared.turns.Turn.{Turn}
use Rattle.ipa_schedule.proofs.Closing.{ok_from_goes}
use Rattle.ipa_schedule.proofs.Listed.{round_turns}
use Rattle.ipa_schedule.proofs.Nearer.{turn_nearer}
use Rattle.ipa_schedule.proofs.Planning.{plan_later, plan_next, some_turn}
use Rattle.ipa_schedule.proofs.turning.take_next.Goals as goal

pub take_turn-requires-clause-turn : goal.take_turn-requires-clause-turn
take_turn-requires-clause-turn g c = round_turns c.args.world.now c.next-turn.result
    (subst (λ (turns : List Turn). IsMember turns c.next-turn.result) c.requires.plan.at.round
    c.next-turn.ensures.member)

pub returns-clause-plan : goal.returns-clause-plan
returns-clause-plan g c k is =
    let w = c.args.world.now in
    let plan = c.args.plan.now in
    let after = c.next-turn.new.self in
    plan_later w c.take_turn.new.world (k + 1) after c.take_turn.ensures.later
    (plan_next w k plan c.next-turn.result after is (some_turn w k plan is c.requires.on) c.next-turn.ensures.next)

pub returns-clause-nearer : goal.returns-clause-nearer
returns-clause-nearer g c =
    let planned = c.requires.plan in
    ok_from_goes c.take_turn.result c.take_turn.new.progress.full _ _ c.take_turn.ensures.went
    (turn_nearer (run_of c.args.world.now c.args.progress.now) planned.begun c.args.plan.now c.next-turn.result
    c.next-turn.new.self (run_of c.take_turn.new.world c.take_turn.new.progress) planned.at c.requires.on
    c.next-turn.ensures.next)
