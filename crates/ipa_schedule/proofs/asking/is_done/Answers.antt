use Rattle.std.proofs.Common.{◌≡◌, ◌<◌, ◌≤◌, arith}
use Rattle.ipa_schedule.proofs.Asked.{done_more, done_all, one_left}
use Rattle.ipa_schedule.proofs.asking.is_done.Goals as goal

pub returns-in-Some : goal.returns-in-Some
returns-in-Some c =
    let there = c.loop-session-test.true in
    let all = c.sessions-session-end.ensures in
    one_left c.args.world.now c.loop-session.session _ (omega (arith, there, all)) c.in-Some.ensures

pub loop-session-preserved : goal.loop-session-preserved
loop-session-preserved c =
    done_more c.args.world.now c.loop-session.session c.in_default.ensures c.loop-session.invariant

pub returns : goal.returns
returns c =
    let end = c.loop-session-test.false in
    let all = c.sessions-session-end.ensures in
    done_all c.args.world.now c.loop-session.session (omega (arith, end, all)) c.loop-session.invariant
