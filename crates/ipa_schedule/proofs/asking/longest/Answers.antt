use Rattle.std.proofs.Common.{◌≡◌, ◌<◌, arith}
use Rattle.ipa_schedule.proofs.Asked.{most_more}
use Rattle.ipa_schedule.proofs.asking.longest.Goals as goal

pub loop-session-preserved : goal.loop-session-preserved
loop-session-preserved c =
    let there : c.loop-session.session < c.sessions-session-end.result = c.loop-session-test.true in
    let all = c.sessions-session-end.ensures in
    let more = most_more c.args.world.now.seats c.loop-session.session c.requests.result.now (omega (arith, there, all))
    c.requests.ensures in
    let so_far = c.loop-session.invariant in
    let count = c.len.ensures in
    let greater = c.greater-most.ensures in
    omega (arith, more, so_far, count, greater)
