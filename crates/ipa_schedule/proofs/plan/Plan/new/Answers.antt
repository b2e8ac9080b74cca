use Rattle.std.proofs.Common.{◌≡◌, ℕ, ◌<◌, ◌^◌, List, ◌++◌, length, map, ap, sym, ◌∙◌, arith}
use Rattle.ipa_schedule.specs.Schedules.{below, links_of, round_of}
use Rattle.ipa_schedule.specs.declared.turns.Turn.{Turn}
use Rattle.ipa_schedule.specs.declared.turns.Turn.TheVariants.{Session}
use Rattle.ipa_schedule.proofs.Beginning.{round_few}
use Rattle.ipa_schedule.proofs.plan.Plan.new.Goals as goal

pub overflow_cast-len : goal.overflow_cast-len
overflow_cast-len c =
    let w = c.args.world.now in
    let sessions = c.sessions.ensures in
    let few = round_few w c.law_world_is_lawful.ensures.lawful.logs.few (omega (arith, sessions)) in
    let size = c.len.ensures in
    let same : length c.in_ok-round.round.items ≡ length (round_of w) = ap (λ (turns : List Turn). length turns)
    (c.in_ok-round.ensures ∙ ap (λ (n : ℕ). map Session (below n) ++ links_of c.replicas.result) c.sessions.ensures
    ∙ ap (λ (n : ℕ). map Session (below (length w.seats)) ++ links_of n) c.replicas.ensures) in
    omega (arith, few, size, same)
