use Rattle.std.proofs.Common.{◌++◌, ◌∙◌, ap}
use Rattle.ipa_schedule.specs.Schedules.{links_from}
use Rattle.ipa_schedule.proofs.Rounds.{flat_map-below}
use Rattle.ipa_schedule.proofs.round.links.Goals as goal

pub loop-from-preserved : goal.loop-from-preserved
loop-from-preserved c =
    let one = links_from c.args.replicas in
    c.in_ok-extend_from_slice.ensures.items
    ∙ ap (λ xs. c.loop-from.links.items ++ xs) (c.deref.ensures.value ∙ c.in_ok-more.ensures)
    ∙ ap (λ xs. xs ++ one c.loop-from.from) c.loop-from.invariant ∙ flat_map-below one c.loop-from.from
