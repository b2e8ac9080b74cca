use Rattle.std.proofs.Common.{◌≡◌}
use Rattle.std.specs.List.{flat_map}
use Rattle.ipa_schedule.specs.Schedules.{below, links_from}
use Rattle.ipa_schedule.proofs.round.links.Given as goal

abbrev pub invariant-loop-from : goal.invariant-loop-from
invariant-loop-from l = l.links.items ≡ flat_map (links_from l.replicas) (below l.from)
