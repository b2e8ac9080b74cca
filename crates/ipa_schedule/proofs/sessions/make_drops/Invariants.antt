use Rattle.std.proofs.Common.{◌-◌, length}
use Rattle.ipa_gate.specs.Logs.{most}
use Rattle.ipa_schedule.proofs.Ways.{entries_at}
use Rattle.ipa_schedule.proofs.Dropping.{IsFalling}
use Rattle.ipa_schedule.proofs.sessions.make_drops.Given as goal

abbrev pub invariant-drops : goal.invariant-drops
invariant-drops l = IsFalling l.initial.world l.initial.progress l.session l.world l.progress

abbrev pub decreases-drops : goal.decreases-drops
decreases-drops l = most - length (entries_at l.world l.session)
