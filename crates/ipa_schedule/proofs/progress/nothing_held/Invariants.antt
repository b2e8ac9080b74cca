use Rattle.std.specs.Prelude.{◌≡◌, [], replicate}
use Rattle.ipa_schedule.proofs.progress.nothing_held.Given as goal

abbrev pub invariant-loop-link : goal.invariant-loop-link
invariant-loop-link l = l.held.items ≡ replicate l.link []
