use Rattle.std.specs.Prelude.{◌≡◌, [], replicate}
use Rattle.ipa_schedule.proofs.progress.no_fates.Given as goal

abbrev pub invariant-loop-link : goal.invariant-loop-link
invariant-loop-link l = l.fates ≡ replicate l.link []
