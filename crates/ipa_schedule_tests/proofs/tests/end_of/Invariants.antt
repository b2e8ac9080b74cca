use Rattle.std.specs.Prelude.{◌≡◌, length}
use Rattle.ipa_schedule_tests.proofs.tests.end_of.Given as goal

abbrev pub invariant-loop-turn : goal.invariant-loop-turn
invariant-loop-turn g l = length l.weathers.items ≡ 64
