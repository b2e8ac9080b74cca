use Rattle.std.specs.Prelude.{◌≡◌, length}
use Rattle.ipa_schedule_tests.proofs.losing.clear_weathers.Given as goal

abbrev pub invariant-loop-link : goal.invariant-loop-link
invariant-loop-link g l = length l.weathers.items ≡ l.link
