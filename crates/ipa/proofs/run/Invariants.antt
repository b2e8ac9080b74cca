use Rattle.std.specs.Prelude.{◌≡◌, length}
use Rattle.ipa.proofs.run.Given as goal

abbrev pub invariant-loop-link : goal.invariant-loop-link
invariant-loop-link g l = length l.weathers.items ≡ l.link
