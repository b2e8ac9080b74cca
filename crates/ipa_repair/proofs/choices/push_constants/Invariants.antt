use Rattle.std.proofs.Common.{◌≡◌, ◌++◌}
use Rattle.std.specs.List.{flat_map}
use Rattle.ipa_ground.specs.Enumeration.{numbers}
use Rattle.ipa_repair.specs.Candidates.{constant_if}
use Rattle.ipa_repair.proofs.choices.push_constants.Given as goal

abbrev pub invariant-loop-number : goal.invariant-loop-number
invariant-loop-number l = l.args ≡ l.initial.args ++ flat_map (constant_if l.spec l.params l.sort) (numbers l.number)
