use Rattle.std.proofs.Common.{◌≡◌, ◌++◌}
use Rattle.std.specs.List.{flat_map}
use Rattle.ipa_ground.specs.Enumeration.{numbers}
use Rattle.ipa_repair.specs.Candidates.{parameter_if}
use Rattle.ipa_repair.proofs.choices.push_parameters.Given as goal

abbrev pub invariant-loop-number : goal.invariant-loop-number
invariant-loop-number l = l.args ≡ l.initial.args ++ flat_map (parameter_if l.params l.sort) (numbers l.number)
