use Rattle.std.proofs.Common.{◌≡◌, ◌*◌, ◌≤◌, take}
use Rattle.std.specs.Prelude.{sum_by}
use Rattle.ipa_spec.specs.Actions.{sorts_of_vars}
use Rattle.ipa_reader.specs.Setups.{value_count}
use Rattle.ipa_reader.proofs.base.instance_count.Given as goal

abbrev pub invariant-loop-clause : goal.invariant-loop-clause
invariant-loop-clause l = record {
  is : l.total ≡ sum_by (λ c. value_count l.universe.sizes (sorts_of_vars c.vars)) (take l.clause-index l.clause-items);
  within : l.total ≤ l.clause-index * 4294967296;
}
