use Rattle.std.proofs.Common.{◌≡◌, ◌++◌, take}
use Rattle.ipa_spec.specs.Actions.{sorts_of_vars}
use Rattle.ipa_pairs.proofs.sorts.Sorts.push_vars.Given as goal

-- the sorts of the variables so far are appended
abbrev pub invariant-loop-var : goal.invariant-loop-var
invariant-loop-var l = l.self ≡ l.initial.self ++ sorts_of_vars (take l.var-index l.vars)
