use Rattle.std.proofs.Common.{take}
use Rattle.ipa_names.specs.Scopes.{AreIndexed}
use Rattle.ipa_names.proofs.variables.sorts_by_name.Given as goal

-- the variables so far are indexed
abbrev pub invariant-loop-variable : goal.invariant-loop-variable
invariant-loop-variable l = AreIndexed (take l.variable-index l.vars) l.sorts.entries
