-- The literals so far have come.
use Rattle.std.proofs.Common.{take, []}
use Rattle.ipa_sat.specs.Explaining.{Gathers}
use Rattle.ipa_sat.proofs.explain.without.Given as goal

abbrev pub invariant-loop-lit : goal.invariant-loop-lit
invariant-loop-lit l = Gathers (take l.lit-index l.clause) l.but [] l.new.items
