use Rattle.std.proofs.Common.{[]}
use Rattle.ipa_ground.specs.Enumeration.{numbers}
use Rattle.ipa_repair.specs.Chosen.{Gains}
use Rattle.ipa_repair.specs.Candidates.{Clashes}
use Rattle.ipa_repair.proofs.reporting.reported_clauses.Given as goal

abbrev pub invariant-loop-number : goal.invariant-loop-number
invariant-loop-number l = Gains (Clashes l.spec l.left l.right) (numbers l.number) [] l.reported
