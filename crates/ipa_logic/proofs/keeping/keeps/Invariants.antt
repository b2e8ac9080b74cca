use Rattle.ipa_logic.specs.Facts.{has}
use Rattle.ipa_logic.specs.ClauseLaws.{KeepBelow}
use Rattle.ipa_logic.proofs.keeping.keeps.Given as goal

abbrev pub invariant-loop-number : goal.invariant-loop-number
invariant-loop-number l = KeepBelow l.spec l.universe.sizes (has l.state) l.number
