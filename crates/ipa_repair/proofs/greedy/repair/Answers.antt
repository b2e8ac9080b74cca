use Rattle.std.proofs.Common.{List, sym, subst}
use Rattle.ipa_repair.specs.Greedy.{Reaches}
use Rattle.ipa_repair.specs.declared.steps.RepairStep.{RepairStep}
use Rattle.ipa_repair.proofs.GreedyLemmas.{Reaches-start}
use Rattle.ipa_repair.proofs.greedy.repair.Goals as goal

pub returns-clause-repaired : goal.returns-clause-repaired
returns-clause-repaired g c =
    c.in_ok-repaired.ensures c.args.spec
    (subst (λ (xs : List RepairStep). Reaches c.args.spec xs c.args.spec) (sym c.new.ensures) (Reaches-start c.args.spec))
