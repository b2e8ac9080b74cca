-- What holds of the literals of each step holds of the clauses that the steps are.
use Rattle.std.proofs.Common.{◌<◌, All, List, refl}
use Rattle.std.proofs.lemmas.List.Elements.{All-map}
use Rattle.ipa_sat.specs.declared.cnf.Lit.{Lit}
use Rattle.ipa_sat.specs.declared.refutation.Step.{Step}
use Rattle.ipa_sat_tests.proofs.formulas.are_shown.Goals as goal

pub check_steps-requires : goal.check_steps-requires
check_steps-requires c = All-map (λ (x : List Lit). All (λ l. l.var < c.args.cnf.now.vars) x) (λ (s : Step). s.lits) c.args.steps.now
    (rw (← c.vars.ensures, ← c.as_slice.ensures) (c.if-are_steps_over.ensures.0 refl))
