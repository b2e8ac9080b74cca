-- What leads to an empty clause is satisfied by no assignment.
use Rattle.ipa_sat.proofs.Grown.{IsUnsatisfiable-refutation}
use Rattle.ipa_sat.proofs.laws.refutations_are_sound.Goals as goal

pub returns : goal.returns
returns c = IsUnsatisfiable-refutation c.args.cnf.now _ c.requires
