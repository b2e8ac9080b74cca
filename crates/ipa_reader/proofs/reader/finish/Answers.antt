use Rattle.std.proofs.Common.{sym, subst}
use Rattle.ipa_logic.specs.Facts.{has, IsStateOf}
use Rattle.ipa_reader.specs.Setups.{IsSetup}
use Rattle.ipa_reader.proofs.FinishLemmas.{setup_fits, setup_fitting}
use Rattle.ipa_reader.proofs.reader.finish.Goals as goal

pub invariant_of-result : goal.invariant_of-result
invariant_of-result c = record {
  fits = subst (λ elements. IsSetup c.universe_of-universe.result.sizes elements c.args.standing.arranged.replicas c.args.standing.arranged.sessions) (sym c.in_ok-elements.ensures)
      (setup_fits c.args.standing c.universe_of-universe.result.sizes c.requires.read.within c.universe_of-universe.ensures);
}

pub invariant_of-result-2-clause-fitting : goal.invariant_of-result-2-clause-fitting
invariant_of-result-2-clause-fitting c =
    setup_fitting c.args.standing _ _ _ _ c.requires.read.within c.in_ok-spec.ensures c.universe_of-universe.ensures c.in_ok-elements.ensures (subst (λ facts. IsStateOf (has facts) c.in_ok-base.base) c.as_slice.ensures c.in_ok-base.ensures)
