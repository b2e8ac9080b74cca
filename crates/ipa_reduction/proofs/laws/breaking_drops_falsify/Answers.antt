use Rattle.ipa_reduction.specs.Cases.{drop_universe, drop_args, drop_values}
use Rattle.ipa_reduction.proofs.FalsifyLemmas.{break-falsifies, break-can}
use Rattle.ipa_reduction.proofs.laws.breaking_drops_falsify.Goals as goal

pub returns : goal.returns
returns c = record {
  clauses = break-can;
  patterns = λ s n k b clause classes g h.
      break-falsifies s n k b clause (drop_universe s n clause classes) (drop_args s n classes) (drop_values s n clause classes) h.before g h.break;
}
