use Rattle.ipa_reduction.specs.Cases.{drop_sorts}
use Rattle.ipa_reduction.proofs.SizesLemmas.{AreConstants-counts, AreSmall-pattern}
use Rattle.ipa_reduction.proofs.DropsLemmas.{few-drop, sorts-drop, drop-arguments}
use Rattle.ipa_reduction.proofs.laws.patterns_of_drops_fit.Goals as goal

pub returns : goal.returns
returns c = record {
  constants = λ s fit. AreConstants-counts s fit;
  few = λ s n k clause fit g. few-drop s fit n k clause g;
  sorts = λ s n k clause fit g. sorts-drop s fit n k clause g;
  small = λ s n k clause classes fit g is. AreSmall-pattern s fit (drop_sorts s n clause) classes (few-drop s fit n k clause g);
  arguments = λ s n k clause classes fit g is. drop-arguments s fit n k clause g classes is;
}
