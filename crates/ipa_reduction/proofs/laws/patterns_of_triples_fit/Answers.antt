use Rattle.ipa_reduction.specs.Cases.{triple_sorts}
use Rattle.ipa_reduction.proofs.SizesLemmas.{AreConstants-counts, AreSmall-pattern}
use Rattle.ipa_reduction.proofs.TriplesLemmas.{few-triple, sorts-triple, triple-arguments}
use Rattle.ipa_reduction.proofs.laws.patterns_of_triples_fit.Goals as goal

pub returns : goal.returns
returns c = record {
  constants = λ s fit. AreConstants-counts s fit;
  few = λ s left right k clause fit g. few-triple s fit left right k clause g;
  sorts = λ s left right k clause fit g. sorts-triple s fit left right k clause g;
  small = λ s left right k clause classes fit g is. AreSmall-pattern s fit (triple_sorts s left right clause) classes (few-triple s fit left right k clause g);
  arguments = λ s left right k clause classes fit g is. triple-arguments s fit left right k clause g classes is;
}
