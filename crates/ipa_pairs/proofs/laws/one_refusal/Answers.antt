use Rattle.ipa_pairs.proofs.OneAnalysisLemmas.{one-wide}
use Rattle.ipa_pairs.proofs.laws.one_refusal.Goals as goal

pub returns : goal.returns
returns c = record {
  too_wide = one-wide;
  apart = λ s t count a h k. k.narrow.narrow t h.in_question h.too_wide;
}
