use Rattle.ipa_sets.specs.Fitting.{truth_in}
use Rattle.ipa_sets.proofs.judge.JudgeTest.passes.Goals as goal

pub returns : goal.returns
unfolding truth_in
returns c = cc
