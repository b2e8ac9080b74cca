use Rattle.ipa_sets.specs.Indexes.{IsIndexOf}
use Rattle.ipa_sets_tests.proofs.closed_cuts.played.Given as goal

abbrev pub invariant-loop-origin : goal.invariant-loop-origin
invariant-loop-origin l = IsIndexOf l.spec-inside.parts l.index
