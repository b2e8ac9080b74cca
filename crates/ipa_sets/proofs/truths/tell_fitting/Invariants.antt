use Rattle.std.proofs.Common.{◌≡◌, ℕ, ◌<◌, length, true}
use Rattle.std.specs.Prelude.{slice_index_or}
use Rattle.ipa_logic.specs.declared.facts.Fact.{Fact}
use Rattle.ipa_sets.specs.Fitting.{fits, IsTold}
use Rattle.ipa_sets.proofs.truths.tell_fitting.Given as goal

abbrev pub invariant-loop-place : goal.invariant-loop-place
invariant-loop-place g l = record {
  long : length l.truths ≡ length l.fn.truths;
  kept : (i : ℕ) → IsTold (g.T.Test.passes l.test) l.facts l.fn.truths i → IsTold (g.T.Test.passes l.test) l.facts l.truths i;
  told : (i : ℕ) (d : Fact) → i < l.place → fits l.pattern (slice_index_or l.facts i d) ≡ true →
      IsTold (g.T.Test.passes l.test) l.facts l.truths i;
}
