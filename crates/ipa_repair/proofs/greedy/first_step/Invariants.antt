use Rattle.std.proofs.Common.{◌≡◌, ℕ, ◌<◌, Some}
use Rattle.std.specs.List.{slice_get}
use Rattle.ipa_repair.specs.Greedy.{LessensNothing}
use Rattle.ipa_repair.specs.declared.pairs.Pair.{Pair}
use Rattle.ipa_repair.proofs.greedy.first_step.Given as goal

abbrev pub invariant-loop-pair : goal.invariant-loop-pair
invariant-loop-pair l = (n : ℕ) (p : Pair) → n < l.pair-index → slice_get l.pairs n ≡ Some p → LessensNothing l.spec p
