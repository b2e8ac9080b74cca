use Rattle.std.proofs.Common.{ℕ}
use Rattle.ipa_logic.specs.Touches.{has_rule, is_add_wins}
use Rattle.ipa_sets.proofs.FillLemmas.{AreFilled}
use Rattle.ipa_sets.proofs.facts.adds_win.Given as goal

abbrev pub invariant-loop-number : goal.invariant-loop-number
invariant-loop-number l = AreFilled (λ (p : ℕ). has_rule is_add_wins l.spec p) 256 l.adds_win l.number
