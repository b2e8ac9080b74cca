use Rattle.std.proofs.Common.{ℕ, List, [], sym, subst}
use Rattle.ipa_ground.specs.Enumeration.{numbers}
use Rattle.ipa_repair.specs.Chosen.{Gains}
use Rattle.ipa_repair.specs.Candidates.{Clashes}
use Rattle.ipa_repair.proofs.ChosenLemmas.{gains-no_number, gains-number}
use Rattle.ipa_repair.proofs.reporting.reported_clauses.Goals as goal

pub loop-number-init : goal.loop-number-init
loop-number-init c = subst (λ (xs : List ℕ). Gains (Clashes c.args.spec.now c.args.left c.args.right) (numbers 0) [] xs) (sym c.new-reported.ensures) (gains-no_number (Clashes c.args.spec.now c.args.left c.args.right) [])

pub loop-number-preserved : goal.loop-number-preserved
loop-number-preserved c = gains-number (Clashes c.args.spec.now c.args.left c.args.right) c.loop-number.number [] _ _ c.loop-number.invariant c.in_ok-push_reported.ensures
