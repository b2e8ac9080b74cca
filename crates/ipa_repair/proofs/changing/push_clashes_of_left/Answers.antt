use Rattle.std.proofs.Common.{refl, ◌∙◌, subst}
use Rattle.ipa_spec.specs.declared.operations.Action.{Action}
use Rattle.ipa_repair.specs.Chosen.{Gains}
use Rattle.ipa_repair.specs.Greedy.{action_at}
use Rattle.ipa_repair.specs.Showing.{IsClash, clashes_of_pair}
use Rattle.ipa_repair.proofs.ChosenLemmas.{gains-start, gains-more}
use Rattle.ipa_repair.proofs.changing.push_clashes_of_left.Goals as goal

pub loop-place-init : goal.loop-place-init
loop-place-init c = (gains-start (IsClash c.args.next.now) (λ j. clashes_of_pair c.args.next.now c.args.left (action_at c.args.next.now j)) c.args.found.now, refl)

pub loop-place-preserved : goal.loop-place-preserved
loop-place-preserved c = (
  gains-more (IsClash c.args.next.now) (λ j. clashes_of_pair c.args.next.now c.args.left (action_at c.args.next.now j)) c.loop-place.place _ _ _
      c.loop-place.invariant.0
      (subst (λ (a : Action). Gains (IsClash c.args.next.now) (clashes_of_pair c.args.next.now c.args.left a) c.loop-place.found c.push_clashes_of_pair.new.found)
      c.action_at-right.ensures c.in_ok-push_clashes_of_pair.ensures.gains),
  c.push_clashes_of_pair.ensures.same ∙ c.loop-place.invariant.1,
)
