use Rattle.std.proofs.Common.{refl, ◌∙◌, [], ◌∷◌}
use Rattle.ipa_repair.specs.Showing.{IsClash, clash}
use Rattle.ipa_repair.proofs.ChosenLemmas.{gains-start, gains-more}
use Rattle.ipa_repair.proofs.changing.push_clashes_of_pair.Goals as goal

pub loop-number-init : goal.loop-number-init
loop-number-init c = (gains-start (IsClash c.args.next.now) (λ k. clash c.args.left c.args.right k ∷ []) c.args.found.now, refl)

pub loop-number-preserved : goal.loop-number-preserved
loop-number-preserved c = (
  gains-more (IsClash c.args.next.now) (λ k. clash c.args.left c.args.right k ∷ []) c.loop-number.number _ _ _ c.loop-number.invariant.0 c.in_ok-push_clash.ensures.gains,
  c.push_clash.ensures.same ∙ c.loop-number.invariant.1,
)
