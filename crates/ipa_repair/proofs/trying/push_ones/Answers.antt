use Rattle.std.proofs.Common.{List, [], ◌∷◌, ◌++◌, ap}
use Rattle.std.proofs.lemmas.List.Elements.{All-nil, All-push, All-same}
use Rattle.ipa_repair.specs.Offers.{IsClearing, offer_of}
use Rattle.ipa_repair.specs.Trying.{IsTold, tried_of}
use Rattle.ipa_repair.specs.declared.trying.Tried.{Tried}
use Rattle.ipa_repair.proofs.ChosenLemmas.{gains-nothing, gains-mapped}
use Rattle.ipa_repair.proofs.ClearLemmas.{tried_more}
use Rattle.ipa_repair.proofs.trying.push_ones.Goals as goal

pub loop-candidate-init : goal.loop-candidate-init
loop-candidate-init c = (
  gains-nothing (IsClearing c.args.spec.now c.args.left c.args.right) c.args.offers.now,
  ap (λ (ts : List Tried). tried_of ts) c.new-tried.ensures,
  All-same (IsTold c.args.spec.now c.args.left c.args.right) c.new-tried.result [] c.new-tried.ensures (All-nil (IsTold c.args.spec.now c.args.left c.args.right)),
)

pub loop-candidate-preserved : goal.loop-candidate-preserved
loop-candidate-preserved c = (
  gains-mapped (IsClearing c.args.spec.now c.args.left c.args.right) (λ x. offer_of (x ∷ [])) c.args.candidates.now c.loop-candidate.candidate-index _ _ _ _ c.loop-candidate-test.true c.loop-candidate.invariant.0 c.in_ok-push_one.ensures.gains,
  tried_more c.loop-candidate.tried c.push.new.self c.in_ok-push_one.field-0 c.args.candidates.now c.loop-candidate.candidate-index _ c.loop-candidate-test.true c.in_ok-push.ensures.ok c.loop-candidate.invariant.1 c.in_ok-push_one.ensures.of,
  All-same (IsTold c.args.spec.now c.args.left c.args.right) c.push.new.self (c.loop-candidate.tried ++ c.in_ok-push_one.field-0 ∷ []) c.in_ok-push.ensures.ok
      (All-push (IsTold c.args.spec.now c.args.left c.args.right) c.loop-candidate.tried c.in_ok-push_one.field-0 c.loop-candidate.invariant.2 c.in_ok-push_one.ensures.told),
)
