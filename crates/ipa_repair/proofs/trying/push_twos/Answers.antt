use Rattle.ipa_repair.specs.Offers.{ClearsAsTwo, twos_from}
use Rattle.ipa_repair.specs.Trying.{tried_of}
use Rattle.ipa_repair.proofs.ChosenLemmas.{gains-start, gains-more}
use Rattle.ipa_repair.proofs.trying.push_twos.Goals as goal

pub loop-place-init : goal.loop-place-init
loop-place-init c = gains-start (ClearsAsTwo c.args.spec.now c.args.left c.args.right) (twos_from (tried_of c.args.tried.now)) c.args.offers.now

pub loop-place-preserved : goal.loop-place-preserved
loop-place-preserved c = gains-more (ClearsAsTwo c.args.spec.now c.args.left c.args.right) (twos_from (tried_of c.args.tried.now)) c.loop-place.place _ _ _ c.loop-place.invariant c.in_ok-push_twos_from.ensures
