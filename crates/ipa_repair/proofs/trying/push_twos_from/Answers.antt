use Rattle.ipa_repair.specs.Offers.{ClearsAsTwo, two_at}
use Rattle.ipa_repair.specs.Trying.{tried_of}
use Rattle.ipa_repair.proofs.ChosenLemmas.{gains-start, gains-more}
use Rattle.ipa_repair.proofs.trying.push_twos_from.Goals as goal

pub loop-later-init : goal.loop-later-init
loop-later-init c = gains-start (ClearsAsTwo c.args.spec.now c.args.left c.args.right) (two_at (tried_of c.args.tried.now) c.args.place) c.args.offers.now

pub loop-later-preserved : goal.loop-later-preserved
loop-later-preserved c = gains-more (ClearsAsTwo c.args.spec.now c.args.left c.args.right) (two_at (tried_of c.args.tried.now) c.args.place) c.loop-later.later _ _ _ c.loop-later.invariant c.in_ok-push_two_at.ensures
