use Rattle.ipa_bounds.proofs.PickLemmas.{picked-youngest}
use Rattle.ipa_bounds.proofs.picks.picked_of_group.Goals as goal

pub returns : goal.returns
returns g c = picked-youngest c.args.bound.now.pick _ _ _ c.in_ok-youngest.ensures
