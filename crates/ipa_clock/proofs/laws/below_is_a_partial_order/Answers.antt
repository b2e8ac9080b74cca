use Rattle.ipa_clock.specs.Lemmas.{below_refl, below_trans, below_antisym, empty_below}
use Rattle.ipa_clock.proofs.laws.below_is_a_partial_order.Goals as goal

pub returns : goal.returns
returns c = record { reflexive = below_refl; transitive = below_trans; antisymmetric = below_antisym; empty = empty_below }
