use Rattle.std.specs.List.{flat_map}
use Rattle.ipa_ground.specs.Enumeration.{numbers}
use Rattle.ipa_repair.specs.Chosen.{Gains}
use Rattle.ipa_repair.specs.Offers.{ClearsAsTwo, twos_from}
use Rattle.ipa_repair.specs.Trying.{tried_of}
use Rattle.ipa_repair.proofs.trying.push_twos.Given as goal

abbrev pub invariant-loop-place : goal.invariant-loop-place
invariant-loop-place l = Gains (ClearsAsTwo l.spec l.left l.right) (flat_map (twos_from (tried_of l.tried)) (numbers l.place)) l.initial.offers l.offers
