use Rattle.std.specs.List.{flat_map}
use Rattle.ipa_ground.specs.Enumeration.{numbers}
use Rattle.ipa_repair.specs.Chosen.{Gains}
use Rattle.ipa_repair.specs.Offers.{ClearsAsTwo, two_at}
use Rattle.ipa_repair.specs.Trying.{tried_of}
use Rattle.ipa_repair.proofs.trying.push_twos_from.Given as goal

abbrev pub invariant-loop-later : goal.invariant-loop-later
invariant-loop-later l = Gains (ClearsAsTwo l.spec l.left l.right) (flat_map (two_at (tried_of l.tried) l.place) (numbers l.later)) l.initial.offers l.offers
