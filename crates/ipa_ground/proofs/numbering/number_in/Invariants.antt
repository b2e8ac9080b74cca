use Rattle.std.proofs.Common.{◌≡◌, ◌^◌, ◌<◌, take}
use Rattle.ipa_ground.specs.Places.{tuple_place}
use Rattle.ipa_ground.proofs.PlaceLemmas.{first_sizes}
use Rattle.ipa_ground.proofs.numbering.number_in.Given as goal

abbrev pub invariant-loop-place : goal.invariant-loop-place
invariant-loop-place l = (l.number ≡ tuple_place (first_sizes l.universe.sizes l.predicate l.place) (take l.place l.fact.args)) × (l.number < 16 ^ l.place)
