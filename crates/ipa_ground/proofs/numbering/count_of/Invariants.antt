use Rattle.std.proofs.Common.{◌≡◌, ◌^◌, ◌≤◌}
use Rattle.ipa_ground.specs.Places.{tuple_count}
use Rattle.ipa_ground.proofs.PlaceLemmas.{first_sizes}
use Rattle.ipa_ground.proofs.numbering.count_of.Given as goal

abbrev pub invariant-loop-place : goal.invariant-loop-place
invariant-loop-place l = (l.count ≡ tuple_count (first_sizes l.universe.sizes l.predicate l.place)) × (l.count ≤ 16 ^ l.place)
