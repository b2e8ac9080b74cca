use Rattle.std.proofs.Common.{◌≡◌, take}
use Rattle.std.specs.List.{flat_map}
use Rattle.ipa_repair.specs.Candidates.{literals_at}
use Rattle.ipa_repair.proofs.listing.literals_of.Given as goal

abbrev pub invariant-loop-number : goal.invariant-loop-number
invariant-loop-number l = l.literals ≡ flat_map (literals_at l.spec) (take l.number-index l.reported)
