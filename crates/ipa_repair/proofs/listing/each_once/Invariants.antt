use Rattle.std.proofs.Common.{◌≡◌, [], fold, take}
use Rattle.ipa_repair.specs.Candidates.{with_candidate}
use Rattle.ipa_repair.proofs.listing.each_once.Given as goal

abbrev pub invariant-loop-candidate : goal.invariant-loop-candidate
invariant-loop-candidate l = l.candidates ≡ fold with_candidate [] (take l.candidate-index l.found)
