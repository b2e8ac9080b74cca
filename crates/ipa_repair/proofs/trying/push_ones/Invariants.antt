use Rattle.std.proofs.Common.{◌≡◌, take}
use Rattle.std.specs.List.{All}
use Rattle.ipa_repair.specs.Chosen.{Gains}
use Rattle.ipa_repair.specs.Offers.{IsClearing, alone}
use Rattle.ipa_repair.specs.Trying.{IsTold, tried_of}
use Rattle.ipa_repair.proofs.trying.push_ones.Given as goal

abbrev pub invariant-loop-candidate : goal.invariant-loop-candidate
invariant-loop-candidate l = Gains (IsClearing l.spec l.left l.right) (alone (take l.candidate-index l.candidates)) l.initial.offers l.offers × (tried_of l.tried ≡ take l.candidate-index l.candidates) × All (IsTold l.spec l.left l.right) l.tried
