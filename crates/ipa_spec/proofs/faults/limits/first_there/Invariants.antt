use Rattle.std.proofs.Common.{◌≡◌, drop}
use Rattle.ipa_spec.specs.Limits.{first_there}
use Rattle.ipa_spec.proofs.faults.limits.first_there.Given as goal

-- none of the options so far is there
abbrev pub invariant-loop-fault : goal.invariant-loop-fault
invariant-loop-fault l = first_there l.faults ≡ first_there (drop l.fault-index l.faults)
