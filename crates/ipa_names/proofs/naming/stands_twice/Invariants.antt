use Rattle.std.proofs.Common.{◌≡◌, false, take}
use Rattle.ipa_spec.specs.Faults.{has_repeat}
use Rattle.ipa_names.proofs.naming.stands_twice.Given as goal

-- the names so far are those that are kept, and none of them stands twice
abbrev pub invariant-loop-name : goal.invariant-loop-name
invariant-loop-name l = (l.seen.keys ≡ take l.name-index l.names) × (has_repeat (λ name. name) (take l.name-index l.names) ≡ false)
