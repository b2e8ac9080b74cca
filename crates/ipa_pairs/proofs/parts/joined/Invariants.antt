use Rattle.std.proofs.Common.{◌≡◌, List}
use Rattle.std.specs.List.{flat_map}
use Rattle.ipa_pairs.specs.declared.analysis.Conflict.{Conflict as Example}
use Rattle.ipa_pairs.proofs.parts.joined.Given as goal

-- the examples of the parts so far
abbrev pub invariant-loop-part : goal.invariant-loop-part
invariant-loop-part l = l.found.items ≡ flat_map (λ (part : List Example). part) l.yielded
