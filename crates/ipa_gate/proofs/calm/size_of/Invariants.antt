use Rattle.std.proofs.Common.{◌≡◌, ◌*◌, ◌≤◌, take}
use Rattle.std.specs.List.{sum}
use Rattle.ipa_gate.proofs.calm.size_of.Given as goal

abbrev pub invariant-loop-origin : goal.invariant-loop-origin
invariant-loop-origin l = record {
  counted : l.members ≡ sum (take l.origin l.cut.counts);
  small : l.members ≤ l.origin * 4294967295;
}
