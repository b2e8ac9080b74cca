use Rattle.std.proofs.Common.{◌≡◌, ◌++◌, take}
use Rattle.ipa_frame.specs.Frames.{numbers}
use Rattle.ipa_frame.proofs.writing.push_numbers.Given as goal

abbrev pub invariant-loop-number : goal.invariant-loop-number
invariant-loop-number l = l.out.items ≡ l.fn.out.items ++ numbers (take l.number-index l.them)
