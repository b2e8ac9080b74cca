use Rattle.std.proofs.Common.{◌≡◌, ◌++◌, take}
use Rattle.ipa_frame.specs.Frames.{short_numbers}
use Rattle.ipa_frame.proofs.writing.push_short_numbers.Given as goal

abbrev pub invariant-loop-number : goal.invariant-loop-number
invariant-loop-number l = l.out.items ≡ l.fn.out.items ++ short_numbers (take l.number-index l.them)
