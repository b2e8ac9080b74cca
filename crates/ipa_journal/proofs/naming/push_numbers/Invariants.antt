use Rattle.std.proofs.Common.{◌≡◌, ◌++◌, map, take}
use Rattle.ipa_journal.specs.declared.pieces.Piece.TheVariants.{Number}
use Rattle.ipa_journal.proofs.naming.push_numbers.Given as goal

-- the numbers so far stand behind the pieces before
abbrev pub invariant-loop-number : goal.invariant-loop-number
invariant-loop-number l = l.pieces ≡ l.initial.pieces ++ map Number (take l.number-index l.numbers)
