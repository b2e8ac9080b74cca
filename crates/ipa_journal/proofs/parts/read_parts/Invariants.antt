use Rattle.std.proofs.Common.{◌≡◌, ◌++◌, length}
use Rattle.ipa_journal.specs.Parts.{words_of}
use Rattle.ipa_journal.proofs.parts.read_parts.Given as goal

-- the words so far are those of the parts
abbrev pub invariant-words : goal.invariant-words
invariant-words l = l.initial.words ≡ words_of l.parts ++ l.words

abbrev pub decreases-words : goal.decreases-words
decreases-words l = length l.words
