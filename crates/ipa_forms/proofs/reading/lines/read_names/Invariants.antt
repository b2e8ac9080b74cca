use Rattle.std.proofs.Common.{◌≡◌, ◌++◌, length, map}
use Rattle.ipa_forms.specs.Forms.{name}
use Rattle.ipa_forms.proofs.reading.lines.read_names.Given as goal

-- the words so far are these names
abbrev pub invariant-loop-words : goal.invariant-loop-words
invariant-loop-words l = l.initial.words ≡ map name l.names ++ l.words

abbrev pub decreases-loop-words : goal.decreases-loop-words
decreases-loop-words l = length l.words
