use Rattle.std.proofs.Common.{◌≡◌, ◌++◌, length}
use Rattle.ipa_forms.specs.Parts.{separator_word}
use Rattle.ipa_forms.specs.JoiningLaws.{followed}
use Rattle.ipa_forms.proofs.reading.lists.read_joined.Given as goal

-- the words so far are the members, each with a separator behind it
abbrev pub invariant-loop-members : goal.invariant-loop-members
invariant-loop-members g l = l.initial.words ≡ followed g.M.Member.said (separator_word l.separator) l.members ++ l.words

abbrev pub decreases-loop-members : goal.decreases-loop-members
decreases-loop-members g l = length l.words
