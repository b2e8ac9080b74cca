use Rattle.std.proofs.Common.{◌≡◌, length}
use Rattle.std.specs.List.{list_any}
use Rattle.ipa_forms.specs.Forms.{is_text}
use Rattle.ipa_forms.proofs.reading.has_text.Given as goal

-- a word that was passed is another text
abbrev pub invariant-loop-words : goal.invariant-loop-words
invariant-loop-words l = list_any (is_text l.wanted) l.words ≡ list_any (is_text l.wanted) l.initial.words

abbrev pub decreases-loop-words : goal.decreases-loop-words
decreases-loop-words l = length l.words
