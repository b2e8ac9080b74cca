use Rattle.std.proofs.Common.{◌≡◌, ◌+◌, ◌-◌, List, vec_len}
use Rattle.ipa_spec.specs.declared.names.Name.{Name}
use Rattle.ipa_reader.specs.Arrangements.{elements_at, with_more}
use Rattle.ipa_reader.proofs.element_lists.padded.Given as goal

-- empty lists change no list, and nothing of what more names give
abbrev pub invariant-padding : goal.invariant-padding
invariant-padding l = record {
  own : elements_at l.lists.items l.number ≡ elements_at l.initial.lists.items l.number;
  more : (names : List Name) → with_more l.number names l.lists.items ≡ with_more l.number names l.initial.lists.items;
}

abbrev pub decreases-padding : goal.decreases-padding
decreases-padding l = l.number + 1 - vec_len l.lists
