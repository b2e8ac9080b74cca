use Rattle.std.proofs.Common.{◌≡◌, take}
use Rattle.ipa_reader.proofs.element_lists.element_index.Given as goal

-- the lists so far have their index
abbrev pub invariant-loop-names : goal.invariant-loop-names
invariant-loop-names l = l.all ≡ take l.names-index l.elements
