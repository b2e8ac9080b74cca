use Rattle.std.proofs.Common.{◌≡◌, take}
use Rattle.ipa_reader.proofs.element_lists.lists_of.Given as goal

-- the lists so far are copied
abbrev pub invariant-loop-names : goal.invariant-loop-names
invariant-loop-names l = l.all ≡ take l.names-index l.elements
