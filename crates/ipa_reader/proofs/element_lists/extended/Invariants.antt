use Rattle.std.proofs.Common.{◌≡◌, ◌++◌, take}
use Rattle.ipa_reader.proofs.element_lists.extended.Given as goal

-- the names so far stand behind the own ones
abbrev pub invariant-loop-name : goal.invariant-loop-name
invariant-loop-name l = l.all ≡ l.initial.all ++ take l.name-index l.names
