use Rattle.std.proofs.Common.{◌≡◌, ◌++◌, take}
use Rattle.std.specs.List.{flat_map}
use Rattle.ipa_journal.specs.Naming.{fact_pieces}
use Rattle.ipa_journal.proofs.naming.push_each_fact.Given as goal

-- the facts so far stand behind the pieces before
abbrev pub invariant-loop-fact : goal.invariant-loop-fact
invariant-loop-fact l =
    l.pieces ≡ l.initial.pieces ++ flat_map (fact_pieces l.spec l.elements) (take l.fact-index l.facts)
