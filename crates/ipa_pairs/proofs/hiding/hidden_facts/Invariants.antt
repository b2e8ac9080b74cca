use Rattle.std.proofs.Common.{◌≡◌, [], map, take}
use Rattle.ipa_pairs.specs.Examples.{hidden_fact, with_each}
use Rattle.ipa_pairs.proofs.hiding.hidden_facts.Given as goal

-- the facts are those of the literals so far
abbrev pub invariant-loop-literal : goal.invariant-loop-literal
invariant-loop-literal l = l.facts ≡ with_each [] (map (hidden_fact l.spec l.case.left l.case.right l.case.left_args l.case.right_args l.case.values) (take l.literal-index l.literals))
