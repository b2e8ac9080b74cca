use Rattle.std.proofs.Common.{◌≡◌, map, take}
use Rattle.ipa_repair.specs.Showing.{clash_of}
use Rattle.ipa_repair.proofs.clashes.triples_of.Given as goal

abbrev pub invariant-loop-conflict : goal.invariant-loop-conflict
invariant-loop-conflict l = l.triples ≡ map clash_of (take l.conflict-index l.conflicts)
