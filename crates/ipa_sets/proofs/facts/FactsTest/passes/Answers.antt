use Rattle.ipa_logic.specs.Facts.{has}
use Rattle.ipa_sets.specs.FactSets.{truth_of}
use Rattle.ipa_sets.specs.FactSetLaws.{told-of}
use Rattle.ipa_sets.proofs.TruthLemmas.{told-known}
use Rattle.ipa_sets.proofs.facts.FactsTest.passes.Goals as goal

pub returns-in-Some : goal.returns-in-Some
returns-in-Some c = let v = c.args.self.now in
    (told-known (has v.known.facts.items c.args.fact.now) c.in-Some.truth (truth_of v c.args.fact.now)
    (c.in-Some.ensures (truth_of v) (told-of v))).1
