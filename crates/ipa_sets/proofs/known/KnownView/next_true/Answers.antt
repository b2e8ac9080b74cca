use Rattle.ipa_sets.proofs.PlaceLemmas.{next-place}
use Rattle.ipa_sets.proofs.known.KnownView.next_true.Goals as goal

pub returns-clause-value : goal.returns-clause-value
returns-clause-value c = next-place c.args.predicate c.args.after c.args.self.now.facts.items c.as_slice-facts.result.now c.place_above.result
    c.as_slice-facts.ensures.value c.args.self.now.rising c.place_above.ensures c.next_at.result c.next_at.ensures
