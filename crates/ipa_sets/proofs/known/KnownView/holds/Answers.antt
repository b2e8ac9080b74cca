use Rattle.ipa_sets.proofs.PlaceLemmas.{has-split}
use Rattle.ipa_sets.proofs.known.KnownView.holds.Goals as goal

pub returns-clause-value : goal.returns-clause-value
returns-clause-value c = has-split c.args.fact.now c.args.self.now.facts.items c.as_slice-facts.result.now c.place_of.result
    c.as_slice-facts.ensures.value c.args.self.now.rising c.place_of.ensures c.is_at.result c.is_at.ensures
