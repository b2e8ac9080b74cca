use Rattle.std.proofs.Common.{sym, ◌∙◌}
use Rattle.ipa_sets.specs.Listings.{has-together, rising-together}
use Rattle.ipa_sets.proofs.listing.BothView.holds.Goals as goal

pub returns-clause-value : goal.returns-clause-value
returns-clause-value g c = c.has.ensures.value
    ∙ sym (has-together (g.V.View.facts c.args.self.now.one.now) (g.W.View.facts c.args.self.now.other.now) c.args.fact.now)

pub returns-clause-rising : goal.returns-clause-rising
returns-clause-rising g c =
    rising-together (g.V.View.facts c.args.self.now.one.now) (g.W.View.facts c.args.self.now.other.now)
    c.has.ensures.one c.has.ensures.other
