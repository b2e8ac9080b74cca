use Rattle.std.proofs.Common.{Some, None}
use Rattle.ipa_logic.specs.EitherLaws.{either-one}
use Rattle.ipa_logic.specs.Facts.{has}
use Rattle.ipa_sets.specs.Listings.{rising-together, next-together, next-answered}
use Rattle.ipa_sets.proofs.listing.BothView.next_true.Goals as goal

pub returns-in-Some-clause-value : goal.returns-in-Some-clause-value
returns-in-Some-clause-value g c =
    let one = g.V.View.facts c.args.self.now.one.now in let other = g.W.View.facts c.args.self.now.other.now in
    next-together one other c.next_true-first.ensures.rising c.next_true.ensures.rising c.args.predicate c.args.after
    (Some c.sooner.result) (c.sooner.ensures (has one) (has other) c.args.predicate c.args.after
    (next-answered one c.next_true-first.ensures.rising c.args.predicate c.args.after c.next_true-first.result
    c.next_true-first.ensures.value)
    (next-answered other c.next_true.ensures.rising c.args.predicate c.args.after (Some c.in-Some.second)
    c.in-Some.ensures.value))

pub returns-in-Some-clause-rising : goal.returns-in-Some-clause-rising
returns-in-Some-clause-rising g c =
    rising-together (g.V.View.facts c.args.self.now.one.now) (g.W.View.facts c.args.self.now.other.now)
    c.next_true-first.ensures.rising c.next_true.ensures.rising

pub returns-in-None-clause-value : goal.returns-in-None-clause-value
returns-in-None-clause-value g c =
    let one = g.V.View.facts c.args.self.now.one.now in let other = g.W.View.facts c.args.self.now.other.now in
    next-together one other c.next_true-first.ensures.rising c.next_true.ensures.rising c.args.predicate c.args.after
    c.next_true-first.result (either-one c.args.predicate c.args.after (has one) (has other) c.next_true-first.result
    (next-answered one c.next_true-first.ensures.rising c.args.predicate c.args.after c.next_true-first.result
    c.next_true-first.ensures.value)
    (next-answered other c.next_true.ensures.rising c.args.predicate c.args.after None c.in-None.ensures.value))

pub returns-in-None-clause-rising : goal.returns-in-None-clause-rising
returns-in-None-clause-rising g c =
    rising-together (g.V.View.facts c.args.self.now.one.now) (g.W.View.facts c.args.self.now.other.now)
    c.next_true-first.ensures.rising c.next_true.ensures.rising
