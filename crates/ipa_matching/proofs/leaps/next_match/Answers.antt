use Rattle.std.proofs.Common.{sym, ◌∙◌}
use Rattle.ipa_matching.specs.Matches.{is_match}
use Rattle.ipa_matching.proofs.MatchLemmas.{match-next, match-none, match-leap, leap-fewer}
use Rattle.ipa_matching.proofs.leaps.next_match.Goals as goal

pub returns-then-is_match-clause-value : goal.returns-then-is_match-clause-value
returns-then-is_match-clause-value g c =
    match-next c.args.predicate (is_match c.args.predicate c.args.places.now) (g.V.View.facts c.args.view.now) c.in-Some.ensures.rising c.loop-fact.place c.in-Some.fact c.in-Some.ensures.value (sym c.if-is_match.ensures)
    ∙ c.loop-fact.invariant

pub loop-fact-smaller : goal.loop-fact-smaller
loop-fact-smaller g c =
    leap-fewer c.args.predicate (is_match c.args.predicate c.args.places.now) (g.V.View.facts c.args.view.now) c.in-Some.ensures.rising c.loop-fact.place c.in-Some.fact c.leap.result c.in-Some.ensures.value c.leap.ensures.on

pub loop-fact-preserved : goal.loop-fact-preserved
loop-fact-preserved g c =
    sym (match-leap c.args.predicate (is_match c.args.predicate c.args.places.now) (g.V.View.facts c.args.view.now) c.in-Some.ensures.rising c.loop-fact.place c.in-Some.fact c.leap.result c.in-Some.ensures.value (sym c.if-is_match.ensures) c.leap.ensures.on c.leap.ensures.none_between)
    ∙ c.loop-fact.invariant

pub returns-clause-value : goal.returns-clause-value
returns-clause-value g c =
    match-none c.args.predicate (is_match c.args.predicate c.args.places.now) (g.V.View.facts c.args.view.now) c.in_default.ensures.rising c.loop-fact.place (sym c.in_default.is ∙ c.next_true.ensures.value)
    ∙ c.loop-fact.invariant
