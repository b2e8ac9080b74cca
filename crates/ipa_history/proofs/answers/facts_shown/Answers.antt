use Rattle.std.proofs.Common.{sym, ◌∙◌}
use Rattle.ipa_history.specs.Answers.{is_shown}
use Rattle.ipa_history.proofs.ShownLemmas.{shown-none, shown-more, shown-fewer, shown-all}
use Rattle.ipa_history.proofs.answers.facts_shown.Goals as goal

pub loop-fact-init : goal.loop-fact-init
loop-fact-init g c =
    shown-none c.args.predicate c.args.places.now (g.V.View.facts c.args.view.now) c.new-shown.result c.new-shown.ensures

pub loop-fact-smaller : goal.loop-fact-smaller
loop-fact-smaller g c =
    shown-fewer (is_shown c.args.predicate c.args.places.now) c.args.predicate (g.V.View.facts c.args.view.now)
    c.in-Some.ensures.rising c.loop-fact.last c.in-Some.fact c.in-Some.ensures.value

pub loop-fact-preserved : goal.loop-fact-preserved
loop-fact-preserved g c =
    shown-more (is_shown c.args.predicate c.args.places.now) c.args.predicate (g.V.View.facts c.args.view.now)
    c.in-Some.ensures.rising c.loop-fact.shown c.insert.new.self c.loop-fact.last c.in-Some.fact c.in-Some.ensures.value
    c.loop-fact.invariant c.insert.ensures.rising c.in_ok-insert.ensures.facts

pub returns : goal.returns
returns g c =
    shown-all (is_shown c.args.predicate c.args.places.now) c.args.predicate (g.V.View.facts c.args.view.now)
    c.loop-fact.shown c.loop-fact.last (sym c.in_default.is ∙ c.next_match.ensures.value) c.loop-fact.invariant
