use Rattle.std.proofs.Common.{◌≡◌, find, not, sym, ap}
use Rattle.ipa_logic.specs.Touches.{removes}
use Rattle.ipa_logic.specs.Views.{is_left}
use Rattle.ipa_logic.specs.Walks.{facts_after}
use Rattle.ipa_logic.specs.FilterLaws.{find-among, find-nowhere}
use Rattle.ipa_logic.proofs.after.next_kept.Goals as goal

pub loop-fact-init : goal.loop-fact-init
loop-fact-init g c =
    let start : c.into_iter-fact-iterator.result ≡ facts_after (g.V.View.facts c.args.view.now) c.args.predicate c.args.after
    = rw c.into_iter-fact-iterator.ensures.into_iter_gives c.true_facts_after-fact-items.ensures.all in
    ap (find (λ f. not (removes c.args.spec.now c.args.action c.args.args.now f))) start

pub returns-then-is_kept-clause-value : goal.returns-then-is_kept-clause-value
returns-then-is_kept-clause-value g c =
    find-among (λ f. not (removes c.args.spec.now c.args.action c.args.args.now f)) (is_left c.args.predicate c.args.after) (g.V.View.facts c.args.view.now)
    _ c.loop-fact.invariant c.in-Some.fact _ c.in-Some.ensures.steps (sym c.if-is_kept.ensures)

pub returns-clause-value : goal.returns-clause-value
returns-clause-value g c =
    find-nowhere (λ f. not (removes c.args.spec.now c.args.action c.args.args.now f)) (is_left c.args.predicate c.args.after) (g.V.View.facts c.args.view.now)
    _ c.loop-fact.invariant c.in-None.ensures.steps.0
