use Rattle.std.proofs.Common.{sym, ◌∙◌, refl}
use Rattle.std.proofs.lemmas.Bool.{false≢true}
use Rattle.ipa_audit.proofs.FinalLemmas.{left_start, left_next, left_end, first_left}
use Rattle.ipa_audit.proofs.finals.are_in.Goals as goal

pub loop-fact-init : goal.loop-fact-init
loop-fact-init g c = left_start c.args.predicate (g.V.View.facts c.args.view.now) c.args.state.now _
    (c.into_iter-fact-iterator.ensures.into_iter_gives ∙ c.true_facts-fact-items.ensures.all)

pub loop-fact-preserved : goal.loop-fact-preserved
loop-fact-preserved g c = left_next c.args.predicate (g.V.View.facts c.args.view.now) c.args.state.now
    c.loop-fact.fact-iterator c.next.new.self c.in-Some.fact c.in-Some.ensures.steps
    (sym c.holds.ensures.value ∙ c.if-not-holds.false) c.loop-fact.invariant

pub returns-then-not-holds : goal.returns-then-not-holds
returns-then-not-holds g c = (
  λ h. absurd (false≢true h),
  λ all. sym c.if-not-holds.true ∙ (c.holds.ensures.value
      ∙ first_left c.args.predicate (g.V.View.facts c.args.view.now) c.args.state.now
      c.loop-fact.fact-iterator c.next.new.self c.in-Some.fact c.in-Some.ensures.steps c.loop-fact.invariant all),
)

pub returns : goal.returns
returns g c = (
  λ _. left_end c.args.predicate (g.V.View.facts c.args.view.now) c.args.state.now c.loop-fact.fact-iterator
      c.in-None.ensures.steps.0 c.loop-fact.invariant,
  λ _. refl,
)
