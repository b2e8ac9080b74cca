use Rattle.std.proofs.Common.{below_more, refl, sym, ◌∙◌, arith}
use Rattle.std.proofs.lemmas.Bool.{false≢true}
use Rattle.ipa_audit.proofs.FinalLemmas.{up_to, from_up_to}
use Rattle.ipa_audit.proofs.finals.are_in_up_to.Goals as goal

pub loop-predicate-preserved : goal.loop-predicate-preserved
loop-predicate-preserved g c =
    below_more _ _ c.loop-predicate.invariant (c.are_in.ensures.0 c.if-not-are_in.false)

pub returns-then-not-are_in : goal.returns-then-not-are_in
returns-then-not-are_in g c = (
  λ h. absurd (false≢true h),
  λ all. sym c.if-not-are_in.true ∙ c.are_in.ensures.1
      (from_up_to c.args.count (g.V.View.facts c.args.view.now) c.args.state.now all c.loop-predicate.predicate (omega arith)),
)

pub returns : goal.returns
returns g c = (
  λ _. up_to c.args.count (g.V.View.facts c.args.view.now) c.args.state.now
      (λ p l. c.loop-predicate.invariant p (omega (arith, l))),
  λ _. refl,
)
