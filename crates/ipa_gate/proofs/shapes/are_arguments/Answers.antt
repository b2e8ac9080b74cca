use Rattle.std.proofs.Common.{refl, sym, ◌∙◌, arith}
use Rattle.std.proofs.lemmas.Bool.{false≢true}
use Rattle.ipa_gate.proofs.ShapeLemmas.{argument_at, arguments_from}
use Rattle.ipa_gate.proofs.shapes.are_arguments.Goals as goal

pub returns-then-not-is_argument : goal.returns-then-not-is_argument
returns-then-not-is_argument c = (
  λ h. absurd (false≢true h),
  λ is. absurd (false≢true (sym c.if-not-is_argument.true ∙ c.is_argument.ensures.1
      (argument_at c.args.spec.now c.args.universe.now.sizes c.args.action c.args.args.now c.loop-place.place is))),
)

pub returns : goal.returns
returns c = (
  λ h. arguments_from c.args.spec.now c.args.universe.now.sizes c.args.action c.args.args.now
      (c.spec_is_fit.ensures.fit.argument_count c.args.action) (omega arith)
      (λ k l. c.loop-place.invariant k (omega arith)),
  λ is. refl,
)
