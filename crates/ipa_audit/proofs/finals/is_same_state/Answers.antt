use Rattle.std.proofs.Common.{sym, ◌∙◌}
use Rattle.std.proofs.lemmas.Bool.{false≢true}
use Rattle.ipa_audit.proofs.FinalLemmas.{same_states, true_same}
use Rattle.ipa_audit.proofs.finals.is_same_state.Goals as goal

pub returns-then-not-branch : goal.returns-then-not-branch
returns-then-not-branch c = (
  λ x. absurd (false≢true x),
  λ same. sym c.if-not-branch.true ∙ c.in_ok-are_true.ensures.1 (true_same c.args.one.now c.args.other.now same),
)

pub returns : goal.returns
returns c = (
  λ x. same_states c.args.one.now c.args.other.now c.stands_in_order.ensures c.stands_in_order-2.ensures
      (c.in_ok-are_true.ensures.0 c.if-not-branch.false) (c.in_ok-back.ensures.0 x),
  λ same. c.in_ok-back.ensures.1 (true_same c.args.other.now c.args.one.now (sym same)),
)
