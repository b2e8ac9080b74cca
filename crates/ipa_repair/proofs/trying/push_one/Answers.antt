use Rattle.ipa_repair.proofs.ClearLemmas.{one_taken, one_passed}
use Rattle.ipa_repair.proofs.trying.push_one.Goals as goal

pub returns-then-branch-clause-gains : goal.returns-then-branch-clause-gains
returns-then-branch-clause-gains c =
    one_taken c.args.spec.now c.args.left c.args.right c.args.candidate c.in_ok-parts.parts c.as_slice.result.now c.in_ok-clears.field-0 c.args.offers.now c.push.new.self
    c.as_slice.ensures c.in_ok-parts.ensures c.if-branch.true c.in_ok-clears.ensures c.in_ok-push.ensures.ok

pub returns-clause-gains : goal.returns-clause-gains
returns-clause-gains c =
    one_passed c.args.spec.now c.args.left c.args.right c.args.candidate c.in_ok-parts.parts c.as_slice.result.now c.in_ok-clears.field-0 c.args.offers.now
    c.as_slice.ensures c.in_ok-parts.ensures c.if-branch.false c.in_ok-clears.ensures
