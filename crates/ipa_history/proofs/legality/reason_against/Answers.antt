use Rattle.std.proofs.Common.{◌∙◌}
use Rattle.ipa_history.proofs.ReasonLemmas.{reason_found}
use Rattle.ipa_history.proofs.legality.reason_against.Goals as goal

pub returns : goal.returns
returns c =
    reason_found c.args.spec.now c.args.universe.now.sizes c.args.base.now c.args.history.now c.args.tx.now c.as_slice.result.now
    c.in_ok-around.around.before c.in_ok-around.around.after c.in_ok-reason.reason
    (c.as_slice.ensures.value ∙ c.in_ok-members.ensures.members) c.in_ok-around.ensures c.in_ok-reason.ensures
