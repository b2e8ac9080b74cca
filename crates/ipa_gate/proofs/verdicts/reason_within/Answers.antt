use Rattle.ipa_gate.specs.VerdictLaws.{keeps_before, operation_judged}
use Rattle.ipa_gate.proofs.verdicts.reason_within.Goals as goal

pub reason_besides-requires-clause-keeps : goal.reason_besides-requires-clause-keeps
reason_besides-requires-clause-keeps g c =
    keeps_before c.args.spec.now c.args.universe.now.sizes c.args.base.now c.args.history.now c.args.tx.now
    c.requires.at _ c.requires.state

pub returns : goal.returns
returns g c =
    operation_judged c.args.spec.now c.args.universe.now.sizes c.args.base.now c.args.history.now c.args.tx.now
    c.requires.at _ c.requires.state _ c.reason_besides.result c.in-Op.is c.reason_besides.ensures
