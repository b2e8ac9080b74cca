use Rattle.std.proofs.Common.{sym, ◌∙◌}
use Rattle.std.proofs.lemmas.Bool.{false≢true}
use Rattle.ipa_gate.specs.VerdictLaws.{keeps_before, operation_judged, drop_legal, drop_illegal}
use Rattle.ipa_gate.proofs.verdicts.reason_at.Goals as goal

pub reason_against-requires-clause-keeps : goal.reason_against-requires-clause-keeps
reason_against-requires-clause-keeps g c =
    keeps_before c.args.spec.now c.args.universe.now.sizes c.args.base.now c.args.history.now c.args.tx.now
    c.requires.at _ c.requires.state

pub returns-in-Op : goal.returns-in-Op
returns-in-Op g c =
    operation_judged c.args.spec.now c.args.universe.now.sizes c.args.base.now c.args.history.now c.args.tx.now
    c.requires.at _ c.requires.state _ c.reason_against.result c.in-Op.is
    c.reason_against.ensures

pub returns-then-is_due : goal.returns-then-is_due
returns-then-is_due g c =
    drop_legal c.args.spec.now c.args.universe.now.sizes c.args.base.now c.args.history.now c.args.tx.now
    c.requires.at _ c.requires.state _
    c.requires.ages c.in-Drop.number c.in-Drop.is
    (c.is_due.ensures.0 c.if-is_due.true)

pub returns-else-is_due : goal.returns-else-is_due
returns-else-is_due g c =
    drop_illegal c.args.spec.now c.args.universe.now.sizes c.args.base.now c.args.history.now c.args.tx.now
    c.requires.at _ c.requires.state _
    c.requires.ages c.in-Drop.number c.in-Drop.is
    (λ due. false≢true (sym c.if-is_due.false ∙ c.is_due.ensures.1 due))
