use Rattle.std.proofs.Common.{List, ◌∙◌, ap, slice_get, sym}
use Rattle.ipa_spec.specs.declared.operations.Operation.{Operation}
use Rattle.ipa_overfill.proofs.OverfillLemmas.{judged_by, own_of, drop_spares}
use Rattle.ipa_overfill.proofs.overfilled.overfills.Goals as goal

pub returns-in-Some : goal.returns-in-Some
returns-in-Some g c =
    let s = c.args.spec.now in
    let args = c.args.args.now in
    let state = g.V.View.facts c.args.view.now in
    judged_by s c.args.action args state c.args.bound.now c.as_slice.result.now
    (own_of s c.args.action args state c.in-Op.number c.in-Some.operation.now c.in-Op.is
    (c.in-Some.ensures ∙ ap (λ (os : List Operation). slice_get os c.in-Op.number) c.operations.ensures)
    ∙ sym c.as_slice.ensures) c.some_overfills.result c.some_overfills.ensures

pub returns-in-Drop : goal.returns-in-Drop
returns-in-Drop g c =
    drop_spares c.args.spec.now c.args.action c.args.args.now (g.V.View.facts c.args.view.now)
    c.spec_is_fit.ensures.fit _ c.in-Drop.is c.args.bound.now
