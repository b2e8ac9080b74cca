use Rattle.std.proofs.Common.{◌∙◌, ap, map}
use Rattle.ipa_canonical.specs.Canonical.{names_of, typed_form}
use Rattle.ipa_canonical.proofs.TextLemmas.{ok_then, operation_text}
use Rattle.ipa_canonical.proofs.canonical.write_operation.Goals as goal

pub returns : goal.returns
returns c =
    let names = c.in_ok-names.ensures ∙ ap names_of c.as_slice.ensures in
    ok_then c.write_effects.result
    (λ written. operation_text c.args.spec.now c.args.operation.now c.from_vec-params.result c.deref.result.now c.deref-2.result.now c.as_slice-needs.result.now c.as_slice-effects.result.now c.args.page.now c.write_form.new.page c.write_needs.new.page c.write_effects.new.page
    (c.from_vec-params.ensures ∙ c.in_ok-typed_forms.ensures ∙ (λ i. map (typed_form ((c.as_slice-sorts.ensures ∙ c.sorts.ensures) i)) (c.as_slice-2.ensures i)))
    (c.deref.ensures.value ∙ names)
    (c.deref-2.ensures.value ∙ names)
    c.as_slice-needs.ensures
    c.as_slice-effects.ensures
    c.in_ok-write_form.ensures
    c.in_ok-write_needs.ensures
    written)
    c.write_effects.ensures
