use Rattle.std.proofs.Common.{◌++◌, ◌∙◌, ap}
use Rattle.std.specs.List.{flat_map}
use Rattle.ipa_forms.specs.Layout.{text_of}
use Rattle.ipa_forms.specs.declared.forms.Form.TheVariants.{Sort}
use Rattle.ipa_canonical.specs.Canonical.{bound_forms, clause_form, const_form, operation_forms, pred_form}
use Rattle.ipa_canonical.proofs.TextLemmas.{all_text, ok_then}
use Rattle.ipa_canonical.proofs.canonical.write_spec.Goals as goal

pub returns : goal.returns
returns c =
    let s = c.args.spec.now in
    let sorts = c.as_slice-sorts.ensures ∙ c.sorts.ensures in
    ok_then c.write_bounds.result
    (λ written. all_text s c.args.page.now c.write_sorts.new.page c.write_constants.new.page c.write_predicates.new.page c.write_clauses.new.page c.write_operations.new.page c.write_bounds.new.page
    (c.in_ok-write_sorts.ensures ∙ ap (λ ss. c.args.page.now ++ flat_map (λ name. text_of (Sort name)) ss) sorts)
    (c.in_ok-write_constants.ensures ∙ (λ i. c.write_sorts.new.page ++ flat_map (λ x. text_of (const_form (sorts i) x)) ((c.as_slice.ensures ∙ c.constants.ensures) i)))
    (c.in_ok-write_predicates.ensures ∙ (λ i. c.write_constants.new.page ++ flat_map (λ x. text_of (pred_form (sorts i) x)) ((c.as_slice-2.ensures ∙ c.predicates.ensures) i)))
    (c.in_ok-write_clauses.ensures ∙ ap (λ all. c.write_predicates.new.page ++ flat_map (λ x. text_of (clause_form s x)) all) (c.as_slice-3.ensures ∙ c.clauses.ensures))
    (c.in_ok-write_operations.ensures ∙ ap (λ all. c.write_clauses.new.page ++ flat_map (λ x. flat_map text_of (operation_forms s x)) all) (c.as_slice-4.ensures ∙ c.operations.ensures))
    (written ∙ ap (λ all. c.write_operations.new.page ++ flat_map (λ x. flat_map text_of (bound_forms s x)) all) (c.as_slice-5.ensures ∙ c.bounds.ensures)))
    c.write_bounds.ensures
