use Rattle.std.proofs.Common.{sym, ap, ◌∙◌, List}
use Rattle.std.specs.List.{slice_get}
use Rattle.ipa_spec.specs.declared.operations.Operation.{Operation}
use Rattle.ipa_repair.proofs.ApplyLemmas.{params_few}
use Rattle.ipa_repair.proofs.listing.push_candidates_of_action.Goals as goal

pub push_operation_candidates-requires-clause-params : goal.push_operation_candidates-requires-clause-params
push_operation_candidates-requires-clause-params c =
    params_few c.args.spec.now c.in-Op.number c.in-Some.operation.now c.spec_is_fit.ensures.fit
    (sym (c.in-Some.ensures ∙ ap (λ (os : List Operation). slice_get os c.in-Op.number) c.operations.ensures))
