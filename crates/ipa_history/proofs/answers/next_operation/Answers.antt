use Rattle.std.proofs.Common.{◌≡◌, List, [], length, Option, Some, slice_get, sym, ◌∙◌, ap, arith}
use Rattle.std.specs.Option.{option_map_or}
use Rattle.std.proofs.lemmas.List.{length-map}
use Rattle.ipa_spec.specs.Actions.{sorts_of, sorts_of_vars}
use Rattle.ipa_spec.specs.declared.operations.Action.TheVariants.{Op}
use Rattle.ipa_spec.specs.declared.operations.Operation.{Operation}
use Rattle.ipa_spec.specs.declared.predicates.Var.{Var}
use Rattle.ipa_history.proofs.answers.next_operation.Goals as goal

pub overflow_cast-count : goal.overflow_cast-count
overflow_cast-count c =
    let s = c.args.spec.now in
    let params = c.in-Some.operation.now.params in
    let at : slice_get s.operations c.args.op ≡ Some c.in-Some.operation.now =
    sym (c.in-Some.ensures ∙ ap (λ (xs : List Operation). slice_get xs c.args.op) c.operations.ensures) in
    let sorts : sorts_of s (Op c.args.op) ≡ sorts_of_vars params =
    ap (λ (o : Option Operation). option_map_or (λ (q : Operation). sorts_of_vars q.params) o []) at in
    let same : length (sorts_of s (Op c.args.op)) ≡ length params = ap length sorts
    ∙ length-map params (λ (v : Var). v.sort) in
    let few = c.spec_is_fit.ensures.fit.argument_count (Op c.args.op) in
    omega (arith, few, same, c.len.ensures)
