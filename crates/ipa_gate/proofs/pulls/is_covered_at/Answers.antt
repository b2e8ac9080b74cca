use Rattle.std.proofs.Common.{List, slice_get, ◌∙◌, ap}
use Rattle.std.proofs.lemmas.Option.{get_or_from_slice_get}
use Rattle.ipa_clock.specs.Cut.{is_covered}
use Rattle.ipa_history.specs.declared.history.Tx.{Tx}
use Rattle.ipa_gate.proofs.pulls.is_covered_at.Goals as goal

pub returns : goal.returns
returns c tx at =
    c.covers.ensures
    ∙ ap (λ (t : Tx). is_covered c.args.cut.now t.dot)
    (get_or_from_slice_get c.as_slice.result.now c.args.place tx _
    (ap (λ (xs : List Tx). slice_get xs c.args.place) c.as_slice.ensures.history ∙ at))
