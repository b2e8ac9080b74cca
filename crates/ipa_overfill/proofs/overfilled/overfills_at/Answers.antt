use Rattle.std.proofs.Common.{List, ◌∙◌, ap, slice_get}
use Rattle.ipa_spec.specs.declared.bounds.Bound.{Bound}
use Rattle.ipa_overfill.proofs.OverfillLemmas.{judged_at}
use Rattle.ipa_overfill.proofs.overfilled.overfills_at.Goals as goal

pub returns-in-Some : goal.returns-in-Some
returns-in-Some g c = judged_at _ _ _ _ c.args.number c.in-Some.bound.now
    (c.in-Some.ensures ∙ ap (λ (bs : List Bound). slice_get bs c.args.number) c.bounds.ensures)
    _ c.overfills.ensures
