use Rattle.std.proofs.Common.{Bool, List, slice_get, sym, subst, ap, ◌∙◌}
use Rattle.std.specs.Bool.{MatchBool}
use Rattle.ipa_spec.specs.declared.bounds.Bound.{Bound}
use Rattle.ipa_bounds.specs.Choices.{IsOverAt, IsWithinAt}
use Rattle.ipa_bounds.proofs.BoundLemmas.{over-at}
use Rattle.ipa_bounds.proofs.drops.is_over.Goals as goal

pub returns-in-Some : goal.returns-in-Some
returns-in-Some g c =
    let bounds = c.args.spec.now.bounds in
    let state = g.V.View.facts c.args.view.now in
    subst (λ (b : Bool). MatchBool b (IsOverAt bounds state c.args.number) (IsWithinAt bounds state c.args.number)) (sym c.is_some.ensures)
    (over-at bounds state c.args.number c.in-Some.bound.now c.least_over.result (c.in-Some.ensures ∙ ap (λ (s : List Bound). slice_get s c.args.number) c.bounds.ensures) c.least_over.ensures)
