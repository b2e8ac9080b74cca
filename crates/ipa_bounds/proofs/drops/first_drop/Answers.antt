use Rattle.std.proofs.Common.{List, slice_get, ap, ◌∙◌}
use Rattle.ipa_spec.specs.declared.bounds.Bound.{Bound}
use Rattle.ipa_bounds.proofs.BoundLemmas.{due-chosen}
use Rattle.ipa_bounds.proofs.drops.first_drop.Goals as goal

pub returns : goal.returns
returns g c = record { due = due-chosen _ _ _ _ c.in_ok-bound.bound.now _ c.in_ok-number.ensures (c.in_ok-bound.ensures ∙ ap (λ (s : List Bound). slice_get s c.in_ok-number.number) c.bounds.ensures) c.in_ok-fact.ensures }
