use Rattle.std.proofs.Common.{List, map, sym, ◌∙◌, ap, subst}
use Rattle.ipa_logic.specs.Facts.{IsStateOf}
use Rattle.ipa_history.specs.Values.{value_of}
use Rattle.ipa_history.specs.declared.history.Tx.{Tx}
use Rattle.ipa_world.specs.Worlds.{SeatParts, WorldParts}
use Rattle.ipa_world.specs.declared.seats.Seat.{Seat}
use Rattle.ipa_world.proofs.EndLemmas.{outcomes_told}
use Rattle.ipa_world.proofs.world.World.end.Goals as goal

pub returns-clause-outcomes : goal.returns-clause-outcomes
returns-clause-outcomes c =
    c.in_ok-outcomes.ensures
    ∙ ap (λ (xs : List Seat). map (λ (x : Seat). x.outcomes) xs) c.as_slice.ensures.value
    ∙ sym (outcomes_told c.self.inside.seats.items)
    ∙ ap (λ (w : WorldParts). map (λ (x : SeatParts). x.outcomes) w.seats) c.self.view_is

pub returns-clause-last : goal.returns-clause-last
returns-clause-last c =
    subst (λ (w : WorldParts). IsStateOf (value_of w.setting.spec w.setting.base c.in_ok-copies.copies) c.in_ok-last.last)
    c.self.view_is
    (subst (λ (h : List Tx). IsStateOf (value_of c.self.inside.setting.spec c.self.inside.setting.base h) c.in_ok-last.last)
    (c.as_slice-2.ensures.history ∙ sym c.in_ok-copies.ensures) c.in_ok-last.ensures)
