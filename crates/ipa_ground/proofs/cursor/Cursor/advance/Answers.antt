use Rattle.std.proofs.Common.{◌+◌, ◌-◌, arith, set, ap, ◌∙◌}
use Rattle.std.specs.List.{slice_index}
use Rattle.ipa_ground.proofs.CursorLemmas.{raise-behind, none-behind}
use Rattle.ipa_ground.proofs.cursor.Cursor.advance.Goals as goal

pub returns-then-self-place-clause-moves : goal.returns-then-self-place-clause-moves
returns-then-self-place-clause-moves c =
    let back = c.loop-place.invariant in
    let place = c.loop-place.place - 1 in
    raise-behind c.args.self.now c.restart.new.self place c.open.new.self.classes c.requires.cursor c.requires.at c.restart.ensures.cursor
    (c.restart.ensures.variables.sorts ∙ (c.open.ensures.same.sorts ∙ (c.close.ensures.same.sorts ∙ back.same.sorts)))
    (c.restart.ensures.variables.len ∙ (c.open.ensures.same.len ∙ (c.close.ensures.same.len ∙ back.same.len)))
    c.restart.ensures.at
    (omega (arith, back.within))
    (c.open.ensures.same.classes ∙ ap (λ cs. set cs place (slice_index cs place + 1)) (c.close.ensures.same.classes ∙ back.same.classes))
    c.restart.ensures.anew.before
    c.restart.ensures.anew.anew
    (λ j l m. back.newest j (omega arith) m)

pub returns-clause-moves : goal.returns-clause-moves
returns-clause-moves c = none-behind c.args.self.now c.requires.cursor c.requires.at (λ j l m. c.loop-place.invariant.newest j (omega arith) m)
