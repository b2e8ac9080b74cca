use Rattle.std.proofs.Common.{◌++◌, ◌∷◌, [], append_assoc, ap, ◌∙◌, sym, subst, arith}
use Rattle.std.specs.List.{All}
use Rattle.ipa_text.specs.Lines.{IsLine, lines_of}
use Rattle.ipa_journal.specs.Readings.{context_of}
use Rattle.ipa_journal.proofs.ReadingLemmas.{read_more, member_at_seam, number_bounds}
use Rattle.ipa_journal.proofs.reading.take_lines.Goals as goal

pub loop-line-preserved : goal.loop-line-preserved
loop-line-preserved c =
    let context = context_of c.args.spec.now c.args.elements.now c.args.sessions c.args.first_line in
    record {
      read = read_more context c.args.bytes.now c.loop-line.yielded c.in-Some.line c.loop-line.standing c.in-Ok.next c.loop-line.invariant.read c.in-Ok.ensures.takes;
      left = append_assoc c.loop-line.yielded (c.in-Some.line ∷ []) c.next.new.self ∙ ap (λ rest. c.loop-line.yielded ++ rest) (sym c.in-Some.ensures.steps) ∙ c.loop-line.invariant.left;
    }

pub take_line-requires-clause-counted : goal.take_line-requires-clause-counted
take_line-requires-clause-counted c =
    let bytes = c.args.bytes.now in
    let each = subst (All (IsLine bytes)) c.new-line-items.ensures.lines c.new-line-items.ensures.each in
    let seam = ap (λ rest. c.loop-line.yielded ++ rest) (sym c.in-Some.ensures.steps) ∙ c.loop-line.invariant.left in
    let line = member_at_seam (IsLine bytes) (lines_of bytes) c.loop-line.yielded c.next.new.self c.in-Some.line each seam in
    let bounds = number_bounds bytes c.in-Some.line line in
    (bounds.0, omega (arith, bounds.1, c.requires.short))
