use Rattle.std.proofs.Common.{◌++◌, ◌∷◌, [], append_assoc, ap, ◌∙◌, sym}
use Rattle.ipa_reader.proofs.ReadingLemmas.{read_more, fault_here}
use Rattle.ipa_reader.proofs.document_lines.take_lines.Goals as goal

pub loop-line-init : goal.loop-line-init
loop-line-init c = record {
  read = record {
    forms = [];
    said = tt;
    accepted = record { each = λ k form e. cc };
    standing_is = c.first_standing-standing.ensures.value;
    within = c.first_standing-standing.ensures.within;
  };
  left = cc (c.into_iter-line-iterator.ensures.into_iter_gives, c.new-line-items.ensures.lines);
}

pub loop-line-preserved : goal.loop-line-preserved
loop-line-preserved c = record {
  read = read_more c.args.bytes.now c.loop-line.yielded c.in-Some.line c.loop-line.standing c.in-Ok.next c.loop-line.invariant.read c.in-Ok.ensures.takes;
  left = append_assoc c.loop-line.yielded (c.in-Some.line ∷ []) c.next.new.self ∙ ap (λ rest. c.loop-line.yielded ++ rest) (sym c.in-Some.ensures.steps) ∙ c.loop-line.invariant.left;
}

pub returns-in-Err-clause-fault : goal.returns-in-Err-clause-fault
returns-in-Err-clause-fault c =
    fault_here c.args.bytes.now c.loop-line.yielded c.next.new.self c.in-Some.line c.loop-line.standing c.in-Err.fault c.loop-line.invariant.read
    (ap (λ rest. c.loop-line.yielded ++ rest) (sym c.in-Some.ensures.steps) ∙ c.loop-line.invariant.left) c.in-Err.ensures.fault
