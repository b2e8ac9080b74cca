use Rattle.std.proofs.Common.{length, refl, sym, ap, ◌∙◌}
use Rattle.std.proofs.lemmas.Option.{slice_get_read, get_or_from_slice_get}
use Rattle.ipa_repair.specs.Showing.{clash_of}
use Rattle.ipa_repair.proofs.ShownLemmas.{triples_more}
use Rattle.ipa_repair.proofs.clashes.triples_of.Goals as goal

pub loop-conflict-preserved : goal.loop-conflict-preserved
loop-conflict-preserved c =
    let es = c.args.conflicts.now in
    let e = c.conflict-item.result in
    let i = c.loop-conflict.conflict-index in
    let there = slice_get_read es (length es) i e refl c.loop-conflict-test.true c.conflict-item.is in
    triples_more es c.loop-conflict.triples c.push.new.self c.triple_of.result i e c.loop-conflict-test.true c.in_ok-push.ensures.ok
    (c.triple_of.ensures ∙ ap clash_of (sym (get_or_from_slice_get es i e e there))) c.loop-conflict.invariant
