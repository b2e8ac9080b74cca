use Rattle.std.proofs.Common.{sym, ◌∙◌}
use Rattle.ipa_history.proofs.DropLemmas.{item-at, tested_found, tested_next, tested_none}
use Rattle.ipa_history.proofs.drops.first_over_among.Goals as goal

pub returns-then-is_over : goal.returns-then-is_over
returns-then-is_over c =
    let items = c.as_slice-bound-items.result.now in
    let n = c.loop-number.number in
    tested_found c.args.spec.now.bounds items c.args.facts.now (c.as_slice-bound-items.ensures ∙ c.bounds.ensures) n
    c.loop-number.invariant c.bound-item.result (item-at items n c.bound-item.result c.loop-number-test.true c.bound-item.is)
    (sym c.if-is_over.ensures)

pub loop-number-preserved : goal.loop-number-preserved
loop-number-preserved c =
    let items = c.as_slice-bound-items.result.now in
    let n = c.loop-number.number in
    tested_next items c.args.facts.now n c.bound-item.result
    (item-at items n c.bound-item.result c.loop-number-test.true c.bound-item.is)
    (sym c.if-is_over.ensures) c.loop-number.invariant

pub returns : goal.returns
returns c =
    tested_none c.args.spec.now.bounds c.as_slice-bound-items.result.now c.args.facts.now
    (c.as_slice-bound-items.ensures ∙ c.bounds.ensures) c.loop-number.number c.loop-number.invariant c.loop-number-test.false
