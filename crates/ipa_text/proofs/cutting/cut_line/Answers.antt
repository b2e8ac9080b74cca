use Rattle.std.proofs.Common.{sym, subst}
use Rattle.ipa_text.proofs.CutLemmas.{IsCutSoFar, cut_more, cut_all, cut_each, cut_bad, one_cut, one_bad_byte, cut_or_bad}
use Rattle.ipa_text.proofs.cutting.cut_line.Goals as goal

-- the token and the blanks behind it make the cut longer
pub loop-at-preserved : goal.loop-at-preserved
loop-at-preserved c =
    let here = c.in-Some.ensures in
    subst (λ ts. IsCutSoFar c.args.line.now ts c.blanks_end-at-in-loop-at.result) (sym c.in_ok-push.ensures.items)
    (cut_more c.args.line.now c.loop-at.tokens.items c.loop-at.at c.in-Some.token c.blanks_end-at-in-loop-at.result c.loop-at.invariant here.0 here.1 c.blanks_end-at-in-loop-at.ensures)

-- where the loop stops early, the byte is bad, so there is no cut and no other bad byte
pub returns-in_default-clause-cut : goal.returns-in_default-clause-cut
returns-in_default-clause-cut c = λ ts cut.
    absurd (cut_or_bad c.args.line.now ts c.loop-at.at cut (cut_bad c.args.line.now c.loop-at.tokens.items c.loop-at.at c.loop-at-test.true c.loop-at.invariant c.in_default.ensures))

pub returns-in_default-clause-bad_byte : goal.returns-in_default-clause-bad_byte
returns-in_default-clause-bad_byte c = λ at bad.
    one_bad_byte c.args.line.now c.loop-at.at at (cut_bad c.args.line.now c.loop-at.tokens.items c.loop-at.at c.loop-at-test.true c.loop-at.invariant c.in_default.ensures) bad

-- where it comes to the end, the line is cut, so there is no other cut and no bad byte
pub returns-clause-cut : goal.returns-clause-cut
returns-clause-cut c = λ ts cut.
    one_cut c.args.line.now c.loop-at.tokens.items ts (cut_all c.args.line.now c.loop-at.tokens.items c.loop-at.at c.loop-at-test.false c.loop-at.invariant) cut

pub returns-clause-bad_byte : goal.returns-clause-bad_byte
returns-clause-bad_byte c = λ at bad.
    cut_or_bad c.args.line.now c.loop-at.tokens.items at (cut_all c.args.line.now c.loop-at.tokens.items c.loop-at.at c.loop-at-test.false c.loop-at.invariant) bad

pub returns-clause-each : goal.returns-clause-each
returns-clause-each c =
    cut_each c.args.line.now c.loop-at.tokens.items (cut_all c.args.line.now c.loop-at.tokens.items c.loop-at.at c.loop-at-test.false c.loop-at.invariant)
