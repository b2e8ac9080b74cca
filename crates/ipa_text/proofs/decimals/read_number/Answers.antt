use Rattle.std.proofs.Common.{sym, ◌∙◌, arith}
use Rattle.ipa_text.proofs.NumberLemmas.{front_more, front_stops, front_all}
use Rattle.ipa_text.proofs.decimals.read_number.Goals as goal

-- a byte that can't follow ends every reading
pub returns-in_err-value : goal.returns-in_err-value
returns-in_err-value c =
    c.from_residual.ensures ∙ sym (front_stops c.args.digits.now c.loop-digit.digit-index c.loop-digit.value (omega arith) c.loop-digit.invariant (sym c.followed_by.ensures ∙ c.in_err-value.was))

pub loop-digit-preserved : goal.loop-digit-preserved
loop-digit-preserved c =
    front_more c.args.digits.now c.loop-digit.digit-index c.loop-digit.value c.in_ok-value.value (omega arith) c.loop-digit.invariant (sym c.followed_by.ensures ∙ c.in_ok-value.was)

pub returns : goal.returns
returns c =
    sym (front_all c.args.digits.now c.loop-digit.digit-index c.loop-digit.value (sym c.has_no_needless_zero.ensures ∙ c.if-not-has_no_needless_zero.false) (omega arith) c.loop-digit.invariant)
