use Rattle.ipa_text.proofs.NumberLemmas.{IsFrontValue}
use Rattle.ipa_text.proofs.decimals.read_number.Given as goal

abbrev pub invariant-loop-digit : goal.invariant-loop-digit
invariant-loop-digit l = IsFrontValue l.digits l.digit-index l.value
