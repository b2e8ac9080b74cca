use Rattle.ipa_logic.specs.Touches.{matches}
use Rattle.ipa_logic.specs.Truth.{fact_of}
use Rattle.ipa_touch.specs.Turns.{turns}
use Rattle.ipa_touch.proofs.PinLemmas.{pins-weaker}
use Rattle.ipa_touch.proofs.pins.pins_of.Goals as goal

pub returns : goal.returns
returns c =
    let spec = c.args.spec.now in
    let args = c.args.args.now in
    pins-weaker (λ v. matches spec args c.args.effect.now (fact_of spec v c.in_ok-atom.atom)) (λ v. turns spec args v c.args.literal.now c.args.effect.now)
    c.pins_of_atom.result (λ v h. c.in_ok-atom.ensures spec args v h) c.pins_of_atom.ensures
