use Rattle.std.proofs.Common.{◌&&◌, ◌==◌}
use Rattle.std.proofs.lemmas.Bool.{and_parts}
use Rattle.ipa_logic.specs.Touches.{matches_at}
use Rattle.ipa_logic.specs.Truth.{fact_of}
use Rattle.ipa_touch.proofs.PinLemmas.{fits-none, matches-not_first, matches-not_second, pins-both}
use Rattle.ipa_touch.proofs.pins.pins_of_atom.Goals as goal

pub returns-in_err-first : goal.returns-in_err-first
returns-in_err-first c = rw c.from_residual.ensures
    (λ v. matches-not_first c.args.spec.now c.args.args.now c.args.effect.now (fact_of c.args.spec.now v c.args.atom.now) (c.in_err-first.ensures v))

pub returns-in_err-second : goal.returns-in_err-second
returns-in_err-second c = rw c.from_residual-in_err-second.ensures
    (λ v. matches-not_second c.args.spec.now c.args.args.now c.args.effect.now (fact_of c.args.spec.now v c.args.atom.now) (c.in_err-second.ensures v))

pub returns : goal.returns
returns c =
    let spec = c.args.spec.now in
    let args = c.args.args.now in
    let effect = c.args.effect.now in
    let atom = c.args.atom.now in
    pins-both
    (λ v. ((effect.predicate == atom.predicate) && matches_at spec args effect (fact_of spec v atom) 0) && matches_at spec args effect (fact_of spec v atom) 1)
    (λ v. matches_at spec args effect (fact_of spec v atom) 2) c.in_ok-second.second c.with_place-3.result
    (λ v h.
    let one = and_parts ((effect.predicate == atom.predicate) && matches_at spec args effect (fact_of spec v atom) 0) (matches_at spec args effect (fact_of spec v atom) 1) h in
    let none = and_parts (effect.predicate == atom.predicate) (matches_at spec args effect (fact_of spec v atom) 0) one.0 in
    c.in_ok-second.ensures v (c.in_ok-first.ensures v (fits-none v) none.1) one.1)
    c.with_place-3.ensures
