use Rattle.std.proofs.Common.{◌∙◌}
use Rattle.std.specs.Prelude.{slice_get}
use Rattle.ipa_spec.specs.Actions.{effects_of}
use Rattle.ipa_logic.specs.Facts.{has}
use Rattle.ipa_sets.proofs.RowLemmas.{given-known, given-itself}
use Rattle.std.proofs.lemmas.Bool.{false≢true}
use Rattle.ipa_sets.proofs.known.Known.insert_given.Goals as goal

pub returns-in_ok-insert-in-Some-clause-facts : goal.returns-in_ok-insert-in-Some-clause-facts
returns-in_ok-insert-in-Some-clause-facts g c f = c.in_ok-insert-in-Some.ensures.facts f
    ∙ given-known c.args.spec.now c.args.tx.now.args f c.fact_given.result c.in-Some.effect
    (slice_get (effects_of c.args.spec.now c.args.tx.now.action) c.args.place) (has c.args.self.now.facts.items f)
    c.in-Some.ensures c.if-effect.true c.fact_given.ensures

pub returns-in_err-insert-in-Some-clause-ready : goal.returns-in_err-insert-in-Some-clause-ready
returns-in_err-insert-in-Some-clause-ready g c all = absurd (false≢true (c.in_err-insert-in-Some.ensures.ready (all c.fact_given.result
    (given-itself c.args.spec.now c.args.tx.now.args c.fact_given.result c.in-Some.effect
    (slice_get (effects_of c.args.spec.now c.args.tx.now.action) c.args.place)
    c.in-Some.ensures c.if-effect.true c.fact_given.ensures))))
