use Rattle.std.proofs.Common.{◌∙◌, ap, Bool}
use Rattle.std.specs.Prelude.{slice_get}
use Rattle.ipa_spec.specs.Actions.{effects_of}
use Rattle.ipa_sets.specs.Rows.{row_in, put_in}
use Rattle.ipa_sets.proofs.RowLemmas.{put-keyed, keyed-itself}
use Rattle.std.proofs.lemmas.Bool.{false≢true}
use Rattle.ipa_sets.proofs.rows.Rows.put_effect.Goals as goal

pub returns-in_ok-put-in-Some-clause-rows : goal.returns-in_ok-put-in-Some-clause-rows
returns-in_ok-put-in-Some-clause-rows c k o = c.in_ok-put-in-Some.ensures.rows k o
    ∙ ap (λ (b : Bool). put_in b c.args.tx.now (row_in c.args.self.now k) o)
    (put-keyed c.args.spec.now c.args.tx.now.args c.in-Some.effect
    (slice_get (effects_of c.args.spec.now c.args.tx.now.action) c.args.place) c.key_of.result k c.in-Some.ensures c.key_of.ensures)

pub returns-in_err-put-in-Some-clause-ready : goal.returns-in_err-put-in-Some-clause-ready
returns-in_err-put-in-Some-clause-ready c all = absurd (false≢true (c.in_err-put-in-Some.ensures.ready (all c.key_of.result
    (keyed-itself c.args.spec.now c.args.tx.now.args c.in-Some.effect
    (slice_get (effects_of c.args.spec.now c.args.tx.now.action) c.args.place) c.key_of.result c.in-Some.ensures c.key_of.ensures))))
