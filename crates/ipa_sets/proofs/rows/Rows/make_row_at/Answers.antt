use Rattle.std.proofs.Common.{◌∙◌}
use Rattle.std.specs.Prelude.{slice_get}
use Rattle.std.proofs.lemmas.Bool.{false≢true}
use Rattle.ipa_spec.specs.Actions.{effects_of}
use Rattle.ipa_sets.proofs.RowLemmas.{put-keyed, keyed-itself}
use Rattle.ipa_sets.proofs.rows.Rows.make_row_at.Goals as goal

pub returns-in_ok-make_row-in-Some-clause-made : goal.returns-in_ok-make_row-in-Some-clause-made
returns-in_ok-make_row-in-Some-clause-made c k h = c.in_ok-make_row-in-Some.ensures.made k
    (put-keyed c.args.spec.now c.args.tx.now.args c.in-Some.effect
    (slice_get (effects_of c.args.spec.now c.args.tx.now.action) c.args.place) c.key_of.result k c.in-Some.ensures c.key_of.ensures ∙ h)

pub returns-in_err-make_row-in-Some-clause-ready : goal.returns-in_err-make_row-in-Some-clause-ready
returns-in_err-make_row-in-Some-clause-ready c all = absurd (false≢true (c.in_err-make_row-in-Some.ensures.ready (all c.key_of.result
    (keyed-itself c.args.spec.now c.args.tx.now.args c.in-Some.effect
    (slice_get (effects_of c.args.spec.now c.args.tx.now.action) c.args.place) c.key_of.result c.in-Some.ensures c.key_of.ensures))))
