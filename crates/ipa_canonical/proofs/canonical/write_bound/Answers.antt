use Rattle.ipa_canonical.proofs.TextLemmas.{bound_text, ok_then}
use Rattle.ipa_canonical.proofs.canonical.write_bound.Goals as goal

pub returns : goal.returns
returns c =
    ok_then c.write_removes.result
    (λ written. bound_text c.args.spec.now c.args.bound.now c.in_ok-form.form c.bound_vars-vars.result.now c.as_slice-removes.result.now c.args.page.now c.write_form.new.page c.write_removes.new.page
    c.in_ok-form.ensures
    c.bound_vars-vars.ensures
    c.as_slice-removes.ensures
    c.in_ok-write_form.ensures
    written)
    c.write_removes.ensures
