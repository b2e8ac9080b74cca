use Rattle.std.proofs.Common.{◌++◌, ◌<◌, ◌∙◌, ap, arith, length}
use Rattle.ipa_forms.specs.Layout.{text_of}
use Rattle.ipa_canonical.specs.Canonical.{clause_form}
use Rattle.ipa_canonical.proofs.TextLemmas.{text_more}
use Rattle.ipa_canonical.proofs.canonical.write_clauses.Goals as goal

pub loop-clause-preserved : goal.loop-clause-preserved
loop-clause-preserved c =
    let within : c.loop-clause.clause-index < length c.args.clauses.now = omega arith in
    text_more (λ x. text_of (clause_form c.args.spec.now x)) c.args.clauses.now c.loop-clause.clause-index c.clause-item.result c.args.page.now c.loop-clause.page c.write_form.new.page within c.clause-item.is c.loop-clause.invariant
    (c.in_ok-write_form.ensures ∙ ap (λ f. c.loop-clause.page ++ text_of f) c.in_ok-form.ensures)
