use Rattle.std.proofs.Common.{sym, subst, ◌∙◌}
use Rattle.std.specs.List.{AllZip}
use Rattle.std.proofs.lemmas.Result.{IfOk-weaker}
use Rattle.ipa_pairs.specs.Width.{IsDeclared}
use Rattle.ipa_pairs.specs.Analyses.{AreReported}
use Rattle.ipa_pairs.specs.Collecting.{IsPart}
use Rattle.ipa_pairs.proofs.PartsLemmas.{reported-parts}
use Rattle.ipa_pairs.proofs.parts.conflicts_by_parts.Goals as goal

pub returns : goal.returns
returns g c =
    let s = c.args.spec.now in
    let each = subst (λ places. AllZip (IsPart s) places c.in_ok-parts.parts.items)
    (c.as_slice.ensures.value ∙ c.in_ok-places.ensures) c.in_ok-parts.ensures in
    IfOk-weaker c.joined.result _ _
    (λ found is. subst (AreReported s (IsDeclared s)) (sym is)
    (reported-parts s c.action_count.result c.in_ok-parts.parts.items c.action_count.ensures each))
    c.joined.ensures
