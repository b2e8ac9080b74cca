use Rattle.ipa_logic.specs.Facts.{has}
use Rattle.ipa_logic.specs.Touches.{adds}
use Rattle.ipa_logic.specs.Applied.{kept_facts}
use Rattle.ipa_logic.specs.AppliedLaws.{next-applied, next-kept, rising-applied}
use Rattle.ipa_logic.proofs.after.AfterView.next_true.Goals as goal

pub returns-clause-value : goal.returns-clause-value
returns-clause-value g c =
    let step = c.args.self.now in
    let state = g.V.View.facts step.view.now in
    next-applied step.spec.now step.action step.args.now state c.args.predicate c.args.after _
    (c.lesser.ensures (adds step.spec.now step.action step.args.now) (has (kept_facts step.spec.now step.action step.args.now state))
    c.args.predicate c.args.after c.next_added-added.ensures
    (next-kept step.spec.now step.action step.args.now state c.args.predicate c.args.after _ c.next_kept-kept.ensures.rising c.next_kept-kept.ensures.value))

pub returns-clause-rising : goal.returns-clause-rising
returns-clause-rising g c = let step = c.args.self.now in rising-applied step.spec.now step.action step.args.now (g.V.View.facts step.view.now)
