use Rattle.std.proofs.Common.{sym, ◌∙◌}
use Rattle.ipa_logic.specs.Facts.{has}
use Rattle.ipa_logic.specs.AppliedLaws.{applied-plain, rising-applied, plain-touched_adds, plain-touched_removes, plain-touched_nothing}
use Rattle.ipa_logic.proofs.after.AfterView.holds.Goals as goal

pub returns-in-Adds-clause-value : goal.returns-in-Adds-clause-value
returns-in-Adds-clause-value g c =
    let step = c.args.self.now in
    let state = g.V.View.facts step.view.now in
    sym (applied-plain step.spec.now step.action step.args.now state c.args.fact.now
    ∙ plain-touched_adds step.spec.now step.action step.args.now (has state) c.args.fact.now c.in-Adds.ensures)

pub returns-in-Adds-clause-rising : goal.returns-in-Adds-clause-rising
returns-in-Adds-clause-rising g c = let step = c.args.self.now in rising-applied step.spec.now step.action step.args.now (g.V.View.facts step.view.now)

pub returns-in-Removes-clause-value : goal.returns-in-Removes-clause-value
returns-in-Removes-clause-value g c =
    let step = c.args.self.now in
    let state = g.V.View.facts step.view.now in
    sym (applied-plain step.spec.now step.action step.args.now state c.args.fact.now
    ∙ plain-touched_removes step.spec.now step.action step.args.now (has state) c.args.fact.now c.in-Removes.ensures)

pub returns-in-Removes-clause-rising : goal.returns-in-Removes-clause-rising
returns-in-Removes-clause-rising g c = let step = c.args.self.now in rising-applied step.spec.now step.action step.args.now (g.V.View.facts step.view.now)

pub returns-in-Nothing-clause-value : goal.returns-in-Nothing-clause-value
returns-in-Nothing-clause-value g c =
    let step = c.args.self.now in
    let state = g.V.View.facts step.view.now in
    c.holds.ensures.value ∙ sym (applied-plain step.spec.now step.action step.args.now state c.args.fact.now
    ∙ plain-touched_nothing step.spec.now step.action step.args.now (has state) c.args.fact.now c.in-Nothing.ensures)

pub returns-in-Nothing-clause-rising : goal.returns-in-Nothing-clause-rising
returns-in-Nothing-clause-rising g c = let step = c.args.self.now in rising-applied step.spec.now step.action step.args.now (g.V.View.facts step.view.now)
