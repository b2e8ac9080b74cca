use Rattle.ipa_gate.specs.DueDrops.{due_drop-one}
use Rattle.ipa_gate.proofs.DropLemmas.{due_same}
use Rattle.ipa_gate.proofs.verdicts.is_dropped.Goals as goal

pub returns-in-Some : goal.returns-in-Some
returns-in-Some g c =
    let s = c.args.spec.now in
    let facts = g.V.View.facts c.args.view.now in
    let ages = g.V.AgedView.ages c.args.view.now in
    let due = c.in-Some.due in (
      λ h. due_same s facts ages c.args.number due.bound due.fact c.args.fact.now (c.is_same_drop.ensures.0 h) c.in-Some.ensures.due,
      λ d. c.is_same_drop.ensures.1
          (due_drop-one s.bounds facts ages due.bound c.args.number due.fact c.args.fact.now c.in-Some.ensures.due d),
    )
