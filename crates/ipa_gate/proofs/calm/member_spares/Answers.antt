use Rattle.ipa_gate.proofs.CalmLemmas.{member_from, member_to}
use Rattle.ipa_gate.proofs.calm.member_spares.Goals as goal

pub returns-in-Some : goal.returns-in-Some
returns-in-Some g c =
    let s = c.args.spec.now in
    let h = c.args.index.now.entries in
    let state = g.V.View.facts c.args.view.now in
    let named = c.in-Some.ensures s c.requires in (
      λ yes. member_from s h state c.requires.history c.args.dot c.in-Some.tx.now named (c.spares.ensures.0 yes),
      λ is. c.spares.ensures.1 (member_to s h state c.args.dot c.in-Some.tx.now named is),
    )
