use Rattle.ipa_gate.proofs.CalmLemmas.{within_one, decided_one}
use Rattle.ipa_gate.proofs.calm.is_calm_at.Goals as goal

pub returns-then-is_known_calm : goal.returns-then-is_known_calm
returns-then-is_known_calm c state is =
    within_one c.args.spec.now _ _ state (c.at-view.ensures.state c.args.spec.now c.requires.indexed) is
    (c.is_known_calm.ensures c.if-is_known_calm.true)

pub returns : goal.returns
returns c state is =
    decided_one c.args.spec.now _ _ state (c.at-view.ensures.state c.args.spec.now c.requires.indexed) is
    c.within.result c.within.ensures
