use Rattle.ipa_sets_tests.proofs.closed_cuts.played.Goals as goal

pub loop-origin-init : goal.loop-origin-init
loop-origin-init c = c.new-index.ensures.indexed c.spec.inside.parts
