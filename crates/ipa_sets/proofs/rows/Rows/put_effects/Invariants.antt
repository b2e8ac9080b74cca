use Rattle.ipa_sets.proofs.EffectLemmas.{ArePut}
use Rattle.ipa_sets.proofs.rows.Rows.put_effects.Given as goal

abbrev pub invariant-loop-place : goal.invariant-loop-place
invariant-loop-place l = ArePut l.spec l.tx l.fn.self l.self l.place
