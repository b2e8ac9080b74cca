use Rattle.ipa_sets.proofs.EffectLemmas.{AreMade}
use Rattle.ipa_sets.proofs.rows.Rows.make_rows.Given as goal

abbrev pub invariant-loop-place : goal.invariant-loop-place
invariant-loop-place l = AreMade l.spec l.tx l.fn.self l.self l.place
