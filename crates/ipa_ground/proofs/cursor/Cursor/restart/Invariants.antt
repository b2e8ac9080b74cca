use Rattle.ipa_ground.proofs.CursorLemmas.{IsAnew}
use Rattle.ipa_ground.proofs.cursor.Cursor.restart.Given as goal

abbrev pub invariant-loop-place : goal.invariant-loop-place
invariant-loop-place l = IsAnew l.initial.self l.self l.from l.place
