use Rattle.ipa_ground.proofs.CursorLemmas.{IsBack}
use Rattle.ipa_ground.proofs.cursor.Cursor.advance.Given as goal

abbrev pub invariant-loop-place : goal.invariant-loop-place
invariant-loop-place l = IsBack l.initial.self l.self l.place

abbrev pub decreases-loop-place : goal.decreases-loop-place
decreases-loop-place l = l.place
