use Rattle.std.proofs.Common.{arith}
use Rattle.ipa_ground.proofs.CursorLemmas.{close-new, close-old, close-some}
use Rattle.ipa_ground.proofs.cursor.Cursor.close.Goals as goal

pub overflow_sub-self : goal.overflow_sub-self
overflow_sub-self c = let cursor = c.requires.cursor in
    close-some _ _ _ _ _ _ (omega arith) (omega arith) (omega (arith, cursor.constants.width, cursor.sort_below c.args.place)) c.requires.at c.if-self-place.true

pub returns-then-self-place-clause-at : goal.returns-then-self-place-clause-at
returns-then-self-place-clause-at c = let cursor = c.requires.cursor in
    close-new _ _ _ _ _ _ (omega arith) (omega arith) (omega (arith, cursor.constants.width, cursor.sort_below c.args.place)) c.requires.at c.if-self-place.true

pub returns-else-self-place-clause-at : goal.returns-else-self-place-clause-at
returns-else-self-place-clause-at c = let cursor = c.requires.cursor in
    close-old _ _ _ _ _ _ (omega arith) (omega arith) c.requires.at c.if-self-place.false
