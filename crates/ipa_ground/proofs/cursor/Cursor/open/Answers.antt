use Rattle.std.proofs.Common.{arith}
use Rattle.ipa_ground.proofs.CursorLemmas.{open-new, open-old}
use Rattle.ipa_ground.proofs.cursor.Cursor.open.Goals as goal

pub returns-then-self-place-clause-at : goal.returns-then-self-place-clause-at
returns-then-self-place-clause-at c = let cursor = c.requires.cursor in
    open-new _ _ _ _ _ _ (omega arith) (omega arith) c.requires.at c.requires.limit c.if-self-place.true

pub returns-else-self-place-clause-at : goal.returns-else-self-place-clause-at
returns-else-self-place-clause-at c = let cursor = c.requires.cursor in
    open-old _ _ _ _ _ _ (omega arith) (omega arith) c.requires.at c.requires.limit c.requires.class c.if-self-place.false
