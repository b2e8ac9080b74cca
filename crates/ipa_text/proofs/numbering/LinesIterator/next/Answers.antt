use Rattle.std.proofs.Common.{sym, ◌∙◌}
use Rattle.ipa_text.proofs.LineLemmas.{turn_gives, turn_passes, some_left, longer}
use Rattle.ipa_text.proofs.numbering.LinesIterator.next.Goals as goal

-- a line with content is the first of those left
pub returns-then-has_content-clause-steps : goal.returns-then-has_content-clause-steps
returns-then-has_content-clause-steps c =
    turn_gives c.args.self.now c.loop-self.self-inside.number c.loop-self.self-inside.start c.loop-self.self-inside.rest.now c.split_piece.result.0.now c.split_piece.result.1.now c.without_return-text.result.now
    c.loop-self.invariant c.split_piece.ensures.piece c.split_piece.ensures.rest c.without_return-text.ensures.text (sym c.has_content.ensures ∙ c.if-has_content.true)

-- the line that is given is left no more
pub returns-then-has_content-clause-goes : goal.returns-then-has_content-clause-goes
returns-then-has_content-clause-goes c =
    record { on = λ _. (tt, tt, longer c.args.self.now _ _ (returns-then-has_content-clause-steps c)); keeps = tt; rests = λ _. tt }

-- a line without content is passed over
pub loop-self-preserved : goal.loop-self-preserved
loop-self-preserved c =
    turn_passes _ c.loop-self.self-inside.number c.loop-self.self-inside.start c.loop-self.self-inside.rest.now c.split_piece.result.0.now c.split_piece.result.1.now c.without_return-text.result.now
    c.loop-self.invariant c.split_piece.ensures.piece c.split_piece.ensures.rest c.without_return-text.ensures.text (sym c.has_content.ensures ∙ c.if-has_content.false) (c.split_piece.ensures.rest_within (some_left _ (sym c.is_empty.ensures ∙ c.loop-self-test.true)))
