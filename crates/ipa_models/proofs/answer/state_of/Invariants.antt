use Rattle.ipa_models.proofs.AnswerLemmas.{StandsForFirst}
use Rattle.ipa_models.proofs.answer.state_of.Given as goal

abbrev pub invariant-loop-place : goal.invariant-loop-place
invariant-loop-place l = StandsForFirst l.facts l.assignment l.place l.state
