use Rattle.ipa_models.proofs.QuestionLemmas.{ties-one}
use Rattle.ipa_models.proofs.question.tie_literal.Goals as goal

pub returns-in_ok-tie-in-Some : goal.returns-in_ok-tie-in-Some
returns-in_ok-tie-in-Some c = ties-one _ _ _ _ _ _ _ _ c.in-Some.ensures c.in_ok-tie-in-Some.ensures
