use Rattle.ipa_models.proofs.QuestionLemmas.{literal-for}
use Rattle.ipa_models.proofs.question.literal_for.Goals as goal

pub returns : goal.returns
returns c = literal-for _ _ _ _ _ c.requires.numbered c.fact_number.ensures
