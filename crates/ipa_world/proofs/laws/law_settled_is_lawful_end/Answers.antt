use Rattle.ipa_world.specs.EndLaws.{end-lawful, end-within}
use Rattle.ipa_world.proofs.laws.law_settled_is_lawful_end.Goals as goal

pub returns-clause-lawful : goal.returns-clause-lawful
returns-clause-lawful c = λ w first last is settled last_is.
    end-lawful w is settled.same settled.done first settled.first_at last last_is

pub returns-clause-within : goal.returns-clause-within
returns-clause-within c = end-within
