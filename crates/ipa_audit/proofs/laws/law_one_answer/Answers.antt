use Rattle.ipa_audit.proofs.ReasonLemmas.{one_answer}
use Rattle.ipa_audit.proofs.laws.law_one_answer.Goals as goal

pub returns : goal.returns
returns c s universe base h cut origin request one other a b =
    one_answer s universe base h cut origin request one other a b
