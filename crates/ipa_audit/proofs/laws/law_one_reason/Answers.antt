use Rattle.ipa_audit.proofs.ReasonLemmas.{legal_illegal, one_reason}
use Rattle.ipa_audit.proofs.laws.law_one_reason.Goals as goal

pub returns : goal.returns
returns c = record {
  admitted = λ s h t r is f. legal_illegal s.spec s.universe s.base h t r is.legal f.illegal;
  reason = λ s h t r q f g. one_reason s.spec s.universe s.base h t r q f.illegal g.illegal;
}
