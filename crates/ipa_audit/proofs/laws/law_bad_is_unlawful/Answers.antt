use Rattle.ipa_audit.proofs.VerdictLemmas.{bad_unlawful}
use Rattle.ipa_audit.proofs.laws.law_bad_is_unlawful.Goals as goal

pub returns : goal.returns
returns c s requests j line fault setting same bad lawful = bad_unlawful s requests j same line fault bad lawful
