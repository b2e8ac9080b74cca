use Rattle.ipa_document_commands.proofs.VerdictLemmas.{one-check}
use Rattle.ipa_document_commands.proofs.verdict_laws.one_verdict.Goals as goal

pub returns : goal.returns
returns c bytes text other status end h k =
    one-check c.first_cases_are_one.ensures bytes status end text other h k
