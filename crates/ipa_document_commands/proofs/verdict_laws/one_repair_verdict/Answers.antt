use Rattle.ipa_document_commands.proofs.VerdictLemmas.{one-repaired}
use Rattle.ipa_document_commands.proofs.verdict_laws.one_repair_verdict.Goals as goal

pub returns : goal.returns
returns c bytes text other status end h k =
    one-repaired c.first_cases_are_one.ensures c.one_repair.ensures.repair bytes status end text other h k
