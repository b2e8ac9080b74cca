use Rattle.ipa_journal_commands.proofs.OneAudit.{AreKept, AreOneReason, one-audit}
use Rattle.ipa_journal_commands.proofs.verdict_laws.one_audit_verdict.Goals as goal

pub returns : goal.returns
returns c bytes text other status end h k =
    let reasons : AreOneReason = record {
      admitted = c.law_one_reason.ensures.admitted;
      reason = c.law_one_reason.ensures.reason;
    } in
    let kept : AreKept = record {
      setup = c.kept_by_type.ensures.setup;
      base = c.kept_by_type.ensures.base;
      fitting = c.kept_by_type.ensures.fitting;
    } in
    one-audit reasons c.law_bad_is_unlawful.ensures kept c.first_cases_are_one.ensures c.journals_are_one.ensures bytes
    status end text other h k
