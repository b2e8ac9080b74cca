use Rattle.ipa_report.specs.RepairTexts.{end_of}
use Rattle.ipa_report.proofs.repaired_laws.repaired_reads_back.Goals as goal

pub returns : goal.returns
returns c = λ bytes document repaired reads is.
    c.is_read_back.ensures.either (end_of repaired)
    (c.repaired_is_printable.ensures document.spec repaired (c.fit_to_print.ensures bytes document reads) is)
