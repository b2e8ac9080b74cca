use Rattle.ipa_report.proofs.RepairedPrintable.{repaired_printable}
use Rattle.ipa_report.proofs.repaired_laws.repaired_is_printable.Goals as goal

pub returns : goal.returns
returns c = repaired_printable
