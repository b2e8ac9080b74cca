use Rattle.ipa_journal_laws.proofs.Rereading.{end_reads}
use Rattle.ipa_journal_laws.proofs.laws.end_reads_back.Goals as goal

pub returns : goal.returns
returns c =
    let printed = c.one_spelling.ensures.printed in
    let line = c.written_line.ensures in
    let text = c.written_text.ensures in
    let one = c.one_journal.ensures.journal in
    record {
      reads = λ d sizes entries outcomes last set h.
          end_reads d.spec sizes d.elements d.sessions set d.first printed (record { cut = line.cut; texts = line.texts; kinds_are = line.kinds }) (record { lines = text.lines; texts = text.texts }) entries outcomes last h;
      alone = λ d sizes entries outcomes last journal set h r.
          one _ _ journal _ r (end_reads d.spec sizes d.elements d.sessions set d.first printed (record { cut = line.cut; texts = line.texts; kinds_are = line.kinds }) (record { lines = text.lines; texts = text.texts }) entries outcomes last h);
    }
