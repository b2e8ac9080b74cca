use Rattle.ipa_journal_laws.proofs.Rereading.{content_reads}
use Rattle.ipa_journal_laws.proofs.laws.content_reads_back.Goals as goal

pub returns : goal.returns
returns c =
    let printed = c.one_spelling.ensures.printed in
    let line = c.written_line.ensures in
    let text = c.written_text.ensures in
    let one = c.one_journal.ensures.journal in
    record {
      reads = λ d sizes journal set h.
          content_reads d.spec sizes d.elements d.sessions set d.first printed (record { cut = line.cut; texts = line.texts; kinds_are = line.kinds }) (record { lines = text.lines; texts = text.texts }) journal h;
      alone = λ d sizes journal other set h r.
          one _ _ other _ r (content_reads d.spec sizes d.elements d.sessions set d.first printed (record { cut = line.cut; texts = line.texts; kinds_are = line.kinds }) (record { lines = text.lines; texts = text.texts }) journal h);
    }
