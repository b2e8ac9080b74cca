use Rattle.ipa_journal.specs.Readings.{context_of}
use Rattle.ipa_journal_laws.proofs.laws.migrates_whole.Goals as goal

pub returns : goal.returns
returns c =
    λ d sizes start bytes journal set r.
    c.content_reads_back.ensures.reads (context_of d.spec d.elements d.sessions start) sizes journal set (c.read_is_writable.ensures d sizes bytes journal set r)
