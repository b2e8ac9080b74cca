use Rattle.ipa_text.proofs.EveryLineLemmas.{each_line, fewer_lines}
use Rattle.ipa_text.proofs.numbering.Lines.new.Goals as goal

pub returns-clause-each : goal.returns-clause-each
returns-clause-each c = each_line c.args.bytes.now

pub returns-clause-count : goal.returns-clause-count
returns-clause-count c = fewer_lines c.args.bytes.now
