use Rattle.ipa_reader.proofs.SoundNext.{names_new}
use Rattle.ipa_reader.proofs.document_lines.with_line.Goals as goal

pub with_arrangement-requires-clause-new : goal.with_arrangement-requires-clause-new
with_arrangement-requires-clause-new c = names_new c.args.standing c.args.line c.requires.within c.requires.accepted
