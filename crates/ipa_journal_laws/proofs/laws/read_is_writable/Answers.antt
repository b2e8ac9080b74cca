use Rattle.ipa_journal_laws.proofs.Kept.{read_writable}
use Rattle.ipa_journal_laws.proofs.laws.read_is_writable.Goals as goal

pub returns : goal.returns
returns c = λ d sizes bytes journal set r. read_writable d sizes set bytes journal r
