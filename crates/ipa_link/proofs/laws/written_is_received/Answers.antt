use Rattle.ipa_link.proofs.Written as law
use Rattle.ipa_link.proofs.laws.written_is_received.Goals as goal

pub returns : goal.returns
returns c = law.written_is_received c.one_frame.ensures
