use Rattle.ipa_frame.proofs.OneFrame as law
use Rattle.ipa_frame.proofs.laws.one_frame.Goals as goal

pub returns : goal.returns
returns c = law.one_frame
