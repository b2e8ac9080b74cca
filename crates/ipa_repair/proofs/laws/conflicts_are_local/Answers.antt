use Rattle.ipa_repair.proofs.LocalLemmas.{conflict-kept, alike-back}
use Rattle.ipa_repair.proofs.laws.conflicts_are_local.Goals as goal

pub returns : goal.returns
returns c s next left right k a = (conflict-kept s next left right k a, conflict-kept next s left right k (alike-back s next left right k a))
