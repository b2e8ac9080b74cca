-- No step is a sound start.
use Rattle.ipa_sat.proofs.Soundness.{IsReasoned-none}
use Rattle.ipa_sat.proofs.search.search_with.Goals as goal

pub start-requires : goal.start-requires
start-requires c = rw c.requires (IsReasoned-none c.args.cnf.now)
