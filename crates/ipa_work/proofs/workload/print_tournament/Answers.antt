use Rattle.ipa_work.specs.Tournament.{tournament}
use Rattle.ipa_work.proofs.workload.print_tournament.Goals as goal

pub returns : goal.returns
unfolding tournament
returns c = c.text.ensures.ok
