use Rattle.ipa_history.specs.Histories.{IsMember}
use Rattle.ipa_gate.specs.Fronts.{front-none}
use Rattle.ipa_session.proofs.session.Session.pull.Goals as goal

pub pull_from-requires-clause-read : goal.pull_from-requires-clause-read
pull_from-requires-clause-read c = front-none (IsMember c.args.self.now.seen) c.args.log.now.entries
