use Rattle.ipa_history.specs.Histories.{IsMember}
use Rattle.ipa_gate.specs.Fronts.{front-none}
use Rattle.ipa_gate.proofs.log.Log.news.Goals as goal

pub news_from-requires-clause-read : goal.news_from-requires-clause-read
news_from-requires-clause-read c = front-none (IsMember c.args.seen.now) c.args.self.now.entries
