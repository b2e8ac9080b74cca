use Rattle.std.proofs.Common.{subst}
use Rattle.ipa_gate.specs.Logs.{IsLog}
use Rattle.ipa_gate.specs.Settings.{SettingParts}
use Rattle.ipa_session.proofs.AbsorbLemmas.{shaped_news}
use Rattle.ipa_session.proofs.session.Session.pull_from.Goals as goal

pub absorb-requires-clause-shaped : goal.absorb-requires-clause-shaped
absorb-requires-clause-shaped c = shaped_news c.args.self.now.setting c.args.log.now.entries c.seen.result.now c.in_ok-news.news
    (subst (λ (s : SettingParts). IsLog s c.args.log.now.entries) c.requires.setting c.entries-entries.ensures.log)
    c.in_ok-news.ensures.news
