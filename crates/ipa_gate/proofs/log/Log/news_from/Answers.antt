use Rattle.std.proofs.Common.{List, ◌++◌, drop, sym, ◌∙◌, ap, subst}
use Rattle.ipa_history.specs.declared.history.Tx.{Tx}
use Rattle.ipa_gate.specs.Agreements.{HasAll}
use Rattle.ipa_gate.specs.Settings.{IsLegalFor}
use Rattle.ipa_gate.proofs.NewsLemmas.{news-are, news-all, news-legal}
use Rattle.ipa_gate.proofs.log.Log.news_from.Goals as goal

pub returns-clause-news : goal.returns-clause-news
returns-clause-news c =
    news-are c.args.self.now.entries c.args.seen.now c.later.result.now _ c.args.cut.now
    c.entries-entries.ensures.log.legal.history c.as_slice-formed.ensures.formed c.requires.clock c.args.read
    c.requires.read
    (c.later.ensures ∙ ap (λ (h : List Tx). drop c.args.read h) c.entries-entries.ensures.entries)
    (c.from_vec.ensures ∙ c.in_ok-news.ensures)

pub returns-clause-all : goal.returns-clause-all
returns-clause-all c =
    subst (λ (xs : List Tx). HasAll (c.args.seen.now ++ xs) c.args.self.now.entries) (sym (returns-clause-news c))
    (news-all c.args.self.now.entries c.args.seen.now c.entries-entries.ensures.log.legal.history c.requires.agrees)

pub returns-clause-legal : goal.returns-clause-legal
returns-clause-legal c known =
    let s = c.args.self.now.setting in
    let log = c.entries-entries.ensures.log in
    subst (λ (xs : List Tx). IsLegalFor s (c.args.seen.now ++ xs)) (sym (returns-clause-news c))
    (news-legal s.spec s.universe s.base c.args.self.now.entries c.args.seen.now log.legal log.few known
    c.requires.agrees)
