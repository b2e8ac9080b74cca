use Rattle.std.proofs.Common.{List, sym, ◌∙◌, subst}
use Rattle.ipa_spec.specs.declared.specification.Specification.{Specification}
use Rattle.ipa_history.specs.declared.history.Tx.{Tx}
use Rattle.ipa_sets.specs.Indexes.{IsReadyFor}
use Rattle.ipa_gate.specs.Logs.{IsLog}
use Rattle.ipa_gate.specs.LogLaws.{IsLog-push}
use Rattle.ipa_gate.proofs.offers.put.Goals as goal

pub put-requires-clause-next : goal.put-requires-clause-next
put-requires-clause-next c =
    let log = IsLog-push c.args.setting.now c.accepted.ensures.setting.few c.args.index.now.entries c.args.tx.now
    c.requires.log c.requires.admitted in
    log.legal.history

pub put-requires-clause-ready : goal.put-requires-clause-ready
put-requires-clause-ready c =
    subst (λ (s : Specification). IsReadyFor s c.args.tx.now c.args.index.now)
    (sym (c.spec.ensures.spec ∙ c.accepted.ensures.spec)) c.requires.ready

pub returns-clause-log : goal.returns-clause-log
returns-clause-log c =
    subst (λ (h : List Tx). IsLog c.args.setting.now h) (sym c.put.ensures.entries)
    (IsLog-push c.args.setting.now c.accepted.ensures.setting.few c.args.index.now.entries c.args.tx.now
    c.requires.log c.requires.admitted)
