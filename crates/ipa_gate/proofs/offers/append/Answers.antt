use Rattle.std.proofs.Common.{List, sym, subst}
use Rattle.ipa_history.specs.declared.history.Tx.{Tx}
use Rattle.ipa_gate.specs.Logs.{IsLog}
use Rattle.ipa_gate.specs.LogLaws.{IsLog-push}
use Rattle.ipa_gate.proofs.offers.append.Goals as goal

pub take-requires-clause-next : goal.take-requires-clause-next
take-requires-clause-next c =
    let log = IsLog-push c.args.setting.now c.accepted.ensures.setting.few c.args.index.now.entries c.args.tx.now
    c.requires.log c.requires.admitted in
    log.legal.history

pub returns-in_err-take-clause-log : goal.returns-in_err-take-clause-log
returns-in_err-take-clause-log c =
    subst (λ (h : List Tx). IsLog c.args.setting.now h) (sym c.in_err-take.ensures.err) c.requires.log

pub returns-clause-log : goal.returns-clause-log
returns-clause-log c =
    subst (λ (h : List Tx). IsLog c.args.setting.now h) (sym c.in_ok-take.ensures.ok)
    (IsLog-push c.args.setting.now c.accepted.ensures.setting.few c.args.index.now.entries c.args.tx.now
    c.requires.log c.requires.admitted)
