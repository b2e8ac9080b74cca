use Rattle.std.proofs.Common.{◌≤◌, ◌<◌, ◌^◌, length, arith}
use Rattle.std.proofs.lemmas.Result.{IfOk-weaker}
use Rattle.ipa_journal.specs.Starts.{IsStart}
use Rattle.ipa_journal_commands.proofs.JournalLemmas.{start-at, start-line}
use Rattle.ipa_journal_commands.proofs.journals.start_of.Goals as goal

pub returns-clause-at : goal.returns-clause-at
returns-clause-at c =
    IfOk-weaker c.journal_start.result (IsStart c.args.bytes.now) (λ start. start.at ≤ length c.args.bytes.now)
    (λ start h. start-at c.every_line.ensures.each c.args.bytes.now start h)
    c.journal_start.ensures

pub returns-clause-line : goal.returns-clause-line
returns-clause-line c =
    let short = c.requires in
    IfOk-weaker c.journal_start.result (IsStart c.args.bytes.now) (λ start. start.line < 2 ^ 31)
    (λ start h.
    let near = start-line c.every_line.ensures.each c.every_line.ensures.last c.args.bytes.now start h in
    omega (arith, near, short))
    c.journal_start.ensures
