use Rattle.std.proofs.Common.{◌∙◌, sym}
use Rattle.ipa_sets.specs.Rows.{no_row}
use Rattle.ipa_sets.proofs.RowLemmas.{has-same, row-same, put-kept, put-made, put-same, absent-none, absent-row, same-row}
use Rattle.ipa_sets.proofs.rows.Rows.make_row.Goals as goal

pub returns-then-has-clause-made : goal.returns-then-has-clause-made
returns-then-has-clause-made c k h = same-row c.args.self.now c.args.key k h ∙ (sym c.has.ensures ∙ c.if-has.true)

pub returns-in_err-insert-clause-same : goal.returns-in_err-insert-clause-same
returns-in_err-insert-clause-same c = row-same c.args.self.now c.insert.new.self c.in_err-insert.ensures.refused

pub returns-in_err-insert-clause-kept : goal.returns-in_err-insert-clause-kept
returns-in_err-insert-clause-kept c = has-same c.args.self.now c.insert.new.self c.in_err-insert.ensures.refused

pub returns-in_err-insert-clause-ready : goal.returns-in_err-insert-clause-ready
returns-in_err-insert-clause-ready c h = absurd (absent-none c.args.self.now c.args.key c.in_err-insert.ensures.absent h)

pub returns-clause-made : goal.returns-clause-made
returns-clause-made c = put-made c.args.self.now c.insert.new.self c.args.key no_row c.in_ok-insert.ensures.updates

pub returns-clause-same : goal.returns-clause-same
returns-clause-same c = put-same c.args.self.now c.insert.new.self c.args.key no_row c.in_ok-insert.ensures.updates
    (absent-row c.args.self.now c.args.key (sym c.has.ensures ∙ c.if-has.false))

pub returns-clause-kept : goal.returns-clause-kept
returns-clause-kept c = put-kept c.args.self.now c.insert.new.self c.args.key no_row c.in_ok-insert.ensures.updates
