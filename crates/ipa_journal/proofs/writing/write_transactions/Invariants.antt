use Rattle.std.proofs.Common.{◌≡◌, ◌++◌, take}
use Rattle.std.specs.List.{flat_map}
use Rattle.ipa_journal.specs.Texts.{tx_line_text}
use Rattle.ipa_journal.proofs.writing.write_transactions.Given as goal

-- the transactions so far are printed
abbrev pub invariant-loop-line : goal.invariant-loop-line
invariant-loop-line l =
    l.page ≡ l.initial.page ++ flat_map (tx_line_text l.spec l.elements l.origins) (take l.line-index l.transactions)
