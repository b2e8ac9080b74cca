use Rattle.std.proofs.Common.{◌≡◌, ◌++◌, take}
use Rattle.std.specs.List.{flat_map}
use Rattle.ipa_journal.specs.Texts.{tx_text}
use Rattle.ipa_journal.proofs.writing.write_entries.Given as goal

-- the transactions so far are printed
abbrev pub invariant-loop-tx : goal.invariant-loop-tx
invariant-loop-tx l = l.page ≡ l.initial.page ++ flat_map (tx_text l.spec l.elements l.origins) (take l.tx-index l.entries)
