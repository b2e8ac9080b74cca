use Rattle.std.proofs.Common.{◌≡◌, take}
use Rattle.ipa_sets.specs.Keys.{add_key}
use Rattle.ipa_sets.specs.Rows.{row_in, last_of_keys, lasts_of_rows}
use Rattle.ipa_sets.proofs.rows.Rows.lasts_on.Given as goal

abbrev pub invariant-loop-key : goal.invariant-loop-key
invariant-loop-key l = l.lasts ≡ lasts_of_rows (row_in l.self (add_key l.fact)) (last_of_keys l.self (take l.key-index l.key-items))
