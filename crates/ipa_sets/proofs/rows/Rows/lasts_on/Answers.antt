use Rattle.std.proofs.Common.{[], false, ◌∙◌, ap, List, length, arith}
use Rattle.ipa_sets.specs.Keys.{add_key}
use Rattle.ipa_sets.specs.Rows.{row_in, lasts_of_rows, last_of_keys, lasts_in, removing_row}
use Rattle.ipa_sets.specs.declared.keys.Key.{Key}
use Rattle.std.proofs.lemmas.List.{take_all}
use Rattle.ipa_sets.proofs.RowLemmas.{lasts-more}
use Rattle.ipa_sets.proofs.rows.Rows.lasts_on.Goals as goal

pub loop-key-init : goal.loop-key-init
loop-key-init c = c.adds_on-lasts.ensures

pub loop-key-preserved : goal.loop-key-preserved
loop-key-preserved c = lasts-more c.args.self.now (row_in c.args.self.now (add_key c.args.fact.now)) c.remove_keys.result c.loop-key.key-index
    (record { adds = false; pattern = record { predicate = 0; places = [] } }) c.loop-key.lasts c.raise.new.lasts
    (omega (arith, ap length c.remove_keys.ensures)) c.loop-key.invariant c.raise.ensures

pub returns : goal.returns
unfolding lasts_in removing_row
returns c = c.loop-key.invariant
    ∙ ap (λ (ks : List Key). lasts_of_rows (row_in c.args.self.now (add_key c.args.fact.now)) (last_of_keys c.args.self.now ks))
    (take_all c.loop-key.key-index c.remove_keys.result (omega (arith, ap length c.remove_keys.ensures)) ∙ c.remove_keys.ensures)
