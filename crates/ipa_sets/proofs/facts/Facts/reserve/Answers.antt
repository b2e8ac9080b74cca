use Rattle.std.proofs.Common.{◌*◌, List, map, Option, sym, ◌∙◌, ap, arith}
use Rattle.std.specs.Prelude.{unwrap_or}
use Rattle.ipa_history.specs.declared.history.Tx.{Tx}
use Rattle.ipa_sets.specs.Fitting.{truth_in}
use Rattle.ipa_sets.specs.Rows.{no_row}
use Rattle.ipa_sets.proofs.TruthLemmas.{told-same, truth-rows}
use Rattle.ipa_sets.proofs.facts.Facts.reserve.Goals as goal

pub invariant_of-self-2 : goal.invariant_of-self-2
invariant_of-self-2 c = let v = c.args.self.now in record {
  rising = v.rising;
  told = c.reserve.ensures.truths
      ∙ (told-same (truth_in v.adds_win v.base c.reserve-2.new.self) (truth_in v.adds_win v.base v.rows) v.known.facts.items v.known.truths.items
      v.told (truth-rows v.rows c.reserve-2.new.self v.adds_win v.base
      (λ k. ap (λ (x : Option (List (Option Tx))). unwrap_or x no_row) (c.reserve-2.ensures.same k)))
      ∙ sym (ap (map (truth_in v.adds_win v.base c.reserve-2.new.self)) c.reserve.ensures.facts));
}

pub returns-clause-kept : goal.returns-clause-kept
returns-clause-kept c n room = record {
  known = c.reserve.ensures.kept (12 * n) room.known;
  rows = let rows = room.rows in let more = c.reserve-2.ensures.spare in omega (arith, rows, more);
}
