use Rattle.std.proofs.Common.{◌+◌, ◌*◌, refl, arith}
use Rattle.ipa_sets.specs.Fitting.{truth_in}
use Rattle.ipa_sets.specs.Knowns.{fewer-places}
use Rattle.ipa_sets.proofs.TruthLemmas.{told-same, truth-rows}
use Rattle.ipa_sets.proofs.facts.Facts.prepare.Goals as goal

pub invariant_of-self-2 : goal.invariant_of-self-2
invariant_of-self-2 c = let v = c.args.self.now in record {
  rising = v.rising;
  told = told-same (truth_in v.adds_win v.base c.make_rows.new.self) (truth_in v.adds_win v.base v.rows)
      c.insert_added.new.self.facts.items c.insert_added.new.self.truths.items (c.insert_added.ensures.truths v.told)
      (truth-rows v.rows c.make_rows.new.self v.adds_win v.base c.make_rows.ensures.same);
}

pub returns-clause-room : goal.returns-clause-room
returns-clause-room c n room = (
  refl,
  record {
    known = c.insert_added.ensures.left (12 * n)
        (fewer-places (12 * n + 12) (12 * (n + 1)) c.args.self.now.known (omega arith) room.known);
    rows = let rows = room.rows in let less = c.make_rows.ensures.spare in omega (arith, rows, less);
  },
)
