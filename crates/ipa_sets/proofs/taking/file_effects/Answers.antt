use Rattle.ipa_sets.proofs.TakingLemmas.{rising_stays, files_more, rooms_stay}
use Rattle.ipa_sets.proofs.taking.file_effects.Goals as goal

pub file_effect_at-requires-clause-rising : goal.file_effect_at-requires-clause-rising
file_effect_at-requires-clause-rising c = rising_stays c.args.spec.now c.args.tx.now c.args.filed.now.lists c.loop-place.filed.lists
    c.loop-place.place c.loop-place.invariant.files c.requires.rising

pub loop-place-preserved : goal.loop-place-preserved
loop-place-preserved c = record {
  files = files_more c.args.spec.now c.args.tx.now c.args.filed.now.lists c.loop-place.filed.lists c.file_effect_at.new.filed.lists
      c.loop-place.place c.loop-place.invariant.files c.file_effect_at.ensures;
  rooms = rooms_stay c.args.spec.now c.args.tx.now c.loop-place.filed.lists c.file_effect_at.new.filed.lists c.loop-place.place
      c.file_effect_at.ensures c.loop-place.invariant.rooms;
}
