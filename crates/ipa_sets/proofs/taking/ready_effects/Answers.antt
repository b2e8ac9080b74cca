use Rattle.ipa_sets.proofs.FilingLemmas.{roomier_along}
use Rattle.ipa_sets.proofs.TakingLemmas.{readied_more}
use Rattle.ipa_sets.proofs.taking.ready_effects.Goals as goal

pub loop-place-preserved : goal.loop-place-preserved
loop-place-preserved c = record {
  ready = readied_more c.args.spec.now c.args.tx.now c.loop-place.filed.lists c.ready_effect_at.new.filed.lists c.loop-place.known
      c.ready_effect_at.new.known c.loop-place.place c.loop-place.invariant.ready c.ready_effect_at.ensures.roomier
      c.ready_effect_at.ensures.kept c.in_ok-ready_effect_at.ensures.ready;
  roomier = roomier_along c.args.filed.now.lists c.loop-place.filed.lists c.ready_effect_at.new.filed.lists c.loop-place.invariant.roomier
      c.ready_effect_at.ensures.roomier;
  kept = λ f h. c.ready_effect_at.ensures.kept f (c.loop-place.invariant.kept f h);
}
