use Rattle.std.proofs.Common.{arith, length-drop, length-take}
use Rattle.ipa_base.proofs.Told.{Appends-take}
use Rattle.ipa_base.proofs.writing.write_all.Goals as goal

pub loop-sent-preserved : goal.loop-sent-preserved
loop-sent-preserved g c = record {
  within = let h = simp length-take at c.in-Ok.ensures.bound in omega (arith, h, length-drop c.loop-sent.sent c.args.bytes.now);
  gone = Appends-take _ _ _ _ _ _ c.loop-sent.invariant.gone c.in-Ok.ensures.bytes;
  count = omega (arith, c.in-Ok.ensures.count, c.loop-sent.invariant.count);
}
