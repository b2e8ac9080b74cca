use Rattle.std.proofs.Common.{arith}
use Rattle.ipa_frame.proofs.Fields.{all_read}
use Rattle.ipa_frame.proofs.reading.numbers_at.Goals as goal

pub returns : goal.returns
returns c = all_read c.args.bytes.now c.args.start c.loop-place.numbers c.loop-place.place c.loop-place.invariant (omega arith)
