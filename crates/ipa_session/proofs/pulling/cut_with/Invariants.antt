use Rattle.std.proofs.Common.{◌++◌, take}
use Rattle.ipa_history.specs.Clocks.{IsClockOf}
use Rattle.ipa_session.proofs.pulling.cut_with.Given as goal

abbrev pub invariant-loop-tx : goal.invariant-loop-tx
invariant-loop-tx l = IsClockOf (l.fn.seen ++ take l.tx-index l.news) l.raised
