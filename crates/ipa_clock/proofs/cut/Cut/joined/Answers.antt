use Rattle.std.proofs.Common.{List, ℕ, ap, arith}
use Rattle.ipa_clock.specs.declared.cut.Cut.{Cut}
use Rattle.ipa_clock.proofs.Counts.{GreaterBelow-more, greater_counts-from_below}
use Rattle.ipa_clock.proofs.cut.Cut.joined.Goals as goal

pub loop-origin-preserved : goal.loop-origin-preserved
loop-origin-preserved c = GreaterBelow-more _ _ _ _ _ c.loop-origin.invariant (omega arith) c.max.ensures

pub returns : goal.returns
returns c =
    let cut : List ℕ → Cut = λ counts. record { counts = counts } in
    ap cut (greater_counts-from_below _ _ _ _ c.loop-origin.invariant (omega arith) (omega arith))
