use Rattle.std.proofs.Common.{◌≡◌, length, true, refl, arith}
use Rattle.ipa_history.proofs.ClosedLemmas.{IsClosed-from_parts, IsBelow-from_closed, AllBelow-from_closed}
use Rattle.ipa_history.proofs.history.History.is_closed.Goals as goal

pub returns-then-is_below : goal.returns-then-is_below
returns-then-is_below c =
    let wide : length c.args.cut.now.counts ≡ 16 = omega arith in (
      λ h. IsClosed-from_parts c.args.self.now c.args.cut.now c.clock.result wide c.clock.ensures
          (c.if-is_below.ensures.0 refl) (c.are_below.ensures.0 h),
      λ is. c.are_below.ensures.1 (AllBelow-from_closed c.args.self.now c.args.cut.now c.clock.result wide c.clock.ensures is),
    )

pub returns-else-is_below : goal.returns-else-is_below
returns-else-is_below c =
    let wide : length c.args.cut.now.counts ≡ 16 = omega arith in (
      λ h. absurd (let no : c.is_below.result ≡ true = h in cc),
      λ is. c.is_below.ensures.1 (IsBelow-from_closed c.args.self.now c.args.cut.now c.clock.result wide c.clock.ensures is),
    )
