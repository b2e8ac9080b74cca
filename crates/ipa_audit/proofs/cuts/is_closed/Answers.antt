use Rattle.std.proofs.Common.{◌≡◌, length, true, refl, arith}
use Rattle.ipa_audit.proofs.CutLemmas.{closed_lasts, below_closed, lasts_closed}
use Rattle.ipa_audit.proofs.cuts.is_closed.Goals as goal

pub returns-then-is_below : goal.returns-then-is_below
returns-then-is_below c =
    let wide : length c.args.cut.now.counts ≡ 16 = omega arith in
    let h = c.args.index.now.entries in (
      λ x. closed_lasts h c.requires.history c.args.cut.now c.clock.result wide (c.clock.ensures c.args.spec.now c.requires)
          (c.if-is_below.ensures.0 refl) (c.are_lasts_below.ensures.0 x),
      λ is. c.are_lasts_below.ensures.1 (lasts_closed h c.requires.history c.args.cut.now is),
    )

pub returns-else-is_below : goal.returns-else-is_below
returns-else-is_below c =
    let wide : length c.args.cut.now.counts ≡ 16 = omega arith in (
      λ x. absurd (let no : c.is_below.result ≡ true = x in cc),
      λ is. c.is_below.ensures.1 (below_closed c.args.index.now.entries c.requires.history c.args.cut.now c.clock.result wide
          (c.clock.ensures c.args.spec.now c.requires) is),
    )
