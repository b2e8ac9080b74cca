use Rattle.std.proofs.Common.{◌≡◌, length, refl, sym, ◌∙◌, ap, subst, rules}
use Rattle.std.proofs.lemmas.List.{length-set}
use Rattle.ipa_clock.specs.declared.cut.Cut.{Cut}
use Rattle.ipa_clock.specs.Cut.{raised}
use Rattle.ipa_gate.specs.Calms.{IsCalmBelow}
use Rattle.ipa_gate.proofs.CalmLemmas.{start_none, start_after}
use Rattle.ipa_gate.proofs.calm.calm_start.Goals as goal

pub returns-then-number-eq0 : goal.returns-then-number-eq0
returns-then-number-eq0 c =
    subst (λ (x : Cut). IsCalmBelow c.args.spec.now c.args.base.now c.args.index.now.entries c.args.cut.now x)
    (sym c.empty.ensures)
    (start_none c.args.spec.now c.args.universe.now.sizes c.args.base.now c.args.index.now.entries c.args.cut.now
    c.requires.at)

pub returns-in-Op : goal.returns-in-Op
returns-in-Op c =
    let h = c.args.index.now.entries in
    let last = c.in_ok-last.last.now in
    let wide : length c.raised.result.counts ≡ 16 = search rules in
    let raised_wide : length (raised last.cut last.dot).counts ≡ length last.cut.counts
    = length-set last.cut.counts last.dot.origin last.dot.number in
    let width : length last.cut.counts ≡ 16 = sym raised_wide
    ∙ (ap (λ (x : Cut). length x.counts) (sym c.raised.ensures) ∙ wide) in
    subst (λ (x : Cut). IsCalmBelow c.args.spec.now c.args.base.now h c.args.cut.now x) (sym c.raised.ensures)
    (start_after c.args.spec.now c.args.universe.now.sizes c.args.base.now h c.args.cut.now c.requires.at _ last
    c.in-Op.field-0 (c.in_ok-last.ensures c.args.spec.now c.requires.indexed) refl c.in-Op.is width)
