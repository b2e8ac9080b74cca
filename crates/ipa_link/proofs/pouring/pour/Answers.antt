use Rattle.std.proofs.Common.{◌∙◌, subst, drop, arith}
use Rattle.ipa_gate.specs.Settings.{SettingParts}
use Rattle.ipa_link.specs.Counting.{IsStep}
use Rattle.ipa_link.proofs.Progress.{stepped, below_more, less_left}
use Rattle.ipa_link.proofs.pouring.pour.Goals as goal

pub loop-poured-smaller : goal.loop-poured-smaller
loop-poured-smaller c =
    let more = c.loop-poured-test.true in
    let less = less_left c.loop-poured.log.setting c.args.bytes.now c.loop-poured.poured c.in-Ok.next
    c.loop-poured.log.entries c.pour_one.new.log.entries more c.in-Ok.ensures.step in
    omega (arith, less, more)

pub loop-poured-preserved : goal.loop-poured-preserved
loop-poured-preserved c =
    let start = c.args.log.now in
    let bytes = c.args.bytes.now in
    let p = c.loop-poured.poured in
    let q = c.in-Ok.next in
    let mid = c.loop-poured.log.entries in
    let after = c.pour_one.new.log.entries in
    let so_far = c.loop-poured.invariant in
    let step : IsStep start.setting mid (drop p.read bytes) p q after
    = subst (λ (s : SettingParts). IsStep s mid (drop p.read bytes) p q after) so_far.setting c.in-Ok.ensures.step in
    record {
      pour = stepped start.setting start.entries bytes p q mid after so_far.pour step;
      setting = c.in-Ok.ensures.setting ∙ so_far.setting;
      below = below_more start.setting (drop p.read bytes) p q mid after so_far.below step;
      going = c.in-Ok.ensures.going ∙ so_far.going;
    }
