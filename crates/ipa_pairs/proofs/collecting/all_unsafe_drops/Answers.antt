use Rattle.std.proofs.Common.{subst}
use Rattle.ipa_pairs.specs.Collecting.{ExtendsDrops, IsDeclaredDrop}
use Rattle.ipa_pairs.proofs.CollectLemmas.{AreReportedDrops-from_extends}
use Rattle.ipa_pairs.proofs.collecting.all_unsafe_drops.Goals as goal

pub returns : goal.returns
returns c =
    let s = c.args.spec.now in
    AreReportedDrops-from_extends s c.push_unsafe_drops.new.unsafe_drops
    (subst (λ old. ExtendsDrops s (IsDeclaredDrop s) old c.push_unsafe_drops.new.unsafe_drops) c.new-unsafe_drops.ensures
    c.in_ok-push_unsafe_drops.ensures.extends)
