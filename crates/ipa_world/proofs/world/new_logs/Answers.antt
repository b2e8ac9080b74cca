use Rattle.std.proofs.Common.{◌≡◌, ◌+◌, List, [], map, replicate, sym, ◌∙◌, subst}
use Rattle.ipa_gate.specs.Logs.{LogParts}
use Rattle.ipa_world.specs.Standing.{entries_of, AreLogged}
use Rattle.ipa_world.proofs.StartLemmas.{logs_next, AreLogged-push}
use Rattle.ipa_world.proofs.world.new_logs.Goals as goal

pub loop-number-preserved : goal.loop-number-preserved
loop-number-preserved c = record {
  entries = subst (λ (xs : List LogParts). map entries_of xs ≡ replicate (c.loop-number.number + 1) [])
      (sym c.in_ok-push.ensures.items)
      (logs_next c.loop-number.logs.items c.loop-number.number c.new.result c.loop-number.invariant.entries
      c.new.ensures.entries);
  logged = subst (λ (xs : List LogParts). AreLogged c.args.setting.now xs) (sym c.in_ok-push.ensures.items)
      (AreLogged-push c.args.setting.now c.loop-number.logs.items c.new.result c.loop-number.invariant.logged
      (c.new.ensures.setting ∙ c.in_ok-copy.ensures));
}
