use Rattle.std.proofs.Common.{◌≡◌, [], map, replicate}
use Rattle.ipa_world.specs.Standing.{entries_of, AreLogged}
use Rattle.ipa_world.proofs.world.new_logs.Given as goal

abbrev pub invariant-loop-number : goal.invariant-loop-number
invariant-loop-number l = record {
  entries : map entries_of l.logs.items ≡ replicate l.number [];
  logged : AreLogged l.setting l.logs.items;
}
