use Rattle.std.proofs.Common.{◌≡◌, ◌++◌, take}
use Rattle.std.specs.List.{flat_map}
use Rattle.ipa_report.specs.Reports.{unsafe_text}
use Rattle.ipa_report.proofs.reports.write_unsafe_drops.Given as goal

-- the unsafe drops so far are printed
abbrev pub invariant-loop-unsafe_drop : goal.invariant-loop-unsafe_drop
invariant-loop-unsafe_drop l = l.page ≡ l.initial.page ++ flat_map (unsafe_text l.spec) (take l.unsafe_drop-index l.unsafe_drops)
