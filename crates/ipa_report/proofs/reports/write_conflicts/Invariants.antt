use Rattle.std.proofs.Common.{◌≡◌, ◌++◌, take}
use Rattle.std.specs.List.{flat_map}
use Rattle.ipa_report.specs.Reports.{conflict_text}
use Rattle.ipa_report.proofs.reports.write_conflicts.Given as goal

-- the conflicts so far are printed
abbrev pub invariant-loop-conflict : goal.invariant-loop-conflict
invariant-loop-conflict l = l.page ≡ l.initial.page ++ flat_map (conflict_text l.spec) (take l.conflict-index l.conflicts)
