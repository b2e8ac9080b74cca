use Rattle.std.proofs.Common.{◌≡◌, ◌++◌, codes, take}
use Rattle.std.specs.List.{flat_map}
use Rattle.ipa_report.specs.RepairTexts.{part_text}
use Rattle.ipa_report.proofs.repairs.write_parts.Given as goal

-- the later parts so far are printed, each behind the text between
abbrev pub invariant-loop-part : goal.invariant-loop-part
invariant-loop-part l = l.page ≡ l.initial.page ++ flat_map (λ part. codes "; " ++ part_text l.spec part) (take l.part-index l.later)
