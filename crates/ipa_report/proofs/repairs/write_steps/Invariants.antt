use Rattle.std.proofs.Common.{◌≡◌, ◌++◌, take}
use Rattle.std.specs.List.{flat_map}
use Rattle.ipa_report.specs.RepairTexts.{step_text}
use Rattle.ipa_report.proofs.repairs.write_steps.Given as goal

-- the steps so far are printed
abbrev pub invariant-loop-step : goal.invariant-loop-step
invariant-loop-step l = l.page ≡ l.initial.page ++ flat_map (step_text l.spec) (take l.step-index l.steps)
