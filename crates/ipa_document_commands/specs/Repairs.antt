-- What `repair` says of an input, which is a document.
--
--   repaired_status repaired            whether a repair is done or stuck, as a status
--   IsRepairOf s status text            the status and the text are those of the greedy repair
--   IsRepairJudged bytes status text    what `repair` says of an input that is not too long
--   RepairVerdict bytes status text     what `repair` says of an input
use Rattle.std.specs.Prelude.{◌≡◌, ℕ, List}
use Rattle.ipa_spec.specs.declared.specification.Specification.{Specification}
use Rattle.ipa_repair.specs.Greedy.{IsRepaired}
use Rattle.ipa_repair.specs.declared.steps.Repaired.{Repaired}
use Rattle.ipa_repair.specs.declared.steps.Repaired.TheVariants as end
use Rattle.ipa_report.specs.RepairTexts.{repair_text}
use Rattle.ipa_command.specs.Verdicts.{AfterLength, AfterReading, AfterWidth, longest_document}
use Rattle.ipa_command.specs.declared.status.Status.{Status}
use Rattle.ipa_command.specs.declared.status.Status.TheVariants.{Done, Rejected}

-- the repair is done, or stuck
abbrev pub repaired_status : Repaired → Status
repaired_status (end.Done next steps) = Done
repaired_status (end.Stuck s steps analysis) = Rejected

-- the status and the text are those of the greedy repair
pub record IsRepairOf (s : Specification) (status : Status) (text : List ℕ) : Type 0 where
  pub repaired : Repaired
  pub is_repaired : IsRepaired s repaired
  pub status_is : status ≡ repaired_status repaired
  pub text_is : text ≡ repair_text repaired

-- what `repair` says of an input that is not too long
abbrev pub IsRepairJudged : List ℕ → Status → List ℕ → Type 0
IsRepairJudged bytes status text =
    AfterReading bytes (λ document. AfterWidth document.spec (IsRepairOf document.spec)) status text

-- what `repair` says of an input
abbrev pub RepairVerdict : List ℕ → Status → List ℕ → Type 0
RepairVerdict bytes status text = AfterLength longest_document bytes (IsRepairJudged bytes) status text
