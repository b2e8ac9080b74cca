-- An input has one verdict.
--
--   one-check      an input has one verdict of `check`
--   OneRepair      a specification has one repair
--   one-repaired   an input has one verdict of `repair`
use Rattle.std.proofs.Common.{◌≡◌, ℕ, List, ap, sym, ◌∙◌}
use Rattle.ipa_spec.specs.Fits.{IsFit}
use Rattle.ipa_spec.specs.declared.specification.Specification.{Specification}
use Rattle.ipa_repair.specs.Greedy.{IsRepaired}
use Rattle.ipa_repair.specs.declared.steps.Repaired.{Repaired}
use Rattle.ipa_report.specs.RepairTexts.{repair_text}
use Rattle.ipa_command.specs.Verdicts.{AfterWidth, AfterAcceptance, longest_document}
use Rattle.ipa_command.specs.VerdictLaws.{AreOne, IsOne, one-after_length, one-after_reading, one-after_width, one-after_acceptance}
use Rattle.ipa_document_commands.specs.Checks.{IsAcceptance, IsChecked, CheckVerdict}
use Rattle.ipa_document_commands.specs.Repairs.{IsRepairOf, IsRepairJudged, RepairVerdict, repaired_status}

-- an input has one verdict of `check`
pub one-check : AreOne → (bytes : List ℕ) → IsOne (CheckVerdict bytes)
one-check laws bytes =
    one-after_length longest_document bytes (IsChecked bytes)
    (one-after_reading laws bytes (λ document. AfterWidth document.spec (AfterAcceptance document.spec IsAcceptance))
    (λ document reads fit. one-after_width laws document.spec (AfterAcceptance document.spec IsAcceptance)
    (one-after_acceptance laws document.spec fit IsAcceptance
    (λ status end text other h k. (h.status_is ∙ sym k.status_is, h.text_is ∙ sym k.text_is)))))

-- there is one repair of a fit specification
abbrev pub OneRepair : Type 0
OneRepair = (s : Specification) (one other : Repaired) → IsFit s → IsRepaired s one → IsRepaired s other → one ≡ other

-- so there is one status and text of it
one-repair_of : OneRepair → (s : Specification) → IsFit s → IsOne (IsRepairOf s)
one-repair_of law s fit status end text other h k =
    let same : h.repaired ≡ k.repaired = law s h.repaired k.repaired fit h.is_repaired k.is_repaired in (
      h.status_is ∙ (ap repaired_status same ∙ sym k.status_is),
      h.text_is ∙ (ap repair_text same ∙ sym k.text_is),
    )

-- an input has one verdict of `repair`
pub one-repaired : AreOne → OneRepair → (bytes : List ℕ) → IsOne (RepairVerdict bytes)
one-repaired laws law bytes =
    one-after_length longest_document bytes (IsRepairJudged bytes)
    (one-after_reading laws bytes (λ document. AfterWidth document.spec (IsRepairOf document.spec))
    (λ document reads fit. one-after_width laws document.spec (IsRepairOf document.spec)
    (one-repair_of law document.spec fit)))
