-- The lines of refusals.
--
--   spec_fault_text fault              the words for a fault of a specification
--   kind_text kind                     the words for what is wrong with a line
--   refusal_text line kind             the line that refuses a document at a line
--   too_wide_text s left right k count   the line that refuses a specification for a triple with too many patterns
use Rattle.std.specs.Prelude.{ℕ, List, ◌++◌, codes, decimal}
use Rattle.std.specs.List.{filter_map}
use Rattle.ipa_spec.specs.declared.specification.Specification.{Specification}
use Rattle.ipa_spec.specs.declared.faults.SpecFault.{SpecFault}
use Rattle.ipa_spec.specs.declared.faults.SpecFault.TheVariants.{Arity, SortMismatch, UnknownName, Duplicate, WildAdd, FreeVariable, Limit}
use Rattle.ipa_spec.specs.declared.operations.Action.{Action}
use Rattle.ipa_forms.specs.Layout.{name_text, applied_text}
use Rattle.ipa_reader.specs.declared.refusals.DocKind.{DocKind}
use Rattle.ipa_reader.specs.declared.refusals.DocKind.TheVariants.{BadByte, Existential, BadLine, Spec, Order, UnknownElement, SetupLimit, BaseClause, BaseOver}
use Rattle.ipa_report.specs.Elements.{action_name_text, clause_name_text}

-- a limit that is passed: its number, and the count or number that was found
abbrev pub limit_text : ℕ → ℕ → List ℕ
limit_text which found = codes "limit " ++ decimal which ++ codes " " ++ decimal found

-- the words for a fault of a specification
abbrev pub spec_fault_text : SpecFault → List ℕ
spec_fault_text Arity = codes "arity"
spec_fault_text SortMismatch = codes "sort"
spec_fault_text UnknownName = codes "unknown"
spec_fault_text Duplicate = codes "duplicate"
spec_fault_text WildAdd = codes "wild add"
spec_fault_text FreeVariable = codes "free variable"
spec_fault_text (Limit which found) = limit_text which found

-- the words for what is wrong with a line
abbrev pub kind_text : DocKind → List ℕ
kind_text BadByte = codes "byte"
kind_text Existential = codes "existential"
kind_text BadLine = codes "line"
kind_text (Spec fault) = spec_fault_text fault
kind_text Order = codes "order"
kind_text UnknownElement = codes "element"
kind_text (SetupLimit which found) = limit_text which found
kind_text (BaseClause broken name elements) =
    codes "base clause " ++ applied_text name_text name (filter_map (λ element. element) elements)
kind_text (BaseOver bound name) = codes "base over " ++ name_text name

-- the line that refuses a document at a line
abbrev pub refusal_text : ℕ → DocKind → List ℕ
refusal_text line kind = codes "refused: line " ++ decimal line ++ codes ": " ++ kind_text kind ++ codes "\n"

-- the line that refuses a specification for a triple with too many patterns
abbrev pub too_wide_text : Specification → Action → Action → ℕ → ℕ → List ℕ
too_wide_text s left right k count =
    codes "refused: too wide " ++ action_name_text s left ++ codes " " ++ action_name_text s right
    ++ codes " " ++ clause_name_text s k ++ codes " " ++ decimal count ++ codes "\n"
