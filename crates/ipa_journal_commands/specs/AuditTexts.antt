-- What is printed of the audit of a journal.
--
--   offer_text s es fault     why a log refuses a transaction
--   fault_text s es fault     why a line is bad
--   legal_text n              that a journal is legal, with so many transactions
--   verdict_text s es verdict     that a journal is legal, or its first bad line
--   unread_text line          a journal has no reading: the line that says so
--
-- `es` are the lists of the names of elements, one for each sort.
use Rattle.std.specs.Prelude.{ℕ, List, [], ◌++◌, codes}
use Rattle.std.specs.Fmt.{decimal}
use Rattle.ipa_spec.specs.declared.names.Name.{Name}
use Rattle.ipa_spec.specs.declared.specification.Specification.{Specification}
use Rattle.ipa_gate.specs.declared.answers.OfferFault.{OfferFault}
use Rattle.ipa_gate.specs.declared.answers.OfferFault.TheVariants.{Shape, Differs, Gap, OpenCut, Full, Illegal, NoMemory}
use Rattle.ipa_journal.specs.Pieces.{text_of}
use Rattle.ipa_journal.specs.Naming.{reason_pieces}
use Rattle.ipa_audit.specs.declared.verdict.AuditFault.{AuditFault}
use Rattle.ipa_audit.specs.declared.verdict.AuditFault.TheVariants.{Offer, Repeated, Outcome, Missing, Final}
use Rattle.ipa_audit.specs.declared.verdict.Verdict.{Verdict}
use Rattle.ipa_audit.specs.declared.verdict.Verdict.TheVariants.{Legal, Bad}

-- why a log refuses a transaction; want of memory stands in no verdict, and has no text
abbrev pub offer_text : Specification → List (List Name) → OfferFault → List ℕ
offer_text s es Shape = codes "shape\n"
offer_text s es (Differs here there) = codes "differs\n"
offer_text s es (Gap origin have need) = codes "gap\n"
offer_text s es (OpenCut member) = codes "open cut\n"
offer_text s es Full = codes "full\n"
offer_text s es (Illegal reason) = codes "illegal " ++ text_of (reason_pieces s es reason)
offer_text s es NoMemory = []

-- why a line is bad
abbrev pub fault_text : Specification → List (List Name) → AuditFault → List ℕ
fault_text s es (Offer fault) = offer_text s es fault
fault_text s es Repeated = codes "repeated\n"
fault_text s es Outcome = codes "outcome\n"
fault_text s es Missing = codes "missing\n"
fault_text s es Final = codes "final\n"

-- that a journal is legal, with so many transactions
abbrev pub legal_text : ℕ → List ℕ
legal_text transactions = codes "legal: " ++ decimal transactions ++ codes " transactions\n"

-- that a journal is legal, or its first bad line
abbrev pub verdict_text : Specification → List (List Name) → Verdict → List ℕ
verdict_text s es (Legal transactions) = legal_text transactions
verdict_text s es (Bad line fault) = codes "bad line " ++ decimal line ++ codes ": " ++ fault_text s es fault

-- a journal has no reading
abbrev pub unread_text : ℕ → List ℕ
unread_text line = codes "refused: journal line " ++ decimal line ++ codes "\n"
