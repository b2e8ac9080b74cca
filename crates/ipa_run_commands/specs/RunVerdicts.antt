-- What a command that runs a schedule says of a document, and what it hands back beside its status: the end of the run,
-- or the fates that were given until a log was without room.
--
--   is_of_run status         the status is one that such an input can have: done, not accepted, refused or full
--   Handed, nothing          what is handed back; and that nothing is
--   handed_of ran            what is handed back of a run
--   IsTurnedDown bytes status text     one of the first cases applies: there is no run
--   IsTold telling number bytes ran status text    none applies, and this is the run of the document, with its status
--                            and text
--   RunVerdict telling number handed bytes status text    what the command says of an input
--   IsOfRun number ran status          the run is one of some document, and this is its status
--   IsHandedBy number handed status    what is handed back beside a status
--   answer_in, handed_in     the answer that the steps of a command end with, and what they hand back
--   IsRunIn number ended     what they hand back is of a run, and has its status
--   IfGiven P handed         where fates are handed back, they are so
--   handed_with answer       what an answer hands back
--   AnswersRun telling number Untouched edge P answer     all clauses of the call; the fates that it hands back are so
use Rattle.std.specs.Prelude.{◌≡◌, ◌≤◌, ◌⊎◌, ℕ, Bool, true, false, List, length, Option, Some, None, IfSome, Result, Ok, Err}
use Rattle.ipa_history.specs.declared.outcomes.Fate.{Fate}
use Rattle.ipa_history.specs.declared.outcomes.SimEnd.{SimEnd}
use Rattle.ipa_logic.specs.Acceptance.{IsAccepted}
use Rattle.ipa_pairs.specs.Width.{IsDeclared, IsNarrow}
use Rattle.ipa_reader.specs.Documents.{ReadsAs}
use Rattle.ipa_reader.specs.declared.document.Document.{Document}
use Rattle.ipa_command.specs.Answers.{AnswersInput, Edge}
use Rattle.ipa_command.specs.Verdicts.{AfterLength, AfterReading, AfterWidth, AfterAcceptance, Nothing, longest_document}
use Rattle.ipa_command.specs.declared.status.Status.{Status}
use Rattle.ipa_command.specs.declared.status.Status.TheVariants as statuses
use Rattle.ipa_command.specs.declared.answers.Answer.{Answer}
use Rattle.ipa_command.specs.declared.answers.Stop.{Stop}
use Rattle.ipa_command.specs.declared.answers.Stop.TheVariants as stop
use Rattle.ipa_run_commands.specs.Runs.{IsRunOf, run_status, told}
use Rattle.ipa_run_commands.specs.declared.runs.Ran.{Ran}
use Rattle.ipa_run_commands.specs.declared.runs.Ran.TheVariants.{Ended, Full}
use Rattle.ipa_run_commands.specs.declared.runs.Told.{Told}
use Rattle.ipa_run_commands.specs.declared.telling.Telling.{Telling}
use Rattle.ipa_run_commands.specs.declared.simulated.SimAnswer.{SimAnswer}

-- done, not accepted, refused or full
abbrev pub is_of_run : Status → Bool
is_of_run statuses.Done = true
is_of_run statuses.Rejected = true
is_of_run statuses.Refused = true
is_of_run statuses.Full = true
is_of_run _ = false

-- there is no run: not accepted, or refused
abbrev pub is_turned_down : Status → Bool
is_turned_down statuses.Rejected = true
is_turned_down statuses.Refused = true
is_turned_down _ = false

-- what is handed back beside a status
pub record Handed : Type 0 where
  pub end : Option SimEnd
  pub full : Option (List (List Fate))

-- where there was no run
abbrev pub nothing : Handed
nothing = record { end = None; full = None }

-- of a run: its end, or the fates until a log was without room
abbrev pub handed_of : Ran → Handed
handed_of (Ended end) = record { end = Some end; full = None }
handed_of (Full fates) = record { end = None; full = Some fates }

-- the bytes have no reading, a live triple is too wide, or the specification is not accepted
abbrev pub IsUnfit : List ℕ → Status → List ℕ → Type 0
IsUnfit bytes status text =
    AfterReading bytes (λ document. AfterWidth document.spec (AfterAcceptance document.spec Nothing)) status text

-- the input is too long, or this
abbrev pub IsTurnedDown : List ℕ → Status → List ℕ → Type 0
IsTurnedDown bytes status text = AfterLength longest_document bytes (IsUnfit bytes) status text

-- the bytes read as a document whose specification is accepted, and this is its run, with its status and text
pub record IsTold (telling : Telling) (number : ℕ) (bytes : List ℕ) (ran : Ran) (status : Status) (text : List ℕ) :
    Type 0 where
  pub document : Document
  pub within : length bytes ≤ longest_document
  pub reads : ReadsAs bytes document
  pub narrow : IsNarrow document.spec (IsDeclared document.spec)
  pub accepted : IsAccepted document.spec
  pub run : IsRunOf document number ran
  pub status_is : status ≡ run_status ran
  pub text_is : text ≡ told telling number document ran

-- what the command says of an input: there is no run, and nothing is handed back; or there is one, and it is handed back
pub data RunVerdict (telling : Telling) (number : ℕ) (handed : Handed) (bytes : List ℕ) (status : Status)
    (text : List ℕ) : Type 0 where
  turned_down : handed ≡ nothing → IsTurnedDown bytes status text → RunVerdict telling number handed bytes status text
  runs : (ran : Ran) → handed ≡ handed_of ran → IsTold telling number bytes ran status text →
      RunVerdict telling number handed bytes status text

-- the run is one of some document, and this is its status
pub record IsOfRun (number : ℕ) (ran : Ran) (status : Status) : Type 0 where
  pub document : Document
  pub run : IsRunOf document number ran
  pub status_is : status ≡ run_status ran

-- what is handed back is such a run
pub record IsHandedRun (number : ℕ) (handed : Handed) (status : Status) : Type 0 where
  pub ran : Ran
  pub handed_is : handed ≡ handed_of ran
  pub of_run : IsOfRun number ran status

-- what is handed back beside a status: a run with the statuses of runs, nothing with the others; where the sink failed,
-- nothing or a run
abbrev pub IsHandedBy : ℕ → Handed → Status → Type 0
IsHandedBy number handed statuses.Done = IsHandedRun number handed statuses.Done
IsHandedBy number handed statuses.Full = IsHandedRun number handed statuses.Full
IsHandedBy number handed statuses.WriteFault =
    (handed ≡ nothing) ⊎ ((status : Status) × IsHandedRun number handed status)
IsHandedBy number handed _ = handed ≡ nothing

-- the answer that the steps of a command end with
abbrev pub answer_in : Result Told Stop → Result Answer Stop
answer_in (Ok told) = Ok told.answer
answer_in (Err stopped) = Err stopped

-- what they hand back
abbrev pub handed_in : Result Told Stop → Handed
handed_in (Ok told) = handed_of told.ran
handed_in (Err stopped) = nothing

-- where they are stopped by an answer, there is no run
abbrev pub IsStoppedSo : Stop → Type 0
IsStoppedSo (stop.Answered answer) = is_turned_down answer.status ≡ true
IsStoppedSo stop.ReadFault = Unit {0}
IsStoppedSo stop.NoMemory = Unit {0}

-- what they hand back is of a run, and has its status
abbrev pub IsRunIn : ℕ → Result Told Stop → Type 0
IsRunIn number (Ok told) = IsOfRun number told.ran told.answer.status
IsRunIn number (Err stopped) = IsStoppedSo stopped

-- where fates are handed back, they are so
abbrev pub IfGiven : (List (List Fate) → Type 0) → Handed → Type 0
IfGiven P handed = IfSome handed.end (λ end. P end.fates) × IfSome handed.full P

-- what an answer hands back
abbrev pub handed_with : SimAnswer → Handed
handed_with answer = record { end = answer.end; full = answer.full }

-- all clauses of the call: the verdict on what the source holds is answered and written, what is handed back is of a run,
-- and the fates that are handed back are so
pub record AnswersRun (telling : Telling) (number : ℕ) (Untouched : Type 0) (edge : Edge)
    (P : List (List Fate) → Type 0) (answer : SimAnswer) : Type 0 where
  pub answers : AnswersInput is_of_run (RunVerdict telling number (handed_with answer)) Untouched edge answer.status
  pub handed : IsHandedBy number (handed_with answer) answer.status
  pub fates : IfGiven P (handed_with answer)
