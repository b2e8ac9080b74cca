-- The steps of a command that reads an input: it reads, it comes to an answer or is stopped, and it writes.
--
--   StopsWith Fault Says stop           what stops a step: an answer of which `Says` tells, a fault of the source, of
--                                       which `Fault` tells, or want of memory
--   Ends Fault Says ended               how the steps end: with an answer of which `Says` tells, or stopped
--   IsJudgement may Says status text    `Says` holds of the two, and the status is one that the verdict may have
--   IsInput most before after bytes     the bytes are all that the source held, and no more than this many
--   IsOverlong most before status text  the source held more, and the answer says so
--   IsAnswer may Verdict before after status text    the verdict on what the source held, which was read to its end if
--                                       it is not refused
--   IsAnswered may Verdict before after old new ended    how the steps up to the answer end
--   IsSaid before after old new text meant status    the text was written, or a part of it where the sink failed
--   IsWritten Untouched before after old new ended status    what is written of the answer that the steps ended with
use Rattle.std.specs.Prelude.{◌≡◌, ◌≢◌, ℕ, ◌≤◌, ◌<◌, List, length, Option, Bool, true, Result, Ok, Err, IfSome}
use Rattle.std.specs.Io.KnownBytes.{Appends, IsAtEnd}
use Rattle.ipa_base.specs.Faults.{Rose}
use Rattle.ipa_base.specs.Bytes.{AppendsPart}
use Rattle.ipa_command.specs.Answers.{IsVerdictOn}
use Rattle.ipa_command.specs.Verdicts.{too_long_text}
use Rattle.ipa_command.specs.declared.status.Status.{Status}
use Rattle.ipa_command.specs.declared.status.Status.TheVariants.{Refused, ReadFault, WriteFault, NoMemory}
use Rattle.ipa_command.specs.declared.answers.Answer.{Answer}
use Rattle.ipa_command.specs.declared.answers.Stop.{Stop}
use Rattle.ipa_command.specs.declared.answers.Stop.TheVariants as stop

-- an answer of which `Says` tells, a fault of the source, of which `Fault` tells, or want of memory
abbrev pub StopsWith : Type 0 → (Status → List ℕ → Type 0) → Stop → Type 0
StopsWith Fault Says (stop.Answered answer) = Says answer.status answer.text.items
StopsWith Fault Says stop.ReadFault = Fault
StopsWith Fault Says stop.NoMemory = Unit {0}

-- an answer of which `Says` tells, or what stopped the steps
abbrev pub Ends : Type 0 → (Status → List ℕ → Type 0) → Result Answer Stop → Type 0
Ends Fault Says (Ok answer) = Says answer.status answer.text.items
Ends Fault Says (Err stopped) = StopsWith Fault Says stopped

-- `Says` holds of the two, and the status is one that the verdict may have
pub record IsJudgement (may : Status → Bool) (Says : Status → List ℕ → Type 0) (status : Status) (text : List ℕ) :
    Type 0 where
  pub says : Says status text
  pub may_be : may status ≡ true

-- the bytes are all that the source held, and no more than this many
pub record IsInput (most : ℕ) (before after : Option (List ℕ)) (bytes : List ℕ) : Type 0 where
  pub all : IfSome before (λ all. bytes ≡ all)
  pub end : IsAtEnd after
  pub within : length bytes ≤ most

-- the source held more, and the answer says so
pub record IsOverlong (most : ℕ) (before : Option (List ℕ)) (status : Status) (text : List ℕ) : Type 0 where
  pub long : IfSome before (λ all. most < length all)
  pub status_is : status ≡ Refused
  pub text_is : text ≡ too_long_text

-- the verdict on what the source held, which was read to its end if it is not refused
pub record IsAnswer (may : Status → Bool) (Verdict : List ℕ → Status → List ℕ → Type 0)
    (before after : Option (List ℕ)) (status : Status) (text : List ℕ) : Type 0 where
  pub verdict : IsVerdictOn Verdict before status text
  pub may_be : may status ≡ true
  pub end : status ≢ Refused → IsAtEnd after

-- how the steps up to the answer end
pub record IsAnswered (may : Status → Bool) (Verdict : List ℕ → Status → List ℕ → Type 0)
    (before after : Option (List ℕ)) (old new : ℕ) (ended : Result Answer Stop) : Type 0 where
  pub ends : Ends (Rose old new) (IsAnswer may Verdict before after) ended
  pub count : old ≤ new

-- the text was written and the status is the one meant; or the sink failed, and a part of the text was written
pub data IsSaid (before after : Option (List ℕ)) (old new : ℕ) (text : List ℕ) (meant status : Status) : Type 0 where
  whole : status ≡ meant → Appends before after text → IsSaid before after old new text meant status
  part : status ≡ WriteFault → Rose old new → AppendsPart before after text →
      IsSaid before after old new text meant status

-- what is written of the answer that the steps ended with; nothing, where they have none
abbrev pub IsWritten : Type 0 → Option (List ℕ) → Option (List ℕ) → ℕ → ℕ → Result Answer Stop → Status → Type 0
IsWritten Untouched before after old new (Ok answer) status =
    IsSaid before after old new answer.text.items answer.status status
IsWritten Untouched before after old new (Err (stop.Answered answer)) status =
    IsSaid before after old new answer.text.items answer.status status
IsWritten Untouched before after old new (Err stop.ReadFault) status = (status ≡ ReadFault) × Untouched
IsWritten Untouched before after old new (Err stop.NoMemory) status = (status ≡ NoMemory) × Untouched
