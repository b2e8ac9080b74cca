-- What a command answers that reads an input: the clauses of its call, over what its source and its sink tell. They are
-- the same for all such commands. What a command has of its own is its verdict, the status and the text that an input
-- has, and which statuses its verdict may have.
--
--   IsVerdictOn Verdict left status text     where the source tells what it held, its verdict is this
--   IsWhole Verdict left status old new      the status is the verdict's, and the verdict's text has been appended
--   IsPart Verdict left old new              a part of the verdict's text has been appended, from its first byte on
--   Edge                                     what the source and the sink tell, before and after
--   AnswersInput may Verdict Untouched edge status   all clauses of the call, where `Untouched` says that the sink is
--                                            as it was
use Rattle.std.specs.Prelude.{◌≡◌, ◌≤◌, ◌⊎◌, ℕ, List, Option, Bool, true, false, ◌||◌, IfSome}
use Rattle.std.specs.Io.KnownBytes.{Appends, IsAtEnd}
use Rattle.ipa_base.specs.Faults.{Rose}
use Rattle.ipa_base.specs.Bytes.{AppendsPart}
use Rattle.ipa_command.specs.Statuses.{is_cut_off}
use Rattle.ipa_command.specs.declared.status.Status.{Status}
use Rattle.ipa_command.specs.declared.status.Status.TheVariants.{Done, Rejected, ReadFault, WriteFault, NoMemory}

-- where the source tells what it held, its verdict is this
abbrev pub IsVerdictOn : (List ℕ → Status → List ℕ → Type 0) → Option (List ℕ) → Status → List ℕ → Type 0
IsVerdictOn Verdict left status text = IfSome left (λ bytes. Verdict bytes status text)

-- the status is the verdict's, and the verdict's text has been appended
pub record IsWhole (Verdict : List ℕ → Status → List ℕ → Type 0) (left : Option (List ℕ)) (status : Status)
    (old new : Option (List ℕ)) : Type 0 where
  pub text : List ℕ
  pub verdict : IsVerdictOn Verdict left status text
  pub written : Appends old new text

-- a part of the verdict's text has been appended, from its first byte on
pub record IsPart (Verdict : List ℕ → Status → List ℕ → Type 0) (left old new : Option (List ℕ)) : Type 0 where
  pub status : Status
  pub text : List ℕ
  pub verdict : IsVerdictOn Verdict left status text
  pub written : AppendsPart old new text

-- what a source and a sink tell, before a call and after it
pub record Edge : Type 0 where
  -- the bytes that are left in the source
  pub left_before : Option (List ℕ)
  pub left_after : Option (List ℕ)
  -- how often the source has failed
  pub read_faults_before : ℕ
  pub read_faults_after : ℕ
  -- the bytes that are written to the sink
  pub written_before : Option (List ℕ)
  pub written_after : Option (List ℕ)
  -- how often the sink has failed
  pub write_faults_before : ℕ
  pub write_faults_after : ℕ

-- all clauses of a call that reads an input and answers the verdict on it
pub record AnswersInput (may : Status → Bool) (Verdict : List ℕ → Status → List ℕ → Type 0) (Untouched : Type 0)
    (edge : Edge) (status : Status) : Type 0 where
  -- no status comes but those that the verdict may have, and those of a fault and of want of memory
  pub answered : (is_cut_off status || may status) ≡ true
  -- without a fault and without want of memory, the status is the verdict's and its text is written
  pub on_verdict : is_cut_off status ≡ false →
      IsWhole Verdict edge.left_before status edge.written_before edge.written_after
  -- a read fault: the source failed, and nothing was written
  pub on_read_fault : status ≡ ReadFault → Rose edge.read_faults_before edge.read_faults_after
  pub untouched_on_read_fault : status ≡ ReadFault → Untouched
  -- a write fault: the sink failed, and a part of the verdict's text was written
  pub on_write_fault : status ≡ WriteFault → Rose edge.write_faults_before edge.write_faults_after
  pub part_on_write_fault : status ≡ WriteFault →
      IsPart Verdict edge.left_before edge.written_before edge.written_after
  -- want of memory: nothing was written
  pub untouched_on_no_memory : status ≡ NoMemory → Untouched
  -- an input that is accepted or not accepted was read to its end
  pub read_to_end : (status ≡ Done) ⊎ (status ≡ Rejected) → IsAtEnd edge.left_after
  -- the counts of faults never fall
  pub read_faults : edge.read_faults_before ≤ edge.read_faults_after
  pub write_faults : edge.write_faults_before ≤ edge.write_faults_after
