-- From the steps of a command that runs a schedule to its verdict, and to what it hands back.
--
--   of_run           no verdict of a run has the status of a fault or of want of memory
--   run-of_run, turned-of_run      so it is with the status of a run, and of an input that is turned down
--   unfit-turned, turned-down      an input that is turned down is not accepted, or refused
--   told-answer      a run is an answer to the input that it is of
--   handed-by        what is handed back beside a status
--   given-of         the fates that are handed back
--   answers-run      all clauses of the call
--   overlong-answered, overlong-stopped            how the steps end where the source failed, or held too much
--   judged-answered, judged-run, judged-given      how the steps end on an input that was read
use Rattle.std.proofs.Common.{◌≡◌, ◌≤◌, ◌<◌, ◌⊎◌, inl, inr, ℕ, true, false, List, length, Option, Some, None, IfSome, Result, Ok, Err, IfOk, IfErr, refl, sym, ap, ◌∙◌, subst}
use Rattle.std.specs.Io.KnownBytes.{IsAtEnd}
use Rattle.ipa_history.specs.declared.outcomes.Fate.{Fate}
use Rattle.ipa_base.specs.Faults.{Rose}
use Rattle.ipa_command.specs.StepLaws.{stops-weaker}
use Rattle.ipa_command.specs.Answers.{AnswersInput, Edge, IsVerdictOn}
use Rattle.ipa_command.specs.AnswerLaws.{IsOfVerdicts, answers-input}
use Rattle.ipa_command.specs.Statuses.{is_cut_off, is_of_input}
use Rattle.ipa_command.specs.Steps.{IsAnswer, IsAnswered, IsInput, IsJudgement, IsOverlong, IsSaid, IsWritten, StopsWith}
use Rattle.ipa_command.specs.Steps.IsSaid.{whole, part}
use Rattle.ipa_command.specs.Verdicts.{longest_document}
use Rattle.ipa_command.specs.Verdicts.AfterLength.{too_long, within}
use Rattle.ipa_command.specs.Verdicts.AfterReading.{unread, read}
use Rattle.ipa_command.specs.Verdicts.AfterWidth.{too_wide, narrow}
use Rattle.ipa_command.specs.Verdicts.AfterAcceptance.{rejected, accepted}
use Rattle.ipa_command.specs.declared.status.Status.{Status}
use Rattle.ipa_command.specs.declared.status.Status.TheVariants.{Done, Rejected, Usage, Refused, ReadFault, WriteFault, NoMemory, Full as FullStatus}
use Rattle.ipa_command.specs.declared.answers.Stop.{Stop}
use Rattle.ipa_command.specs.declared.answers.Stop.TheVariants as stop
use Rattle.ipa_run_commands.specs.Runs.{run_status, fates_of}
use Rattle.ipa_run_commands.specs.RunVerdicts.{is_of_run, is_turned_down, Handed, nothing, handed_of, IsUnfit, IsTurnedDown, IsTold, RunVerdict, IsOfRun, IsHandedRun, IsHandedBy, answer_in, handed_in, IsStoppedSo, IsRunIn, IfGiven, handed_with, AnswersRun}
use Rattle.ipa_run_commands.specs.RunVerdicts.RunVerdict.{turned_down, runs}
use Rattle.ipa_run_commands.specs.declared.runs.Ran.{Ran}
use Rattle.ipa_run_commands.specs.declared.runs.Ran.TheVariants.{Ended, Full}
use Rattle.ipa_run_commands.specs.declared.runs.Told.{Told}
use Rattle.ipa_run_commands.specs.declared.telling.Telling.{Telling}
use Rattle.ipa_run_commands.specs.declared.simulated.SimAnswer.{SimAnswer}

-- no verdict of a run has the status of a fault or of want of memory
pub of_run : IsOfVerdicts is_of_run
of_run = record { whole = each }
  where
    each : (status : Status) → is_of_run status ≡ true → is_cut_off status ≡ false
    each Done m = refl
    each Rejected m = refl
    each Usage m = refl
    each Refused m = refl
    each ReadFault m = cc
    each WriteFault m = cc
    each NoMemory m = cc
    each FullStatus m = refl

-- the status of a run is one of those
pub run-of_run : (ran : Ran) → is_of_run (run_status ran) ≡ true
run-of_run (Ended end) = refl
run-of_run (Full fates) = refl

-- so is that of an input that is turned down
pub turned-of_run : (status : Status) → is_turned_down status ≡ true → is_of_run status ≡ true
turned-of_run Done m = refl
turned-of_run Rejected m = refl
turned-of_run Usage m = cc
turned-of_run Refused m = refl
turned-of_run ReadFault m = cc
turned-of_run WriteFault m = cc
turned-of_run NoMemory m = cc
turned-of_run FullStatus m = refl

-- an input that is turned down is not accepted, or refused
pub unfit-turned : (bytes : List ℕ) (status : Status) (text : List ℕ) → IsUnfit bytes status text → is_turned_down status ≡ true
unfit-turned bytes status text (unread e h) = ap is_turned_down e
unfit-turned bytes status text (read document is_read (too_wide e h)) = ap is_turned_down e
unfit-turned bytes status text (read document is_read (narrow n (rejected e h))) = ap is_turned_down e
unfit-turned bytes status text (read document is_read (narrow n (accepted a never))) = absurd never

pub turned-down : (bytes : List ℕ) (status : Status) (text : List ℕ) → IsTurnedDown bytes status text → is_turned_down status ≡ true
turned-down bytes status text (too_long l e t) = ap is_turned_down e
turned-down bytes status text (within l h) = unfit-turned bytes status text h

-- what is said of the bytes that a source held is said of what it tells
on-told : (Verdict : List ℕ → Status → List ℕ → Type 0) (left : Option (List ℕ)) (bytes : List ℕ) (status : Status) (text : List ℕ) → IfSome left (λ all. bytes ≡ all) → Verdict bytes status text → IsVerdictOn Verdict left status text
on-told Verdict None bytes status text same h = tt
on-told Verdict (Some all) bytes status text same h = subst (λ (list : List ℕ). Verdict list status text) same h

-- a run is an answer to the input that it is of
pub told-answer : (telling : Telling) (number : ℕ) (before after : Option (List ℕ)) (bytes : List ℕ) (ran : Ran) (status : Status) (text : List ℕ) → IfSome before (λ all. bytes ≡ all) → IsAtEnd after → IsTold telling number bytes ran status text → IsAnswer is_of_run (RunVerdict telling number (handed_of ran)) before after status text
told-answer telling number before after bytes ran status text all end h = record {
  verdict = on-told (RunVerdict telling number (handed_of ran)) before bytes status text all (runs ran refl h);
  may_be = ap is_of_run h.status_is ∙ run-of_run ran;
  end = λ other. end;
}

-- an input that is turned down is answered so
pub turned-answer : (telling : Telling) (number : ℕ) (before after : Option (List ℕ)) (bytes : List ℕ) (status : Status) (text : List ℕ) → IfSome before (λ all. bytes ≡ all) → IsAtEnd after → length bytes ≤ longest_document → IsUnfit bytes status text → IsAnswer is_of_run (RunVerdict telling number nothing) before after status text
turned-answer telling number before after bytes status text all end short h = record {
  verdict = on-told (RunVerdict telling number nothing) before bytes status text all (turned_down refl (within short h));
  may_be = turned-of_run status (unfit-turned bytes status text h);
  end = λ other. end;
}

-- what is handed back of a run, whose answer was written whole or in part
run-handed : (number : ℕ) (ran : Ran) (meant status : Status) → IsOfRun number ran meant → (status ≡ meant) ⊎ (status ≡ WriteFault) → IsHandedBy number (handed_of ran) status
run-handed number ran meant status h (inl e) =
    let run : IsHandedRun number (handed_of ran) (run_status ran) = record { ran = ran; handed_is = refl; of_run = subst (λ (s : Status). IsOfRun number ran s) h.status_is h } in
    subst (λ (s : Status). IsHandedBy number (handed_of ran) s) (sym (e ∙ h.status_is)) (by-ran ran run)
  where
    by-ran : (other : Ran) → IsHandedRun number (handed_of ran) (run_status other) → IsHandedBy number (handed_of ran) (run_status other)
    by-ran (Ended end) run = run
    by-ran (Full fates) run = run
run-handed number ran meant status h (inr e) =
    subst (λ (s : Status). IsHandedBy number (handed_of ran) s) (sym e)
    (inr (meant, record { ran = ran; handed_is = refl; of_run = h }))

-- nothing is handed back where there is no run
none-handed : (number : ℕ) (meant status : Status) → is_turned_down meant ≡ true → (status ≡ meant) ⊎ (status ≡ WriteFault) → IsHandedBy number nothing status
none-handed number Rejected status m (inl e) = subst (λ (s : Status). IsHandedBy number nothing s) (sym e) refl
none-handed number Refused status m (inl e) = subst (λ (s : Status). IsHandedBy number nothing s) (sym e) refl
none-handed number Done status m (inl e) = cc
none-handed number Usage status m (inl e) = cc
none-handed number ReadFault status m (inl e) = cc
none-handed number WriteFault status m (inl e) = cc
none-handed number NoMemory status m (inl e) = cc
none-handed number FullStatus status m (inl e) = cc
none-handed number meant status m (inr e) = subst (λ (s : Status). IsHandedBy number nothing s) (sym e) (inl refl)

said-so : (before after : Option (List ℕ)) (old new : ℕ) (text : List ℕ) (meant status : Status) → IsSaid before after old new text meant status → (status ≡ meant) ⊎ (status ≡ WriteFault)
said-so before after old new text meant status (whole e w) = inl e
said-so before after old new text meant status (part e rose w) = inr e

-- what is handed back beside a status
pub handed-by : (number : ℕ) (Untouched : Type 0) (before after : Option (List ℕ)) (old new : ℕ) (ended : Result Told Stop) (status : Status) → IsRunIn number ended → IsWritten Untouched before after old new (answer_in ended) status → IsHandedBy number (handed_in ended) status
handed-by number Untouched before after old new (Ok told) status h w =
    run-handed number told.ran told.answer.status status h (said-so before after old new told.answer.text.items told.answer.status status w)
handed-by number Untouched before after old new (Err (stop.Answered answer)) status h w =
    none-handed number answer.status status h (said-so before after old new answer.text.items answer.status status w)
handed-by number Untouched before after old new (Err stop.ReadFault) status h w =
    subst (λ (s : Status). IsHandedBy number nothing s) (sym w.0) refl
handed-by number Untouched before after old new (Err stop.NoMemory) status h w =
    subst (λ (s : Status). IsHandedBy number nothing s) (sym w.0) refl

-- the fates that are handed back of a run
pub given-of : (P : List (List Fate) → Type 0) (ran : Ran) → P (fates_of ran) → IfGiven P (handed_of ran)
given-of P (Ended end) h = (h, tt)
given-of P (Full fates) h = (tt, h)

-- all clauses of the call
pub answers-run : (telling : Telling) (number : ℕ) (Untouched : Type 0) (edge : Edge) (P : List (List Fate) → Type 0) (ended : Result Told Stop) (answer : SimAnswer) → IsAnswered is_of_run (RunVerdict telling number (handed_in ended)) edge.left_before edge.left_after edge.read_faults_before edge.read_faults_after (answer_in ended) → IsRunIn number ended → IfGiven P (handed_in ended) → IsWritten Untouched edge.written_before edge.written_after edge.write_faults_before edge.write_faults_after (answer_in ended) answer.status → handed_with answer ≡ handed_in ended → edge.write_faults_before ≤ edge.write_faults_after → AnswersRun telling number Untouched edge P answer
answers-run telling number Untouched edge P ended answer answered run fates written handed count = record {
  answers = subst (λ (h : Handed). AnswersInput is_of_run (RunVerdict telling number h) Untouched edge answer.status) (sym handed)
      (answers-input is_of_run of_run (RunVerdict telling number (handed_in ended)) Untouched edge (answer_in ended) answer.status answered written count);
  handed = subst (λ (h : Handed). IsHandedBy number h answer.status) (sym handed)
      (handed-by number Untouched edge.written_before edge.written_after edge.write_faults_before edge.write_faults_after ended answer.status run written);
  fates = subst (λ (h : Handed). IfGiven P h) (sym handed) fates;
}

-- an input that is too long is answered so
pub overlong-answer : (telling : Telling) (number : ℕ) (before after : Option (List ℕ)) (status : Status) (text : List ℕ) → IsOverlong longest_document before status text → IsAnswer is_of_run (RunVerdict telling number nothing) before after status text
overlong-answer telling number before after status text h = record {
  verdict = on before h.long;
  may_be = ap is_of_run h.status_is;
  end = λ other. absurd (other h.status_is);
} where
  on : (left : Option (List ℕ)) → IfSome left (λ all. longest_document < length all) → IsVerdictOn (RunVerdict telling number nothing) left status text
  on None long = tt
  on (Some all) long = turned_down refl (too_long long h.status_is h.text_is)

-- how the steps end where the source failed, or held too much
pub overlong-answered : (telling : Telling) (number : ℕ) (before after : Option (List ℕ)) (old new : ℕ) (stopped : Stop) → StopsWith (Rose old new) (IsOverlong longest_document before) stopped → old ≤ new → IsAnswered is_of_run (RunVerdict telling number nothing) before after old new (Err stopped)
overlong-answered telling number before after old new stopped h count = record {
  ends = stops-weaker (Rose old new) (Rose old new) (IsOverlong longest_document before) (IsAnswer is_of_run (RunVerdict telling number nothing) before after) (λ rose. rose) (overlong-answer telling number before after) stopped h;
  count = count;
}

pub overlong-stopped : (before : Option (List ℕ)) (Fault : Type 0) (stopped : Stop) → StopsWith Fault (IsOverlong longest_document before) stopped → IsStoppedSo stopped
overlong-stopped before Fault (stop.Answered answer) h = ap is_turned_down h.status_is
overlong-stopped before Fault stop.ReadFault h = tt
overlong-stopped before Fault stop.NoMemory h = tt

-- how the steps end on an input that was read
pub judged-answered : (telling : Telling) (number : ℕ) (before after : Option (List ℕ)) (old new : ℕ) (bytes : List ℕ) → IsInput longest_document before after bytes → old ≤ new → (ended : Result Told Stop) → IfOk ended (λ t. IsTold telling number bytes t.ran t.answer.status t.answer.text.items) → IfErr ended (StopsWith ⊥ (IsJudgement is_of_input (IsUnfit bytes))) → IsAnswered is_of_run (RunVerdict telling number (handed_in ended)) before after old new (answer_in ended)
judged-answered telling number before after old new bytes input count (Ok t) told stops = record {
  ends = told-answer telling number before after bytes t.ran t.answer.status t.answer.text.items input.all input.end told;
  count = count;
}
judged-answered telling number before after old new bytes input count (Err stopped) told stops = record {
  ends = stops-weaker ⊥ (Rose old new) (IsJudgement is_of_input (IsUnfit bytes)) (IsAnswer is_of_run (RunVerdict telling number nothing) before after) (λ never. absurd never)
      (λ status text h. turned-answer telling number before after bytes status text input.all input.end input.within h.says)
      stopped stops;
  count = count;
}

unfit-stopped : (bytes : List ℕ) (stopped : Stop) → StopsWith ⊥ (IsJudgement is_of_input (IsUnfit bytes)) stopped → IsStoppedSo stopped
unfit-stopped bytes (stop.Answered answer) h = unfit-turned bytes answer.status answer.text.items h.says
unfit-stopped bytes stop.ReadFault h = tt
unfit-stopped bytes stop.NoMemory h = tt

pub judged-run : (telling : Telling) (number : ℕ) (bytes : List ℕ) (ended : Result Told Stop) → IfOk ended (λ t. IsTold telling number bytes t.ran t.answer.status t.answer.text.items) → IfErr ended (StopsWith ⊥ (IsJudgement is_of_input (IsUnfit bytes))) → IsRunIn number ended
judged-run telling number bytes (Ok t) told stops = record { document = told.document; run = told.run; status_is = told.status_is }
judged-run telling number bytes (Err stopped) told stops = unfit-stopped bytes stopped stops

pub judged-given : (P : List (List Fate) → Type 0) (ended : Result Told Stop) → IfOk ended (λ t. P (fates_of t.ran)) → IfGiven P (handed_in ended)
judged-given P (Ok t) h = given-of P t.ran h
judged-given P (Err stopped) h = (tt, tt)
