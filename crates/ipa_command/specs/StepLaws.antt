-- From what a step says to what the call says that goes on with it.
--
--   stops-weaker, ends-weaker   what stops a step stops the call, and what it ends with ends the call
--   judgement-weaker            a judgement with a case that comes later
--   reading-before, width-before, acceptance-before, width-first
--                               a case of a step is one of the verdict, whatever comes later
--   answered-overlong           an input that is too long is answered so
--   answered-judged             an input is answered by its judgement
--   answered-ended              so the steps up to the answer end
use Rattle.std.proofs.Common.{◌≡◌, ◌<◌, ◌≤◌, ℕ, List, length, Option, Some, None, Result, Ok, Err, Bool, true, sym, subst, IfSome}
use Rattle.ipa_base.specs.Faults.{Rose}
use Rattle.ipa_spec.specs.declared.specification.Specification.{Specification}
use Rattle.ipa_reader.specs.declared.document.Document.{Document}
use Rattle.ipa_command.specs.Verdicts.{AfterLength, AfterReading, AfterWidth, AfterAcceptance, Nothing}
use Rattle.ipa_command.specs.Verdicts.AfterLength.{too_long, within}
use Rattle.ipa_command.specs.Verdicts.AfterReading.{unread, read}
use Rattle.ipa_command.specs.Verdicts.AfterWidth.{too_wide, narrow}
use Rattle.ipa_command.specs.Verdicts.AfterAcceptance.{rejected, accepted}
use Rattle.ipa_command.specs.Answers.{IsVerdictOn}
use Rattle.ipa_command.specs.Steps.{StopsWith, Ends, IsJudgement, IsInput, IsOverlong, IsAnswer, IsAnswered}
use Rattle.ipa_command.specs.declared.status.Status.{Status}
use Rattle.ipa_command.specs.declared.status.Status.TheVariants.{Refused}
use Rattle.ipa_command.specs.declared.answers.Answer.{Answer}
use Rattle.ipa_command.specs.declared.answers.Stop.{Stop}
use Rattle.ipa_command.specs.declared.answers.Stop.TheVariants as stop

-- what stops a step stops the call
pub stops-weaker : (Fault Other : Type 0) (Says Tells : Status → List ℕ → Type 0) → (Fault → Other) → ((status : Status) (text : List ℕ) → Says status text → Tells status text) → (stopped : Stop) → StopsWith Fault Says stopped → StopsWith Other Tells stopped
stops-weaker Fault Other Says Tells fault more (stop.Answered answer) h = more answer.status answer.text.items h
stops-weaker Fault Other Says Tells fault more stop.ReadFault h = fault h
stops-weaker Fault Other Says Tells fault more stop.NoMemory h = h

-- the same of steps that end with an answer
pub ends-weaker : (Fault Other : Type 0) (Says Tells : Status → List ℕ → Type 0) → (Fault → Other) → ((status : Status) (text : List ℕ) → Says status text → Tells status text) → (ended : Result Answer Stop) → Ends Fault Says ended → Ends Other Tells ended
ends-weaker Fault Other Says Tells fault more (Ok answer) h = more answer.status answer.text.items h
ends-weaker Fault Other Says Tells fault more (Err stopped) h = stops-weaker Fault Other Says Tells fault more stopped h

-- a judgement with a case that comes later
pub judgement-weaker : (may : Status → Bool) (Says Tells : Status → List ℕ → Type 0) → ((status : Status) (text : List ℕ) → Says status text → Tells status text) → (stopped : Stop) → StopsWith ⊥ (IsJudgement may Says) stopped → StopsWith ⊥ (IsJudgement may Tells) stopped
judgement-weaker may Says Tells more stopped h =
    stops-weaker ⊥ ⊥ (IsJudgement may Says) (IsJudgement may Tells) (λ never. never)
    (λ status text j. record { says = more status text j.says; may_be = j.may_be })
    stopped h

pub reading-before : (bytes : List ℕ) (Later : Document → Status → List ℕ → Type 0) (status : Status) (text : List ℕ) → AfterReading bytes (λ document. Nothing) status text → AfterReading bytes Later status text
reading-before bytes Later status text (unread s h) = unread s h
reading-before bytes Later status text (read document reads never) = absurd never

pub acceptance-before : (s : Specification) (Later : Status → List ℕ → Type 0) (status : Status) (text : List ℕ) → AfterAcceptance s Nothing status text → AfterAcceptance s Later status text
acceptance-before s Later status text (rejected e h) = rejected e h
acceptance-before s Later status text (accepted h never) = absurd never

pub width-before : (s : Specification) (Later : Status → List ℕ → Type 0) (status : Status) (text : List ℕ) → AfterWidth s (AfterAcceptance s Nothing) status text → AfterWidth s (AfterAcceptance s Later) status text
width-before s Later status text (too_wide e h) = too_wide e h
width-before s Later status text (narrow n h) = narrow n (acceptance-before s Later status text h)

pub width-first : (s : Specification) (Later : Status → List ℕ → Type 0) (status : Status) (text : List ℕ) → AfterWidth s Nothing status text → AfterWidth s Later status text
width-first s Later status text (too_wide e h) = too_wide e h
width-first s Later status text (narrow n never) = absurd never

-- an input that is too long is answered so
pub answered-overlong : (may : Status → Bool) (most : ℕ) (Later : List ℕ → Status → List ℕ → Type 0) (before after : Option (List ℕ)) → may Refused ≡ true → (status : Status) (text : List ℕ) → IsOverlong most before status text → IsAnswer may (λ bytes. AfterLength most bytes (Later bytes)) before after status text
answered-overlong may most Later before after can status text h = record {
  verdict = told before h.long;
  may_be = subst (λ (s : Status). may s ≡ true) (sym h.status_is) can;
  end = λ other. absurd (other h.status_is);
} where
  told : (left : Option (List ℕ)) → IfSome left (λ all. most < length all) → IsVerdictOn (λ bytes. AfterLength most bytes (Later bytes)) left status text
  told None long = tt
  told (Some all) long = too_long long h.status_is h.text_is

-- an input is answered by its judgement
pub answered-judged : (may : Status → Bool) (most : ℕ) (Later : List ℕ → Status → List ℕ → Type 0) (before after : Option (List ℕ)) (bytes : List ℕ) → IsInput most before after bytes → (status : Status) (text : List ℕ) → IsJudgement may (Later bytes) status text → IsAnswer may (λ all. AfterLength most all (Later all)) before after status text
answered-judged may most Later before after bytes input status text h = record {
  verdict = told before input.all;
  may_be = h.may_be;
  end = λ other. input.end;
} where
  told : (left : Option (List ℕ)) → IfSome left (λ all. bytes ≡ all) → IsVerdictOn (λ all. AfterLength most all (Later all)) left status text
  told None same = tt
  told (Some all) same = subst (λ (list : List ℕ). AfterLength most list (Later list) status text) same (within input.within h.says)

-- so the steps up to the answer end
pub answered-ended : (may : Status → Bool) (most : ℕ) (Later : List ℕ → Status → List ℕ → Type 0) (before after : Option (List ℕ)) (old new : ℕ) (bytes : List ℕ) → IsInput most before after bytes → old ≤ new → (ended : Result Answer Stop) → Ends ⊥ (IsJudgement may (Later bytes)) ended → IsAnswered may (λ all. AfterLength most all (Later all)) before after old new ended
answered-ended may most Later before after old new bytes input count ended h = record {
  ends =
      ends-weaker ⊥ (Rose old new) (IsJudgement may (Later bytes)) (IsAnswer may (λ all. AfterLength most all (Later all)) before after)
      (λ never. absurd never)
      (answered-judged may most Later before after bytes input)
      ended h;
  count = count;
}
