-- All clauses of a call that reads an input, by how the steps up to its answer end and by what is written of it.
--
--   IsOfVerdicts may    no verdict has the status of a fault or of want of memory
--   of_input            so it is with the statuses that an input has
--   answers-input       the clauses of the call
use Rattle.std.proofs.Common.{◌≡◌, ◌≤◌, inl, inr, ℕ, List, Result, Ok, Err, Bool, true, false, ◌||◌, refl, sym, ap, ◌∙◌, subst}
use Rattle.std.proofs.lemmas.Bool.{false≢true}
use Rattle.std.specs.Io.KnownBytes.{Appends}
use Rattle.ipa_base.specs.Faults.{Rose}
use Rattle.ipa_base.specs.Bytes.{AppendsPart}
use Rattle.ipa_command.specs.Statuses.{is_cut_off, is_of_input}
use Rattle.ipa_command.specs.Answers.{Edge, AnswersInput}
use Rattle.ipa_command.specs.Steps.{IsAnswer, IsAnswered, IsSaid, IsWritten}
use Rattle.ipa_command.specs.Steps.IsSaid.{whole, part}
use Rattle.ipa_command.specs.declared.status.Status.{Status}
use Rattle.ipa_command.specs.declared.status.Status.TheVariants.{Done, Rejected, Usage, Refused, ReadFault, WriteFault, NoMemory, Full}
use Rattle.ipa_command.specs.declared.answers.Answer.{Answer}
use Rattle.ipa_command.specs.declared.answers.Stop.{Stop}
use Rattle.ipa_command.specs.declared.answers.Stop.TheVariants as stop

-- no verdict has the status of a fault or of want of memory
pub record IsOfVerdicts (may : Status → Bool) : Type 0 where
  pub whole : (status : Status) → may status ≡ true → is_cut_off status ≡ false

pub of_input : IsOfVerdicts is_of_input
of_input = record { whole = each }
  where
    each : (status : Status) → is_of_input status ≡ true → is_cut_off status ≡ false
    each Done m = refl
    each Rejected m = refl
    each Usage m = refl
    each Refused m = refl
    each ReadFault m = cc
    each WriteFault m = cc
    each NoMemory m = cc
    each Full m = refl

-- the counts of faults have not fallen
record Counted (edge : Edge) : Type 0 where
  read : edge.read_faults_before ≤ edge.read_faults_after
  write : edge.write_faults_before ≤ edge.write_faults_after

module _ (may : Status → Bool) (of_verdicts : IsOfVerdicts may) (Verdict : List ℕ → Status → List ℕ → Type 0) (Untouched : Type 0) (edge : Edge) (counted : Counted edge) where
  -- the status of a verdict is none of those that cut an answer off
  apart : (status other : Status) → may status ≡ true → is_cut_off other ≡ true → status ≡ other → ⊥
  apart status other m cut e = false≢true (sym (of_verdicts.whole status m) ∙ (ap is_cut_off e ∙ cut))

  -- the answer was written whole
  said-whole : (status : Status) (text : List ℕ) → IsAnswer may Verdict edge.left_before edge.left_after status text → Appends edge.written_before edge.written_after text → AnswersInput may Verdict Untouched edge status
  said-whole status text a w = record {
    answered = ap (λ b. b || may status) (of_verdicts.whole status a.may_be) ∙ a.may_be;
    on_verdict = λ whole. record { text = text; verdict = a.verdict; written = w };
    on_read_fault = λ e. absurd (apart status ReadFault a.may_be refl e);
    untouched_on_read_fault = λ e. absurd (apart status ReadFault a.may_be refl e);
    on_write_fault = λ e. absurd (apart status WriteFault a.may_be refl e);
    part_on_write_fault = λ e. absurd (apart status WriteFault a.may_be refl e);
    untouched_on_no_memory = λ e. absurd (apart status NoMemory a.may_be refl e);
    read_to_end = λ h. a.end (λ r. elim h [ inl d ↦ cc | inr d ↦ cc ]);
    read_faults = counted.read;
    write_faults = counted.write;
  }

  -- the sink failed, and a part was written
  said-part : (status : Status) (text : List ℕ) → IsAnswer may Verdict edge.left_before edge.left_after status text → Rose edge.write_faults_before edge.write_faults_after → AppendsPart edge.written_before edge.written_after text → AnswersInput may Verdict Untouched edge WriteFault
  said-part status text a rose w = record {
    answered = refl;
    on_verdict = λ e. cc;
    on_read_fault = λ e. cc;
    untouched_on_read_fault = λ e. cc;
    on_write_fault = λ e. rose;
    part_on_write_fault = λ e. record { status = status; text = text; verdict = a.verdict; written = w };
    untouched_on_no_memory = λ e. cc;
    read_to_end = λ h. elim h [ inl d ↦ cc | inr d ↦ cc ];
    read_faults = counted.read;
    write_faults = counted.write;
  }

  said : (meant status : Status) (text : List ℕ) → IsAnswer may Verdict edge.left_before edge.left_after meant text → IsSaid edge.written_before edge.written_after edge.write_faults_before edge.write_faults_after text meant status → AnswersInput may Verdict Untouched edge status
  said meant status text a (whole e w) = subst (λ (s : Status). AnswersInput may Verdict Untouched edge s) (sym e) (said-whole meant text a w)
  said meant status text a (part e rose w) = subst (λ (s : Status). AnswersInput may Verdict Untouched edge s) (sym e) (said-part meant text a rose w)

  -- the source failed, and nothing was written
  read_failed : Rose edge.read_faults_before edge.read_faults_after → Untouched → AnswersInput may Verdict Untouched edge ReadFault
  read_failed rose untouched = record {
    answered = refl;
    on_verdict = λ e. cc;
    on_read_fault = λ e. rose;
    untouched_on_read_fault = λ e. untouched;
    on_write_fault = λ e. cc;
    part_on_write_fault = λ e. cc;
    untouched_on_no_memory = λ e. cc;
    read_to_end = λ h. elim h [ inl d ↦ cc | inr d ↦ cc ];
    read_faults = counted.read;
    write_faults = counted.write;
  }

  -- memory ran out, and nothing was written
  out_of_memory : Untouched → AnswersInput may Verdict Untouched edge NoMemory
  out_of_memory untouched = record {
    answered = refl;
    on_verdict = λ e. cc;
    on_read_fault = λ e. cc;
    untouched_on_read_fault = λ e. cc;
    on_write_fault = λ e. cc;
    part_on_write_fault = λ e. cc;
    untouched_on_no_memory = λ e. untouched;
    read_to_end = λ h. elim h [ inl d ↦ cc | inr d ↦ cc ];
    read_faults = counted.read;
    write_faults = counted.write;
  }

  by_end : (ended : Result Answer Stop) (status : Status) → IsAnswered may Verdict edge.left_before edge.left_after edge.read_faults_before edge.read_faults_after ended → IsWritten Untouched edge.written_before edge.written_after edge.write_faults_before edge.write_faults_after ended status → AnswersInput may Verdict Untouched edge status
  by_end (Ok answer) status h w = said answer.status status answer.text.items h.ends w
  by_end (Err (stop.Answered answer)) status h w = said answer.status status answer.text.items h.ends w
  by_end (Err stop.ReadFault) status h w = subst (λ (s : Status). AnswersInput may Verdict Untouched edge s) (sym w.0) (read_failed h.ends w.1)
  by_end (Err stop.NoMemory) status h w = subst (λ (s : Status). AnswersInput may Verdict Untouched edge s) (sym w.0) (out_of_memory w.1)

-- the clauses of the call
pub answers-input : (may : Status → Bool) → IsOfVerdicts may → (Verdict : List ℕ → Status → List ℕ → Type 0) (Untouched : Type 0) (edge : Edge) (ended : Result Answer Stop) (status : Status) → IsAnswered may Verdict edge.left_before edge.left_after edge.read_faults_before edge.read_faults_after ended → IsWritten Untouched edge.written_before edge.written_after edge.write_faults_before edge.write_faults_after ended status → edge.write_faults_before ≤ edge.write_faults_after → AnswersInput may Verdict Untouched edge status
answers-input may of_verdicts Verdict Untouched edge ended status answered written count =
    by_end may of_verdicts Verdict Untouched edge (record { read = answered.count; write = count }) ended status answered written
