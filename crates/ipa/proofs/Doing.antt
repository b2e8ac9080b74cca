-- What a command does is what the answer tells that is made of its own.
--
--   plainly      a command that runs no schedule
--   running      a command that runs one
--   saying       no command
--   as-named     the words name this command
use Rattle.std.proofs.Common.{◌≡◌, ◌≤◌, ℕ, List, Option, Some, None, sym, subst}
use Rattle.ipa_history.specs.declared.outcomes.Fate.{Fate}
use Rattle.ipa_command.specs.Answers.{AnswersInput, Edge}
use Rattle.ipa_command.specs.Statuses.{is_of_input}
use Rattle.ipa_command.specs.Steps.{IsSaid}
use Rattle.ipa_command.specs.declared.status.Status.{Status}
use Rattle.ipa_command.specs.declared.status.Status.TheVariants.{Usage}
use Rattle.ipa_run_commands.specs.RunVerdicts.{AnswersRun}
use Rattle.ipa_run_commands.specs.declared.simulated.SimAnswer.{SimAnswer}
use Rattle.ipa_run_commands.specs.declared.telling.Telling.{Telling}
use Rattle.ipa_words.specs.Commands.{IsCommand, usage_text}
use Rattle.ipa_words.specs.declared.commands.Command.{Command}
use Rattle.ipa.specs.Obeying.{DoesCommand, DoesPlainly, DoesRun, Obeys, SaysUsage}
use Rattle.ipa.specs.Obeying.Obeys.{named}
use Rattle.ipa.specs.declared.commands.MainAnswer.{MainAnswer}

pub plainly : (Verdict : List ℕ → Status → List ℕ → Type 0) (Untouched Unasked : Type 0) (edge : Edge) (answer : MainAnswer) (status : Status) → AnswersInput is_of_input Verdict Untouched edge status → answer.status ≡ status → answer.simulated ≡ None → Unasked → DoesPlainly Verdict Untouched Unasked edge answer
plainly Verdict Untouched Unasked edge answer status h same nothing unasked = record {
  answers = subst (λ (s : Status). AnswersInput is_of_input Verdict Untouched edge s) (sym same) h;
  nothing = nothing;
  unasked = unasked;
}

pub running : (telling : Telling) (number : ℕ) (Untouched : Type 0) (edge : Edge) (P : List (List Fate) → Type 0) (answer : MainAnswer) (run : SimAnswer) → AnswersRun telling number Untouched edge P run → answer.status ≡ run.status → answer.simulated ≡ Some run → DoesRun telling number Untouched edge P answer
running telling number Untouched edge P answer run h same handed = record {
  simulated = run;
  handed = handed;
  status_is = same;
  answers = h;
}

pub saying : (Unread Unasked : Type 0) (edge : Edge) (answer : MainAnswer) (status : Status) → IsSaid edge.written_before edge.written_after edge.write_faults_before edge.write_faults_after usage_text Usage status → edge.write_faults_before ≤ edge.write_faults_after → answer.status ≡ status → answer.simulated ≡ None → Unread → Unasked → SaysUsage Unread Unasked edge answer
saying Unread Unasked edge answer status said counted same nothing unread unasked = record {
  said = subst (λ (s : Status). IsSaid edge.written_before edge.written_after edge.write_faults_before edge.write_faults_after usage_text Usage s) (sym same) said;
  counted = counted;
  nothing = nothing;
  unread = unread;
  unasked = unasked;
}

pub as-named : (Untouched Unread Unasked : Type 0) (edge : Edge) (P : List (List Fate) → Type 0) (answer : MainAnswer) (texts : List (List ℕ)) (command other : Command) → IsCommand texts other → other ≡ command → DoesCommand Untouched Unread Unasked edge P answer command → Obeys Untouched Unread Unasked edge P answer texts
as-named Untouched Unread Unasked edge P answer texts command other is same does =
    named command (subst (λ (c : Command). IsCommand texts c) same is) does
