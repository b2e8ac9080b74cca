-- What the program does: the clauses of the one command that its words name.
--
--   DoesPlainly Verdict Untouched Unasked edge answer    a command that runs no schedule
--   DoesRun telling number Untouched edge P answer       a command that runs one
--   generated number edge    the edge of a source that holds the generated document
--   DoesCommand Untouched Unread Unasked edge P answer command    all clauses of the command
--   SaysUsage Unread Unasked edge answer    the usage line is written, and nothing else has happened
--   Obeys Untouched Unread Unasked edge P answer texts   the words name a command, and its clauses hold; or they name
--                            none, and the usage line is written
use Rattle.std.specs.Prelude.{◌≡◌, ◌≤◌, ℕ, List, [], Option, Some, None}
use Rattle.ipa_history.specs.declared.outcomes.Fate.{Fate}
use Rattle.ipa_command.specs.Answers.{AnswersInput, Edge}
use Rattle.ipa_command.specs.Statuses.{is_of_input}
use Rattle.ipa_command.specs.Steps.{IsSaid}
use Rattle.ipa_command.specs.declared.status.Status.{Status}
use Rattle.ipa_command.specs.declared.status.Status.TheVariants.{Usage}
use Rattle.ipa_document_commands.specs.Checks.{CheckVerdict}
use Rattle.ipa_document_commands.specs.Repairs.{RepairVerdict}
use Rattle.ipa_journal_commands.specs.Audits.{AuditVerdict}
use Rattle.ipa_journal_commands.specs.Migrations.{MigrateVerdict}
use Rattle.ipa_run_commands.specs.RunVerdicts.{AnswersRun}
use Rattle.ipa_run_commands.specs.declared.simulated.SimAnswer.{SimAnswer}
use Rattle.ipa_run_commands.specs.declared.telling.Telling.{Telling}
use Rattle.ipa_run_commands.specs.declared.telling.Telling.TheVariants.{Journal, Summary}
use Rattle.ipa_work.specs.Workloads.{workload}
use Rattle.ipa_words.specs.Commands.{IsCommand, usage_text}
use Rattle.ipa_words.specs.declared.commands.Command.{Command}
use Rattle.ipa_words.specs.declared.commands.Command.TheVariants.{Check, Repair, Simulate, Generate, Audit, Migrate}
use Rattle.ipa.specs.declared.commands.MainAnswer.{MainAnswer}

-- a command that runs no schedule: the clauses of its verdict, nothing beside its status, and no weather is touched
pub record DoesPlainly (Verdict : List ℕ → Status → List ℕ → Type 0) (Untouched Unasked : Type 0) (edge : Edge)
    (answer : MainAnswer) : Type 0 where
  pub answers : AnswersInput is_of_input Verdict Untouched edge answer.status
  pub nothing : answer.simulated ≡ None
  pub unasked : Unasked

-- a command that runs one: the clauses of its run, and what it answers stands in the answer, with its status
pub record DoesRun (telling : Telling) (number : ℕ) (Untouched : Type 0) (edge : Edge) (P : List (List Fate) → Type 0)
    (answer : MainAnswer) : Type 0 where
  pub simulated : SimAnswer
  pub handed : answer.simulated ≡ Some simulated
  pub status_is : answer.status ≡ simulated.status
  pub answers : AnswersRun telling number Untouched edge P simulated

-- the source of the generated document: it holds that document, and does not fail
abbrev pub generated : ℕ → Edge → Edge
generated number edge = record {
  left_before = Some (workload number);
  left_after = Some [];
  read_faults_before = 0;
  read_faults_after = 0;
  written_before = edge.written_before;
  written_after = edge.written_after;
  write_faults_before = edge.write_faults_before;
  write_faults_after = edge.write_faults_after;
}

-- all clauses of the command; `Untouched` says that the sink is as it was, `Unread` the source, and `Unasked` the weathers
abbrev pub DoesCommand : Type 0 → Type 0 → Type 0 → Edge → (List (List Fate) → Type 0) → MainAnswer → Command → Type 0
DoesCommand Untouched Unread Unasked edge P answer Check = DoesPlainly CheckVerdict Untouched Unasked edge answer
DoesCommand Untouched Unread Unasked edge P answer Repair = DoesPlainly RepairVerdict Untouched Unasked edge answer
DoesCommand Untouched Unread Unasked edge P answer (Simulate number kind) = DoesRun Journal number Untouched edge P answer
DoesCommand Untouched Unread Unasked edge P answer (Generate number) =
    Unread × DoesRun Summary number Untouched (generated number edge) P answer
DoesCommand Untouched Unread Unasked edge P answer Audit = DoesPlainly AuditVerdict Untouched Unasked edge answer
DoesCommand Untouched Unread Unasked edge P answer Migrate = DoesPlainly MigrateVerdict Untouched Unasked edge answer

-- the usage line is written, nothing is read, and no weather is touched
pub record SaysUsage (Unread Unasked : Type 0) (edge : Edge) (answer : MainAnswer) : Type 0 where
  pub said : IsSaid edge.written_before edge.written_after edge.write_faults_before edge.write_faults_after usage_text
      Usage answer.status
  pub counted : edge.write_faults_before ≤ edge.write_faults_after
  pub nothing : answer.simulated ≡ None
  pub unread : Unread
  pub unasked : Unasked

-- the words name a command, and its clauses hold; or they name none, and the usage line is written
pub data Obeys (Untouched Unread Unasked : Type 0) (edge : Edge) (P : List (List Fate) → Type 0) (answer : MainAnswer)
    (texts : List (List ℕ)) : Type 0 where
  named : (command : Command) → IsCommand texts command → DoesCommand Untouched Unread Unasked edge P answer command →
      Obeys Untouched Unread Unasked edge P answer texts
  nameless : ((command : Command) → IsCommand texts command → ⊥) → SaysUsage Unread Unasked edge answer →
      Obeys Untouched Unread Unasked edge P answer texts
