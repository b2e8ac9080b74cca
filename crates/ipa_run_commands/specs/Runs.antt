-- The run of a document by the schedule of a number, and how it is told.
--
--   first_world_of document   the document's world, in which nothing has happened
--   requests_in document      the sessions' lists of requests
--   IsEndOfRun document number end     the end is that of the document's schedule with this number, for its fates
--   IsFullRun document number fates    that schedule meets a log without room, for these fates
--   IsLawfulEndOf document end         the end is lawful for the document, and its final facts are within all bounds
--   IsRunOf document number ran        one of the two runs, and its end is lawful
--   HasOutcomes document ran  an end has one list of outcomes for each session
--   run_status ran, fates_of ran       the status of a run, and the fates that were given in it
--   journal_of document end   the journal of an end
--   full_text                 the line where a log is without room
--   told telling number document ran   the text of a run
use Rattle.std.specs.Prelude.{◌≡◌, ℕ, List, length, map, codes}
use Rattle.ipa_logic.specs.Groups.{Within}
use Rattle.ipa_logic.specs.declared.facts.Request.{Request}
use Rattle.ipa_history.specs.LawfulEnds.{IsLawfulEnd}
use Rattle.ipa_history.specs.declared.outcomes.Fate.{Fate}
use Rattle.ipa_history.specs.declared.outcomes.SimEnd.{SimEnd}
use Rattle.ipa_reader.specs.declared.document.Document.{Document}
use Rattle.ipa_journal.specs.Texts.{end_text}
use Rattle.ipa_world.specs.Worlds.{WorldParts, start_of}
use Rattle.ipa_schedule.specs.Ends.{IsEndOfSchedule, IsFullOf}
use Rattle.ipa_report.specs.Summaries.{summary_text}
use Rattle.ipa_settings.specs.DocumentSettings.{setting_of}
use Rattle.ipa_command.specs.declared.status.Status.{Status}
use Rattle.ipa_command.specs.declared.status.Status.TheVariants as statuses
use Rattle.ipa_run_commands.specs.declared.runs.Ran.{Ran}
use Rattle.ipa_run_commands.specs.declared.runs.Ran.TheVariants.{Ended, Full}
use Rattle.ipa_run_commands.specs.declared.telling.Telling.{Telling}
use Rattle.ipa_run_commands.specs.declared.telling.Telling.TheVariants.{Journal, Summary}

-- the document's world, in which nothing has happened
abbrev pub first_world_of : Document → WorldParts
first_world_of document = start_of (setting_of document) document.setup.sessions document.setup.replicas

-- the sessions' lists of requests
abbrev pub requests_in : Document → List (List Request)
requests_in document = map (λ work. work.requests) document.setup.sessions

-- the document's schedule with this number, for the fates of the end, leads to this end
pub record IsEndOfRun (document : Document) (number : ℕ) (end : SimEnd) : Type 0 where
  pub after : WorldParts
  pub ends : IsEndOfSchedule number (first_world_of document) after end

-- the document's schedule with this number, for these fates, meets a log without room
pub record IsFullRun (document : Document) (number : ℕ) (fates : List (List Fate)) : Type 0 where
  pub after : WorldParts
  pub full : IsFullOf number (first_world_of document) after fates

-- the end is lawful for the document, and its final facts are within all bounds
pub record IsLawfulEndOf (document : Document) (end : SimEnd) : Type 0 where
  pub lawful : IsLawfulEnd document.spec document.setup.universe.sizes document.setup.base (requests_in document)
      end.entries end.outcomes end.last
  pub within : Within document.spec.bounds end.last

-- the end of the run, which is lawful; or the fates until a log was without room
abbrev pub IsRunOf : Document → ℕ → Ran → Type 0
IsRunOf document number (Ended end) = IsEndOfRun document number end × IsLawfulEndOf document end
IsRunOf document number (Full fates) = IsFullRun document number fates

-- an end has one list of outcomes for each session
abbrev pub HasOutcomes : Document → Ran → Type 0
HasOutcomes document (Ended end) = length end.outcomes ≡ length document.setup.sessions
HasOutcomes document (Full fates) = Unit {0}

-- done, or full
abbrev pub run_status : Ran → Status
run_status (Ended end) = statuses.Done
run_status (Full fates) = statuses.Full

-- the fates that were given
abbrev pub fates_of : Ran → List (List Fate)
fates_of (Ended end) = end.fates
fates_of (Full fates) = fates

-- the journal of an end
abbrev pub journal_of : Document → SimEnd → List ℕ
journal_of document end =
    end_text document.spec document.setup.elements (length document.setup.sessions) end.entries end.outcomes end.last

-- the line where a log is without room
abbrev pub full_text : List ℕ
full_text = codes "full\n"

-- the journal of the end, or its summary
abbrev pub end_told : Telling → ℕ → Document → SimEnd → List ℕ
end_told Journal number document end = journal_of document end
end_told Summary number document end = summary_text number end

-- the text of a run
abbrev pub told : Telling → ℕ → Document → Ran → List ℕ
told telling number document (Ended end) = end_told telling number document end
told telling number document (Full fates) = full_text
