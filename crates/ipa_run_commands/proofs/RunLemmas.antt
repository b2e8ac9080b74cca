-- From the parts of a run to what is said of it.
--
--   new-of           the world of a document is new
--   lawful-of        the end is lawful for the document whose world it began with
--   ended-of, full-of     the run of a world is that of its document
--   outcomes-of      it has one list of outcomes for each session
use Rattle.std.proofs.Common.{◌≡◌, ℕ, ◌<◌, List, [], ◌∷◌, length, map, Result, Ok, Err, IfOk, refl, ap, ◌∙◌, subst}
use Rattle.std.proofs.lemmas.List.{length-map}
use Rattle.ipa_logic.specs.Groups.{Within}
use Rattle.ipa_logic.specs.declared.facts.Request.{Request}
use Rattle.ipa_history.specs.LawfulEnds.{IsLawfulEnd}
use Rattle.ipa_history.specs.declared.outcomes.Fate.{Fate}
use Rattle.ipa_history.specs.declared.outcomes.SimEnd.{SimEnd}
use Rattle.ipa_reader.specs.declared.document.Document.{Document}
use Rattle.ipa_reader.specs.declared.sessions.SessionWork.{SessionWork}
use Rattle.ipa_gate.specs.Settings.{SettingParts}
use Rattle.ipa_world.specs.Worlds.{SeatParts, WorldParts, seat_of, start_of}
use Rattle.ipa_schedule.specs.Running.{IsLater, requests_of}
use Rattle.ipa_schedule.specs.Ends.{IsNew, IsEndOfSchedule, IsFullOf, IsLawfulFor}
use Rattle.ipa_settings.specs.DocumentSettings.{setting_of}
use Rattle.ipa_run_commands.specs.Runs.{first_world_of, requests_in, IsEndOfRun, IsFullRun, IsLawfulEndOf}

-- the world of a document is new
pub new-of : {E : Type 0} (document : Document) (setting : SettingParts) → setting ≡ setting_of document → 0 < document.setup.replicas → (r : Result WorldParts E) → IfOk r (λ w. w ≡ start_of setting document.setup.sessions document.setup.replicas) → IfOk r IsNew
new-of document setting same some (Ok w) is = record {
  setting = setting;
  works = document.setup.sessions;
  replicas = document.setup.replicas;
  some = some;
  is = is;
}
new-of document setting same some (Err e) is = tt

-- and it is the document's
pub first-of : {E : Type 0} (document : Document) (setting : SettingParts) → setting ≡ setting_of document → (r : Result WorldParts E) → IfOk r (λ w. w ≡ start_of setting document.setup.sessions document.setup.replicas) → IfOk r (λ w. w ≡ first_world_of document)
first-of document setting same (Ok w) is = is ∙ ap (λ (s : SettingParts). start_of s document.setup.sessions document.setup.replicas) same
first-of document setting same (Err e) is = tt

-- the sessions of a new world have the requests of the setup
asked-first : (works : List SessionWork) → map (λ (seat : SeatParts). seat.requests) (map seat_of works) ≡ map (λ (work : SessionWork). work.requests) works
asked-first [] = refl
asked-first (work ∷ works) = ap (λ (rest : List (List Request)). work.requests ∷ rest) (asked-first works)

-- the end is lawful for the document whose world it began with
pub lawful-of : (document : Document) (after : WorldParts) (end : SimEnd) → IsLater (first_world_of document) after → IsLawfulFor after end → IsLawfulEndOf document end
lawful-of document after end later h =
    let asked : requests_of after ≡ requests_in document = later.requests ∙ asked-first document.setup.sessions in
    let setting : after.setting ≡ setting_of document = later.setting in
    record {
      lawful = subst (λ (s : SettingParts). IsLawfulEnd s.spec s.universe s.base (requests_in document) end.entries end.outcomes end.last) setting
          (subst (λ (rs : List (List Request)). IsLawfulEnd after.setting.spec after.setting.universe after.setting.base rs end.entries end.outcomes end.last) asked h.lawful);
      within = subst (λ (s : SettingParts). Within s.spec.bounds end.last) setting h.within;
    }

-- the run of a world is that of its document
pub ended-of : (document : Document) (number : ℕ) (first after : WorldParts) (end : SimEnd) → first ≡ first_world_of document → IsLater first after → IsEndOfSchedule number first after end → IsLawfulFor after end → IsEndOfRun document number end × IsLawfulEndOf document end
ended-of document number first after end is later ended lawful = (
  record {
    after = after;
    ends = subst (λ (w : WorldParts). IsEndOfSchedule number w after end) is ended;
  },
  lawful-of document after end (subst (λ (w : WorldParts). IsLater w after) is later) lawful,
)

pub full-of : (document : Document) (number : ℕ) (first after : WorldParts) (fates : List (List Fate)) → first ≡ first_world_of document → IsFullOf number first after fates → IsFullRun document number fates
full-of document number first after fates is met = record {
  after = after;
  full = subst (λ (w : WorldParts). IsFullOf number w after fates) is met;
}

-- it has one list of outcomes for each session
pub outcomes-of : (document : Document) (end : SimEnd) → IsLawfulEndOf document end → length end.outcomes ≡ length document.setup.sessions
outcomes-of document end h =
    h.lawful.answered.sessions ∙ length-map document.setup.sessions (λ (work : SessionWork). work.requests)
