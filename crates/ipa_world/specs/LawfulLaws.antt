-- The world of a setup is lawful, and each step leaves a lawful world.
--
--   start-lawful      the world of a setup, in which nothing has happened
--   pulled-lawful, acted-lawful, given-lawful, heard-lawful     the four steps
--   step-lawful       each step
use Rattle.std.proofs.Common.{◌≡◌, ℕ, zero, suc, ◌<◌, ◌≤◌, List, [], ◌∷◌, length, map, replicate, Some, None, slice_get, refl, sym, ◌∙◌, subst, arith}
use Rattle.std.proofs.lemmas.List.{length-map, length-replicate}
use Rattle.std.proofs.lemmas.Option.{slice_get_within}
use Rattle.ipa_logic.specs.Requests.{IsRequest}
use Rattle.ipa_logic.specs.declared.facts.Request.{Request}
use Rattle.ipa_history.specs.Histories.{IsMember}
use Rattle.ipa_history.specs.MemberLaws.{member_none}
use Rattle.ipa_history.specs.declared.history.Tx.{Tx}
use Rattle.ipa_reader.specs.declared.sessions.SessionWork.{SessionWork}
use Rattle.ipa_gate.specs.Settings.{SettingParts, IsSetting}
use Rattle.ipa_gate.specs.Logs.{IsLog}
use Rattle.ipa_gate.specs.LogLaws.{IsLog-empty}
use Rattle.ipa_world.specs.Worlds.{SeatParts, WorldParts, seat_of, start_of}
use Rattle.ipa_world.specs.Steps.{IsStep, IsStepOf}
use Rattle.ipa_world.specs.Room.{HasRoom}
use Rattle.ipa_world.specs.Lawful.{HasSeen, HasAnswered, IsLawful}
use Rattle.ipa_world.specs.declared.steps.Step.{Step}
use Rattle.ipa_world.specs.declared.steps.Step.TheVariants.{Pull, Act, Deliver, Heard}
pub use Rattle.ipa_world.specs.LawfulPull.{pulled-lawful}
pub use Rattle.ipa_world.specs.LawfulGive.{given-lawful, heard-lawful}
pub use Rattle.ipa_world.specs.LawfulAct.{acted-lawful}

-- an item of a list of images is the image of an item
pub mapped_at : {X Y : Type 0} (f : X → Y) (xs : List X) (k : ℕ) (y : Y) → slice_get (map f xs) k ≡ Some y →
    (x : X) × (slice_get xs k ≡ Some x) × (f x ≡ y)
mapped_at f [] k y e = absurd (let none : None ≡ Some y = e in cc)
mapped_at f (x ∷ xs) zero y e = (x, refl, (let some : Some (f x) ≡ Some y = e in cc))
mapped_at f (x ∷ xs) (suc k) y e = mapped_at f xs k y e

-- what a list of equal items has in a place
pub repeated_at : {X : Type 0} (n : ℕ) (x : X) (k : ℕ) (y : X) → slice_get (replicate n x) k ≡ Some y → x ≡ y
repeated_at zero x k y e = absurd (let none : None ≡ Some y = e in cc)
repeated_at (suc n) x zero y e = let some : Some x ≡ Some y = e in cc
repeated_at (suc n) x (suc k) y e = repeated_at n x k y e

repeated_there : {X : Type 0} (n : ℕ) (x : X) (k : ℕ) → k < n → slice_get (replicate n x) k ≡ Some x
repeated_there zero x k less = absurd (omega arith)
repeated_there (suc n) x zero less = refl
repeated_there (suc n) x (suc k) less = repeated_there n x k (omega arith)

-- nothing stands in the empty list
nothing_at : {X : Type 0} (P : Type 0) (k : ℕ) (x : X) → slice_get [] k ≡ Some x → P
nothing_at P k x e = absurd (let none : None ≡ Some x = e in cc)

module _ (s : SettingParts) (works : List SessionWork) (n : ℕ) (setting : IsSetting s)
    (count : length works ≡ s.sessions) (few : n ≤ 8)
    (replicas : (k : ℕ) (work : SessionWork) → slice_get works k ≡ Some work → work.replica < n)
    (fits : (k j : ℕ) (work : SessionWork) (request : Request) → slice_get works k ≡ Some work →
    slice_get work.requests j ≡ Some request → IsRequest s.spec s.universe request) where
  abbrev start : WorldParts
  start = start_of s works n

  -- no entries are a log
  none_log : IsLog s []
  none_log = IsLog-empty s setting

  start_seen : (i : ℕ) (work : SessionWork) → slice_get works i ≡ Some work → HasSeen start i (seat_of work)
  start_seen i work at = record {
    session = record {
      origin = let inside = slice_get_within works i work at in omega (arith, inside, count);
      legal = none_log.legal;
      shaped = none_log.shaped;
    };
    log = [];
    log_at = repeated_there n [] work.replica (replicas i work at);
    lies = λ t m. m;
    made = λ t m. absurd (member_none t m);
  }

  start_answered : (i : ℕ) (work : SessionWork) → slice_get works i ≡ Some work → HasAnswered start i (seat_of work)
  start_answered i work at = record {
    few = omega arith;
    fit = λ place request asked. fits i place work request at asked;
    outcomes = λ place request o asked said. nothing_at _ place o said;
    behind = λ place o said. nothing_at _ place o said;
    past = λ place earlier later first second. nothing_at _ place earlier first;
    committed = λ t op m own action. absurd (member_none t m);
  }

  start_is : IsLawful (start_of s works n)
  start_is = record {
    setting = setting;
    sessions = length-map works seat_of ∙ count;
    senders = refl;
    logs = record {
      few = let size = length-replicate {A = List Tx} n [] in omega (arith, size, few);
      logs = λ r log at. subst (λ (xs : List Tx). IsLog s xs) (repeated_at n [] r log at) none_log;
      made = λ r log t at m.
          absurd (member_none t (subst (λ (xs : List Tx). IsMember xs t) (sym (repeated_at n [] r log at)) m));
    };
    seen = λ i seat at.
        let work = mapped_at seat_of works i seat at in
        subst (λ (x : SeatParts). HasSeen start i x) work.2 (start_seen i work.0 work.1);
    answered = λ i seat at.
        let work = mapped_at seat_of works i seat at in
        subst (λ (x : SeatParts). HasAnswered start i x) work.2 (start_answered i work.0 work.1);
  }

-- the world of a setup, in which nothing has happened, is lawful
pub start-lawful : (s : SettingParts) (works : List SessionWork) (n : ℕ) → IsSetting s → length works ≡ s.sessions →
    0 < n → n ≤ 8 → ((k : ℕ) (work : SessionWork) → slice_get works k ≡ Some work → work.replica < n) →
    ((k j : ℕ) (work : SessionWork) (request : Request) → slice_get works k ≡ Some work →
    slice_get work.requests j ≡ Some request → IsRequest s.spec s.universe request) → IsLawful (start_of s works n)
start-lawful s works n setting count some few replicas fits = start_is s works n setting count few replicas fits

-- each step of a lawful world leaves one, if no log has more entries than it can have
pub step-lawful : (w : WorldParts) (step : Step) (after : WorldParts) → IsLawful w → IsStepOf w step →
    IsStep w step after → HasRoom after → IsLawful after
step-lawful w (Pull session) after is of taken room = pulled-lawful w session after is taken
step-lawful w (Act session) after is of taken room = acted-lawful w session after is taken room
step-lawful w (Deliver from to place) after is of taken room = given-lawful w to taken.tx after is (record {
  replica = from;
  log = taken.log;
  log_at = taken.log_at;
  member = record { place = place; at = taken.at };
}) taken.given room
step-lawful w (Heard from to clock) after is of taken room = heard-lawful w from to clock after is taken
