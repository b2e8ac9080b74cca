-- A world in which nothing has happened.
--
--   each_push          what holds of each item of a list, and of one more at its end
--   logs_next          one more log without entries
--   AreLogged-push     and it is one of the setting
--   seats_next         one more session that has seen nothing
--   AreSeated-push     and it is one of the setting
--   AreUnread-push     which has read nothing
--   AreLogged-none, AreUnread-none, AreSeated-none      none stand at first
--   room_none          logs without entries have room
--   seats_many         there are as many sessions as works were taken
use Rattle.std.proofs.Common.{◌≡◌, ℕ, suc, zero, ◌+◌, ◌<◌, ◌≤◌, List, [], ◌∷◌, ◌++◌, length, map, take, replicate, Some, None, slice_get, sym, ◌∙◌, ap, subst, arith}
use Rattle.std.proofs.lemmas.List.{map-append, replicate-append-replicate, length-map, length-take-le}
use Rattle.ipa_history.specs.declared.history.Tx.{Tx}
use Rattle.ipa_reader.specs.declared.sessions.SessionWork.{SessionWork}
use Rattle.ipa_gate.specs.Logs.{LogParts, most}
use Rattle.ipa_gate.specs.Settings.{SettingParts}
use Rattle.ipa_world.specs.Worlds.{seat_of}
use Rattle.ipa_world.specs.Seats.{seat_parts}
use Rattle.ipa_world.specs.Standing.{entries_of, AreLogged, IsSeated, AreSeated}
use Rattle.ipa_world.specs.Places.{AreUnread}
use Rattle.ipa_world.specs.declared.seats.Seat.{Seat}

-- what holds of each item of a list, and of one more at its end
each_push : {X : Type 0} (P : ℕ → X → Type 0) (xs : List X) (y : X) →
    ((k : ℕ) (x : X) → slice_get xs k ≡ Some x → P k x) → P (length xs) y → (k : ℕ) (x : X) →
    slice_get (xs ++ y ∷ []) k ≡ Some x → P k x
each_push P [] y each here zero x e =
    let s : Some y ≡ Some x = e in
    let same : y ≡ x = cc in
    subst (λ v. P 0 v) same here
each_push P [] y each here (suc k) x e = absurd (let none : None ≡ Some x = e in cc)
each_push P (z ∷ zs) y each here zero x e = each 0 x e
each_push P (z ∷ zs) y each here (suc k) x e = each_push (λ n. P (suc n)) zs y (λ n v f. each (suc n) v f) here k x e

-- one more log without entries
pub logs_next : (logs : List LogParts) (n : ℕ) (log : LogParts) → map entries_of logs ≡ replicate n [] → log.entries ≡ [] →
    map entries_of (logs ++ log ∷ []) ≡ replicate (n + 1) []
logs_next logs n log before none =
    map-append entries_of logs (log ∷ [])
    ∙ (λ k. before k ++ none k ∷ [])
    ∙ replicate-append-replicate n 1 []

-- and it is one of the setting
pub AreLogged-push : (s : SettingParts) (logs : List LogParts) (log : LogParts) → AreLogged s logs → log.setting ≡ s →
    AreLogged s (logs ++ log ∷ [])
AreLogged-push s logs log are setting = record {
  each = λ k x at. each_push (λ n (l : LogParts). l.setting ≡ s) logs log are.each setting k x at;
}

-- one more session that has seen nothing
pub seats_next : (seats : List Seat) (fewer more : List SessionWork) (work : SessionWork) (seat : Seat) →
    map seat_parts seats ≡ map seat_of fewer → more ≡ fewer ++ work ∷ [] → seat_parts seat ≡ seat_of work →
    map seat_parts (seats ++ seat ∷ []) ≡ map seat_of more
seats_next seats fewer more work seat before is same =
    map-append seat_parts seats (seat ∷ [])
    ∙ (λ k. before k ++ same k ∷ [])
    ∙ sym (ap (λ (xs : List SessionWork). map seat_of xs) is ∙ map-append seat_of fewer (work ∷ []))

-- and it is one of the setting
pub AreSeated-push : (s : SettingParts) (seats : List Seat) (seat : Seat) → AreSeated s seats →
    IsSeated s (length seats) seat → AreSeated s (seats ++ seat ∷ [])
AreSeated-push s seats seat are is = record {
  each = λ k x at. each_push (λ n (l : Seat). IsSeated s n l) seats seat are.each is k x at;
}

-- which has read nothing
pub AreUnread-push : (seats : List Seat) (seat : Seat) → AreUnread seats → seat.read ≡ 0 → AreUnread (seats ++ seat ∷ [])
AreUnread-push seats seat are none = record {
  each = λ k x at. each_push (λ n (l : Seat). l.read ≡ 0) seats seat are.each none k x at;
}

-- none stand at first
pub AreLogged-none : (s : SettingParts) → AreLogged s []
AreLogged-none s = record { each = λ k x at. absurd (let none : None ≡ Some x = at in cc) }

pub AreUnread-none : AreUnread []
AreUnread-none = record { each = λ k x at. absurd (let none : None ≡ Some x = at in cc) }

pub AreSeated-none : (s : SettingParts) → AreSeated s []
AreSeated-none s = record { each = λ k x at. absurd (let none : None ≡ Some x = at in cc) }

-- there are as many as sessions of the setup were taken
pub seats_many : (seats : List Seat) (works : List SessionWork) (n : ℕ) → n < length works + 1 →
    map seat_parts seats ≡ map seat_of (take n works) → length seats ≡ n
seats_many seats works n inside same =
    let one = length-map seats seat_parts in
    let two = length-map (take n works) seat_of in
    let three : length (map seat_parts seats) ≡ length (map seat_of (take n works)) = ap length same in
    let size = length-take-le n works (omega (arith, inside)) in
    omega (arith, one, two, three, size)

-- logs without entries have room
pub room_none : (n k : ℕ) (log : List Tx) → slice_get (replicate n []) k ≡ Some log → length log ≤ most
room_none zero k log e = absurd (let none : None ≡ Some log = e in cc)
room_none (suc n) zero log e =
    let s : Some [] ≡ Some log = e in
    let same : [] ≡ log = cc in
    subst (λ (xs : List Tx). length xs ≤ most) same (omega arith)
room_none (suc n) (suc k) log e = room_none n k log e
