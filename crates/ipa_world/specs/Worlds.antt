-- Worlds: replicas that keep a log each, sessions that act at one of them, and links from each replica to each other.
--
--   SeatParts             a session: its replica, its requests, what it has seen, and what it was answered
--   WorldParts            a setting, the entries of each replica's log, the sessions, and what the senders know
--   link_of from to       the number of the link from one replica to another
--   seat_of work          the session of a setup, which has seen nothing
--   start_of s works n    the world of a setting and n replicas in which nothing has happened
--   session_at s i seat   session i, as one of the setting
--   next_request seat     the request that is to be answered next, if one is left
--   with_seat, with_log, with_peer     the world with one session, one log, or what one sender knows, replaced
use Rattle.std.specs.Prelude.{ℕ, ◌+◌, ◌*◌, List, [], length, map, replicate, slice_get, slice_set, Option}
use Rattle.ipa_clock.specs.declared.cut.Cut.{Cut}
use Rattle.ipa_clock.specs.Cut.{empty}
use Rattle.ipa_logic.specs.declared.facts.Request.{Request}
use Rattle.ipa_history.specs.declared.history.Tx.{Tx}
use Rattle.ipa_history.specs.declared.outcomes.Outcome.{Outcome}
use Rattle.ipa_reader.specs.declared.sessions.SessionWork.{SessionWork}
use Rattle.ipa_gate.specs.Settings.{SettingParts}
use Rattle.ipa_session.specs.Sessions.{SessionParts}

-- the replica at which a session acts, its requests, what it has seen, and what its first requests were answered
pub record SeatParts : Type 0 where
  pub replica : ℕ
  pub requests : List Request
  pub seen : List Tx
  pub outcomes : List Outcome

-- a setting, the entries of each replica's log, the sessions, and for each link what its sender knows of the receiver
pub record WorldParts : Type 0 where
  pub setting : SettingParts
  pub logs : List (List Tx)
  pub seats : List SeatParts
  pub peers : List Cut

-- the number of the link from one replica to another
abbrev pub link_of : ℕ → ℕ → ℕ
link_of from to = 8 * from + to

-- the session of a setup, which has seen nothing and was answered nothing
abbrev pub seat_of : SessionWork → SeatParts
seat_of work = record { replica = work.replica; requests = work.requests; seen = []; outcomes = [] }

-- the world of a setting, the sessions' work and n replicas, in which nothing has happened
abbrev pub start_of : SettingParts → List SessionWork → ℕ → WorldParts
start_of s works n = record {
  setting = s;
  logs = replicate n [];
  seats = map seat_of works;
  peers = replicate 64 empty;
}

-- session i, as one of the setting
abbrev pub session_at : SettingParts → ℕ → SeatParts → SessionParts
session_at s i seat = record { setting = s; origin = i; seen = seat.seen; spare = 0 }

-- the request that is to be answered next
abbrev pub next_request : SeatParts → Option Request
next_request seat = slice_get seat.requests (length seat.outcomes)

-- the session once it has seen this, and was answered this
abbrev pub seat_with : SeatParts → List Tx → List Outcome → SeatParts
seat_with seat seen outcomes = record {
  replica = seat.replica;
  requests = seat.requests;
  seen = seen;
  outcomes = outcomes;
}

abbrev pub with_seat : WorldParts → ℕ → SeatParts → WorldParts
with_seat w i seat = record {
  setting = w.setting;
  logs = w.logs;
  seats = slice_set w.seats i seat;
  peers = w.peers;
}

abbrev pub with_log : WorldParts → ℕ → List Tx → WorldParts
with_log w r log = record {
  setting = w.setting;
  logs = slice_set w.logs r log;
  seats = w.seats;
  peers = w.peers;
}

abbrev pub with_peer : WorldParts → ℕ → Cut → WorldParts
with_peer w link known = record {
  setting = w.setting;
  logs = w.logs;
  seats = w.seats;
  peers = slice_set w.peers link known;
}
