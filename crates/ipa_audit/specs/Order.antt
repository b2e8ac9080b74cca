-- The order of the `out` lines: by sessions, and within a session by the places of its requests.
--
--   IsDueIn o i n asked           n lines of session i, with so many requests, stand before the line if it is the next
--   IsNextBy requests count o     the line is the next one behind so many lines of each session
--   IsNextLine requests before o  the line is the next one behind these
--   AreInOrder requests outs      each line is the next one behind those before it
--   IsLastLine session before e   the session's last line of these
use Rattle.std.specs.Prelude.{◌≡◌, ℕ, ◌+◌, ◌<◌, List, length, take, slice_get, Some}
use Rattle.ipa_logic.specs.declared.facts.Request.{Request}
use Rattle.ipa_journal.specs.declared.journal.OutLine.{OutLine}
use Rattle.ipa_audit.specs.Journals.{lines_of}

-- of an earlier session all lines stand before, of its own those of the places before its own, of a later one none
pub record IsDueIn (o : OutLine) (i n asked : ℕ) : Type 0 where
  pub earlier : i < o.session → n ≡ asked
  pub own : i ≡ o.session → n ≡ o.place
  pub later : o.session < i → n ≡ 0

-- the line is of a session, and the next one behind so many lines of each session
pub record IsNextBy (requests : List (List Request)) (count : ℕ → ℕ) (o : OutLine) : Type 0 where
  pub session : o.session < length requests
  pub each : (i : ℕ) (asked : List Request) → slice_get requests i ≡ Some asked → IsDueIn o i (count i) (length asked)

-- so many of the lines are the session's
abbrev pub count_in : List OutLine → ℕ → ℕ
count_in outs session = length (lines_of session outs)

-- the line is the next one behind these
abbrev pub IsNextLine : List (List Request) → List OutLine → OutLine → Type 0
IsNextLine requests before o = IsNextBy requests (count_in before) o

-- each line is the next one behind those before it
pub record AreInOrder (requests : List (List Request)) (outs : List OutLine) : Type 0 where
  pub each : (k : ℕ) (o : OutLine) → slice_get outs k ≡ Some o → IsNextLine requests (take k outs) o

-- the session's last line of these
pub record IsLastLine (session : ℕ) (before : List OutLine) (e : OutLine) : Type 0 where
  pub place : ℕ
  pub at : slice_get (lines_of session before) place ≡ Some e
  pub last : length (lines_of session before) ≡ place + 1
