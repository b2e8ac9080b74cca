-- The order of the lines of a journal.
--
--   version_in s ps        the version that a `journal` line begins; version 1 only where every bound picks the greatest
--   is_sessions n ps       a `sessions` line of n sessions
--   is_bounds s ps         the `bounds` line of the specification
--   is_end ps              the `end` line
--   start                  nothing is read
--   final_standing, result_standing   behind a line that is to be `final`, or `out` or `final`
--   next_place s n place ps   the place behind a line of which nothing is kept
--   next_at place ..       behind a line in this place
--   next_standing s es n number st ps   what is read behind a line of these parts and this number; none where the line
--                          stands against the order or lacks the form of its place
--
-- `es` are the lists of the names of elements, and n is the number of sessions.
use Rattle.std.specs.Prelude.{ℕ, Bool, true, false, ◌==◌, ◌&&◌, List, [], ◌∷◌, ◌++◌, length, drop, Option, None, Some, if◌then◌else◌}
use Rattle.std.specs.List.{list_all, zip}
use Rattle.std.specs.Option.{option_map, option_map_or}
use Rattle.ipa_spec.specs.declared.names.Name.{Name}
use Rattle.ipa_spec.specs.declared.bounds.Bound.{Bound}
use Rattle.ipa_spec.specs.declared.bounds.Pick.{Pick}
use Rattle.ipa_spec.specs.declared.bounds.Pick.TheVariants.{Greatest, Youngest}
use Rattle.ipa_spec.specs.declared.specification.Specification.{Specification}
use Rattle.ipa_logic.specs.declared.facts.Fact.{Fact}
use Rattle.ipa_history.specs.declared.history.Tx.{Tx}
use Rattle.ipa_journal.specs.Naming.{pick_key}
use Rattle.ipa_journal.specs.Parts.{word_part, number_at, is_key, is_said}
use Rattle.ipa_journal.specs.Meaning.{is_empty_list, state_in, tx_in, out_in}
use Rattle.ipa_journal.specs.declared.keywords.Keyword.TheVariants as keys
use Rattle.ipa_journal.specs.declared.parts.Part.{Part}
use Rattle.ipa_journal.specs.declared.journal.OutLine.{OutLine}
use Rattle.ipa_journal.specs.declared.standing.Version.{Version}
use Rattle.ipa_journal.specs.declared.standing.Version.TheVariants.{One, Two}
use Rattle.ipa_journal.specs.declared.standing.Place.{Place}
use Rattle.ipa_journal.specs.declared.standing.Place.TheVariants as places
use Rattle.ipa_journal.specs.declared.standing.Standing.{Standing}

abbrev pub is_greatest : Pick → Bool
is_greatest Greatest = true
is_greatest Youngest = false

abbrev pub all_greatest : List Bound → Bool
all_greatest bounds = list_all (λ b. is_greatest b.pick) bounds

abbrev pub version_of : Specification → Option ℕ → Option Version
version_of s None = None
version_of s (Some k) =
    if k == 1 && all_greatest s.bounds then Some One else (if k == 2 then Some Two else None)

abbrev pub version_in : Specification → List Part → Option Version
version_in s ps = if length ps == 2 && is_key ps 0 keys.Journal then version_of s (number_at ps 1) else None

abbrev pub is_count : ℕ → Option ℕ → Bool
is_count n None = false
is_count n (Some k) = k == n

abbrev pub is_sessions : ℕ → List Part → Bool
is_sessions n ps = length ps == 2 && is_key ps 0 keys.Sessions && is_count n (number_at ps 1)

abbrev pub says_pick : Part → Bound → Bool
says_pick p b = option_map_or (is_said (pick_key b.pick)) (word_part p) false

-- one pick for each bound, in order
abbrev pub say_picks : List Bound → List Part → Bool
say_picks bounds ps = length ps == length bounds && list_all (λ x. says_pick x.0 x.1) (zip ps bounds)

abbrev pub are_picks : List Bound → List Part → Bool
are_picks [] ps = is_empty_list ps
are_picks (b ∷ bs) ps = say_picks (b ∷ bs) ps

abbrev pub is_bounds : Specification → List Part → Bool
is_bounds s ps = is_key ps 0 keys.Bounds && are_picks s.bounds (drop 1 ps)

abbrev pub is_end : List Part → Bool
is_end ps = length ps == 1 && is_key ps 0 keys.End

abbrev pub start : Standing
start = record { place = places.Head; transactions = []; outcomes = []; last = []; last_line = 0 }

abbrev pub moved : Standing → Place → Standing
moved st place = record {
  place = place;
  transactions = st.transactions;
  outcomes = st.outcomes;
  last = st.last;
  last_line = st.last_line;
}

abbrev pub after_sessions : Version → Place
after_sessions One = places.Entries
after_sessions Two = places.Bounds

abbrev pub with_tx : Standing → ℕ → Tx → Standing
with_tx st number t = record {
  place = places.Entries;
  transactions = st.transactions ++ record { line = number; tx = t } ∷ [];
  outcomes = st.outcomes;
  last = st.last;
  last_line = st.last_line;
}

abbrev pub with_out : Standing → OutLine → Standing
with_out st o = record {
  place = places.Outcomes;
  transactions = st.transactions;
  outcomes = st.outcomes ++ o ∷ [];
  last = st.last;
  last_line = st.last_line;
}

abbrev pub with_final : Standing → ℕ → List Fact → Standing
with_final st number facts = record {
  place = places.End;
  transactions = st.transactions;
  outcomes = st.outcomes;
  last = facts;
  last_line = number;
}

abbrev pub final_standing : Specification → List (List Name) → ℕ → Standing → List Part → Option Standing
final_standing s es number st ps =
    if is_key ps 0 keys.Final then option_map (with_final st number) (state_in s es (drop 1 ps)) else None

abbrev pub result_standing : Specification → List (List Name) → ℕ → ℕ → Standing → List Part → Option Standing
result_standing s es n number st ps =
    if is_key ps 0 keys.Out then option_map (with_out st) (out_in s es n number ps)
    else final_standing s es number st ps

abbrev pub entry_standing : Specification → List (List Name) → ℕ → ℕ → Standing → List Part → Option Standing
entry_standing s es n number st ps =
    if is_key ps 0 keys.Tx then option_map (with_tx st number) (tx_in s es n ps)
    else result_standing s es n number st ps

-- behind a line of which nothing is kept
abbrev pub next_place : Specification → ℕ → Place → List Part → Option Place
next_place s n places.Head ps = option_map places.Sessions (version_in s ps)
next_place s n (places.Sessions v) ps = if is_sessions n ps then Some (after_sessions v) else None
next_place s n places.Bounds ps = if is_bounds s ps then Some places.Entries else None
next_place s n places.Entries ps = None
next_place s n places.Outcomes ps = None
next_place s n places.End ps = if is_end ps then Some places.Done else None
next_place s n places.Done ps = None

abbrev pub next_at : Place → Specification → List (List Name) → ℕ → ℕ → Standing → List Part → Option Standing
next_at places.Entries s es n number st ps = entry_standing s es n number st ps
next_at places.Outcomes s es n number st ps = result_standing s es n number st ps
next_at place s es n number st ps = option_map (moved st) (next_place s n place ps)

abbrev pub next_standing : Specification → List (List Name) → ℕ → ℕ → Standing → List Part → Option Standing
next_standing s es n number st ps = next_at st.place s es n number st ps
