-- Rows of transactions by origin, and what is joined of them.
--
--   by_origin f              what f gives for each origin
--   no_row                   the row without a transaction
--   RowTable                 a table of rows by key: what it has, and room for how many more
--   row_table map            a map seen as such a table
--   spare table              how many more there is room for
--   row_at table k           the row that a table of them has for the key, if any
--   has_row table k          a table of rows has one for the key
--   row_in table k           the row of a key in a table of them
--   later x y                the one of greater number, of two of one origin
--   later_row one other      for each origin the later one of two rows
--   last_of_keys table ks    for each origin the last transaction in the rows of some keys
--   removing_row table f     for each origin the last transaction that removes by a pattern that matches the fact
--   last_from a r            the last effect of an origin, where a is its last transaction that adds the fact, and r
--                            its last that removes by a pattern that matches it: one that does both adds it
--   lasts_of_rows added removed   the last effects by rows of these
--   lasts_in table f         the last effects on a fact by a table of rows
--   later_last m r           the one of greater number, of a last effect and a remove of one origin
--   raised lasts row         for each origin the later one of them
--   put_in                   a transaction put into a row
use Rattle.std.specs.Prelude.{ℕ, Bool, true, false, ◌==◌, ◌&&◌, nat_lt, List, map, replicate, Option, Some, None, is_some, unwrap_or, if◌then◌else◌}
use Rattle.std.specs.List.{fold, range_with_len}
use Rattle.std.specs.HashMap.{HashMap, spare as left_in}
use Rattle.std_collections.specs.Map.{lookup}
use Rattle.ipa_logic.specs.declared.facts.Fact.{Fact}
use Rattle.ipa_history.specs.declared.history.Tx.{Tx}
use Rattle.ipa_sets.specs.Keys.{key_eq, add_key, remove_keys}
use Rattle.ipa_sets.specs.Lasts.{tx_at, last_of}
use Rattle.ipa_sets.specs.declared.keys.Key.{Key}
use Rattle.ipa_sets.specs.declared.lasts.Last.{Last}

-- what f gives for each origin
abbrev pub by_origin : {X : Type 0} → (ℕ → X) → List X
by_origin f = map f (range_with_len 0 16)

-- the row without a transaction
abbrev pub no_row : List (Option Tx)
no_row = replicate 16 None

-- a table of rows by key: what it has, and room for how many more
pub record RowTable : Type 0 where
  pub entries : List (Key × List (Option Tx))
  pub room : ℕ

-- a map seen as such a table
abbrev pub row_table : {S : Type 0} → HashMap Key (List (Option Tx)) S → RowTable
row_table rows = record { entries = rows.entries; room = left_in rows }

-- how many more there is room for
abbrev pub spare : RowTable → ℕ
spare table = table.room

-- the row that a table of them has for the key, if any
abbrev pub row_at : RowTable → Key → Option (List (Option Tx))
row_at table k = lookup (key_eq k) table.entries

-- a table of rows has one for the key
abbrev pub has_row : RowTable → Key → Bool
has_row table k = is_some (row_at table k)

-- the row of a key in a table of them
abbrev pub row_in : RowTable → Key → List (Option Tx)
row_in table k = unwrap_or (row_at table k) no_row

-- the one of greater number, of two of one origin
abbrev pub later : Option Tx → Option Tx → Option Tx
later None y = y
later (Some t) None = Some t
later (Some t) (Some u) = if nat_lt t.dot.number u.dot.number then Some u else Some t

-- for each origin the later one of two rows
unfoldable pub later_row : List (Option Tx) → List (Option Tx) → List (Option Tx)
later_row one other = by_origin (λ o. later (tx_at one o) (tx_at other o))

-- for each origin the last transaction in the rows of some keys
abbrev pub last_of_keys : RowTable → List Key → List (Option Tx)
last_of_keys table ks = fold (λ row k. later_row row (row_in table k)) no_row ks

-- for each origin the last transaction that removes by a pattern that matches the fact
unfoldable pub removing_row : RowTable → Fact → List (Option Tx)
removing_row table f = last_of_keys table (remove_keys f)

-- the last effect of an origin, where a is its last transaction that adds the fact, and r its last one that removes by
-- a pattern that matches it: a transaction that does both adds it
abbrev pub last_from : Option Tx → Option Tx → Option Last
last_from None None = None
last_from None (Some r) = Some (record { tx = r; adds = false })
last_from (Some a) None = Some (record { tx = a; adds = true })
last_from (Some a) (Some r) = if nat_lt a.dot.number r.dot.number
    then Some (record { tx = r; adds = false })
    else Some (record { tx = a; adds = true })

-- the last effects by rows of what adds the fact and of what removes by a pattern that matches it
unfoldable pub lasts_of_rows : List (Option Tx) → List (Option Tx) → List (Option Last)
lasts_of_rows added removed = by_origin (λ o. last_from (tx_at added o) (tx_at removed o))

-- the last effects on a fact by a table of rows
unfoldable pub lasts_in : RowTable → Fact → List (Option Last)
lasts_in table f = lasts_of_rows (row_in table (add_key f)) (removing_row table f)

-- the one of greater number, of a last effect and a remove of one origin
abbrev pub later_last : Option Last → Option Tx → Option Last
later_last m None = m
later_last None (Some r) = Some (record { tx = r; adds = false })
later_last (Some m) (Some r) = if nat_lt m.tx.dot.number r.dot.number
    then Some (record { tx = r; adds = false })
    else Some m

-- for each origin the later one of them
unfoldable pub raised : List (Option Last) → List (Option Tx) → List (Option Last)
raised lasts row = by_origin (λ o. later_last (last_of lasts o) (tx_at row o))

-- what a row has for an origin after the transaction is put into it, where `here` tells whether it is
abbrev pub put_in : Bool → Tx → List (Option Tx) → ℕ → Option Tx
put_in here t row o = if here && (o == t.dot.origin) then Some t else tx_at row o
