-- What an index tells at a cut.
--
--   entry_of index o n           the transaction of this origin and number, by its place
--   touched index f o            the numbers of the origin's transactions with an effect on the fact
--   last_at index cut f o        the last effect on the fact of the origin within the cut
--   lasts index cut f            those of all origins
--   shown index base cut f       the value of the fact at the cut
--   facts_at index base cut      the true facts in order
--   age_shown index cut f        the age of the fact at the cut
--   shown_of view                the values that a view of a cut stands for
--   facts_of view, ages_of view  and its true facts and their ages
use Rattle.std.specs.Prelude.{ℕ, zero, suc, Bool, false, ◌==◌, List, [], ◌∷◌, ◌++◌, slice_get, slice_index_or, Option, Some, None}
use Rattle.ipa_clock.specs.Cut.{count_of}
use Rattle.ipa_clock.specs.declared.cut.Cut.{Cut}
use Rattle.ipa_logic.specs.Facts.{has}
use Rattle.ipa_logic.specs.declared.facts.Age.{Age}
use Rattle.ipa_logic.specs.declared.facts.Fact.{Fact}
use Rattle.ipa_history.specs.declared.history.Tx.{Tx}
use Rattle.ipa_sets.specs.ByOrigins.{numbers_at, each_origin}
use Rattle.ipa_sets.specs.Indexes.{filed}
use Rattle.ipa_sets.specs.Keys.{add_key, keys_over}
use Rattle.ipa_sets.specs.Lasts.{value_by_lasts, age_by_lasts}
use Rattle.ipa_sets.specs.Listings.{listed}
use Rattle.ipa_sets.specs.Numbers.{greatest_upto}
use Rattle.ipa_sets.specs.declared.at_cut.AtCut.{AtCut}
use Rattle.ipa_sets.specs.declared.index.Index.{Index}
use Rattle.ipa_sets.specs.declared.keys.Key.{Key}
use Rattle.ipa_sets.specs.declared.lasts.Last.{Last}

-- the transaction at a place, if there is one
abbrev pub entry_at : Index → Option ℕ → Option Tx
entry_at index None = None
entry_at index (Some place) = slice_get index.entries place

-- the transaction of this origin and number, by its place
abbrev pub entry_of : Index → ℕ → ℕ → Option Tx
entry_of index origin zero = None
entry_of index origin (suc k) = entry_at index (slice_get (numbers_at index.places origin) k)

-- the numbers of the origin's transactions that are filed under one of the keys
abbrev pub filed_under : Index → List Key → ℕ → List ℕ
filed_under index [] origin = []
filed_under index (k ∷ ks) origin = filed index k origin ++ filed_under index ks origin

-- the numbers of the origin's transactions with an effect on the fact
abbrev pub touched : Index → Fact → ℕ → List ℕ
touched index f origin = filed_under index (keys_over f) origin

-- the number is the one that is given, if one is
abbrev pub is_number : Option ℕ → ℕ → Bool
is_number None n = false
is_number (Some m) n = m == n

-- a transaction that has been found, as a last effect
abbrev pub found_last : Bool → Option Tx → Option Last
found_last adds None = None
found_last adds (Some t) = Some (record { tx = t; adds = adds })

-- the last effect of the origin, from the number of its last effect and that of its last add
abbrev pub last_by : Index → ℕ → Option ℕ → Option ℕ → Option Last
last_by index origin None added = None
last_by index origin (Some n) added = found_last (is_number added n) (entry_of index origin n)

-- the last effect on the fact of the origin within the cut
abbrev pub last_at : Index → Cut → Fact → ℕ → Option Last
last_at index cut f origin = last_by index origin
    (greatest_upto (count_of cut origin) (touched index f origin))
    (greatest_upto (count_of cut origin) (filed index (add_key f) origin))

-- the last effects on the fact within the cut, by origin
unfoldable pub lasts : Index → Cut → Fact → List (Option Last)
lasts index cut f = each_origin (last_at index cut f)

-- the value of the fact at the cut, by the rule of its predicate and the value of the base
unfoldable pub shown : Index → List Fact → Cut → Fact → Bool
shown index base cut f =
    value_by_lasts (slice_index_or index.adds_win f.predicate false) (has base f) (lasts index cut f)

-- the true facts in order: those that some transaction adds or the base has, and that are true at the cut
unfoldable pub facts_at : Index → List Fact → Cut → List Fact
facts_at index base cut = listed (shown index base cut) index.known base

-- the age of the fact at the cut
unfoldable pub age_shown : Index → Cut → Fact → Age
age_shown index cut f = age_by_lasts (lasts index cut f)

-- the values that a view of a cut stands for
abbrev pub shown_of : AtCut → Fact → Bool
shown_of v f = shown v.index.now v.base.now v.cut f

-- the true facts
abbrev pub facts_of : AtCut → List Fact
facts_of v = facts_at v.index.now v.base.now v.cut

-- and their ages
abbrev pub ages_of : AtCut → Fact → Age
ages_of v f = age_shown v.index.now v.cut f
