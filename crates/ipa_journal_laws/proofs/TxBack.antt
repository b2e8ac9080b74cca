-- The line of a transaction means the transaction.
--
--   count_parts n counts   the parts of the counts of n origins
--   counts_back            the counts of a cut are read back
--   done_back              an action with its arguments is read back
--   tx_back                a transaction is read back
use Rattle.std.proofs.Common.{◌≡◌, ℕ, zero, suc, ◌+◌, ◌-◌, ◌<◌, ◌≤◌, true, cond, nat_le, List, [], ◌∷◌, ◌++◌, length, map, take, drop, replicate, Option, None, Some, refl, sym, ap, subst, ◌∙◌, arith, inl, inr, ◌⊎◌}
use Rattle.std.specs.List.{slice_index, list_all}
use Rattle.std.specs.Option.{option_map, option_map_or}
use Rattle.std.proofs.lemmas.Bool.{and_from, cases_lt, le-leb}
use Rattle.std.proofs.lemmas.Grind.{same_number_lists}
use Rattle.std.proofs.lemmas.List.{map-append, length-append, length-take-le, length-replicate, take_at, drop_at, drop-drop, get_or-take, get_or-append-add, get_or_append_left}
use Rattle.ipa_clock.specs.declared.cut.Cut.{Cut}
use Rattle.ipa_spec.specs.Actions.{IsAction, sorts_of}
use Rattle.ipa_spec.specs.declared.names.Name.{Name}
use Rattle.ipa_spec.specs.declared.operations.Action.{Action}
use Rattle.ipa_spec.specs.declared.operations.Action.TheVariants.{Op, Drop}
use Rattle.ipa_spec.specs.declared.specification.Specification.{Specification}
use Rattle.ipa_logic.specs.Truth.{IsOver, IsArguments}
use Rattle.ipa_history.specs.declared.history.Tx.{Tx}
use Rattle.ipa_journal.specs.Naming.{action_sorts, elements_in, action_pieces, tx_pieces}
use Rattle.ipa_journal.specs.Meaning.{origin_of, origin_at, is_number, count_in, counts_in, done_with, operation_done, drop_done, done_in, tx_of, tx_in}
use Rattle.ipa_journal.specs.Parts.{number_at, is_key}
use Rattle.ipa_journal.specs.declared.keywords.Keyword.TheVariants as keys
use Rattle.ipa_journal.specs.declared.parts.Part.{Part}
use Rattle.ipa_journal.specs.declared.parts.Part.TheVariants as parts
use Rattle.ipa_journal.specs.declared.pieces.Piece.TheVariants.{Key, Word, Number, Group}
use Rattle.ipa_journal.specs.declared.transactions.Done.{Done}
use Rattle.ipa_journal_laws.specs.Writable.{IsSetting, IsCutOf, IsWritableTx}
use Rattle.ipa_journal_laws.proofs.Spelled.{part_of}
use Rattle.ipa_journal_laws.proofs.Named.{item_at, position_named}
use Rattle.ipa_journal_laws.proofs.Values.{AreBack, values_back}
use Rattle.ipa_journal_laws.proofs.Facts.{fits, own_names}

-- the parts of some counts
abbrev pub count_parts : List ℕ → List Part
count_parts counts = map part_of (map Number counts)

numbers_all : (counts : List ℕ) → list_all is_number (count_parts counts) ≡ true
numbers_all [] = refl
numbers_all (k ∷ counts) = numbers_all counts

numbers_are : (counts : List ℕ) → map count_in (count_parts counts) ≡ counts
numbers_are [] = refl
numbers_are (k ∷ counts) = ap (λ ks. k ∷ ks) (numbers_are counts)

pub count_parts-length : (counts : List ℕ) → length (count_parts counts) ≡ length counts
count_parts-length [] = refl
count_parts-length (k ∷ counts) = ap suc (count_parts-length counts)

zeros : (n k : ℕ) → slice_index (replicate n 0) k ≡ 0
zeros zero k = refl
zeros (suc n) zero = refl
zeros (suc n) (suc k) = zeros n k

module _ (n : ℕ) (few : n ≤ 16) (cut : Cut) (is : IsCutOf n cut) where
  pub firsts : length (take n cut.counts) ≡ n
  firsts = length-take-le n cut.counts (omega (arith, is.width, few))

  -- the counts past the last origin are 0
  refilled : take n cut.counts ++ replicate (16 - n) 0 ≡ cut.counts
  refilled =
      same_number_lists (take n cut.counts ++ replicate (16 - n) 0) cut.counts
      (omega (arith, length-append (take n cut.counts) (replicate (16 - n) 0), firsts, length-replicate {A = ℕ} (16 - n) 0, is.width, few))
      (λ k l. at k (cases_lt k n))
    where
      at : (k : ℕ) → (k < n) ⊎ (n ≤ k) → slice_index (take n cut.counts ++ replicate (16 - n) 0) k ≡ slice_index cut.counts k
      at k (inl low) =
          get_or_append_left (take n cut.counts) (replicate (16 - n) 0) 0 k (omega (arith, firsts, low)) ∙ get_or-take n cut.counts k 0 low
      at k (inr high) =
          let place : k ≡ length (take n cut.counts) + (k - n) = omega (arith, firsts, high) in
          ap (slice_index (take n cut.counts ++ replicate (16 - n) 0)) place
          ∙ get_or-append-add (take n cut.counts) (replicate (16 - n) 0) (k - n) 0
          ∙ zeros (16 - n) (k - n)
          ∙ sym (is.none_past k high)

  pub counts_back : counts_in (count_parts (take n cut.counts)) ≡ Some cut.counts
  counts_back =
      let counts = take n cut.counts in
      let count : length (count_parts counts) ≡ n = count_parts-length counts ∙ firsts in
      ap (λ b. cond b (Some (map count_in (count_parts counts) ++ replicate (16 - length (count_parts counts)) 0)) None) (numbers_all counts)
      ∙ ap (λ ks. Some (ks ++ replicate (16 - length (count_parts counts)) 0)) (numbers_are counts)
      ∙ ap (λ k. Some (counts ++ replicate (16 - k) 0)) count
      ∙ ap Some refilled

  -- the counts stand before what stands behind them
  pub counts_taken : (later : List Part) → take n (count_parts (take n cut.counts) ++ later) ≡ count_parts (take n cut.counts)
  counts_taken later = take_at (count_parts (take n cut.counts)) later n (count_parts-length (take n cut.counts) ∙ firsts)

  pub counts_dropped : (later : List Part) → drop n (count_parts (take n cut.counts) ++ later) ≡ later
  counts_dropped later = drop_at (count_parts (take n cut.counts)) later n (count_parts-length (take n cut.counts) ∙ firsts)

  pub counts_many : (later : List Part) → length (count_parts (take n cut.counts) ++ later) ≡ n + length later
  counts_many later = omega (arith, length-append (count_parts (take n cut.counts)) later, count_parts-length (take n cut.counts), firsts)

pub origin_back : (n origin : ℕ) → origin < n → origin_of n (Some (origin + 1)) ≡ Some origin
origin_back n origin l =
    ap (λ b. cond b (Some (origin + 1 - 1)) None) (and_from (nat_le 1 (origin + 1)) (nat_le (origin + 1) n) (le-leb 1 (origin + 1) (omega arith)) (le-leb (origin + 1) n (omega arith)))
    ∙ ap Some (omega arith)

module _ (s : Specification) (sizes : List ℕ) (es : List (List Name)) (n : ℕ) (set : IsSetting s sizes es n) where
  abbrev action_names : Action → List ℕ → List Name
  action_names action args = elements_in es (action_sorts s action) args

  args_back : (action : Action) (args : List ℕ) → IsArguments s sizes action args → AreBack es (sorts_of s action) args
  args_back action args over =
      let fit = fits s sizes es n set in
      values_back es set.apart args (sorts_of s action) (fit.argument_count action)
      (λ k sort at. let known = fit.argument_sort action k sort at in omega (arith, known, fit.sort_count))
      (subst (λ u. IsOver u (sorts_of s action) args) set.sizes_are over)

  abbrev done_as : Action → List ℕ → Done
  done_as action args = done_with action (length (action_names action args)) args

  -- an action's parts mean the action with its arguments; there are three
  pub record IsDoneBack (action : Action) (args : List ℕ) : Type 0 where
    pub three : length (map part_of (action_pieces s es action args)) ≡ 3
    pub means : done_in s es (map part_of (action_pieces s es action args)) ≡ Some (done_as action args)

  pub done_back : (action : Action) (args : List ℕ) → IsAction s action → IsArguments s sizes action args → IsDoneBack action args
  done_back (Op k) args known over =
      let it = item_at s.operations k known in
      let names = action_names (Op k) args in
      let own = own_names s sizes es n set in
      let back = args_back (Op k) args over in
      let pieces : action_pieces s es (Op k) args ≡ Key keys.Do ∷ Word it.0.name ∷ Group names ∷ [] =
      ap (λ o. Key keys.Do ∷ option_map_or (λ x. Word x.name ∷ []) o [] ++ Group names ∷ []) it.1 in
      record {
        three = ap (λ ps. length (map part_of ps)) pieces;
        means = ap (λ ps. done_in s es (map part_of ps)) pieces
            ∙ ap (operation_done s es names) (position_named (λ o. o.name) s.operations k it.0 it.1 own.operation_names)
            ∙ ap (option_map (done_with (Op k) (length names))) back.means;
      }
  done_back (Drop k) args known over =
      let it = item_at s.bounds k known in
      let names = action_names (Drop k) args in
      let own = own_names s sizes es n set in
      let back = args_back (Drop k) args over in
      let pieces : action_pieces s es (Drop k) args ≡ Key keys.Drop ∷ Word it.0.name ∷ Group names ∷ [] =
      ap (λ o. Key keys.Drop ∷ option_map_or (λ x. Word x.name ∷ []) o [] ++ Group names ∷ []) it.1 in
      record {
        three = ap (λ ps. length (map part_of ps)) pieces;
        means = ap (λ ps. done_in s es (map part_of ps)) pieces
            ∙ ap (drop_done s es names) (position_named (λ b. b.name) s.bounds k it.0 it.1 own.bound_names)
            ∙ ap (option_map (done_with (Drop k) (length names))) back.means;
      }

  tx_said : (ps : List Part) (o k : Option ℕ) (counts : Option (List ℕ)) (acted : Option Done) →
      nat_le (4 + n) (length ps) ≡ true → is_key ps 3 keys.Cut ≡ true → origin_at n ps 1 ≡ o → number_at ps 2 ≡ k →
      counts_in (take n (drop 4 ps)) ≡ counts → done_in s es (drop (4 + n) ps) ≡ acted →
      tx_in s es n ps ≡ tx_of o k counts acted
  tx_said ps o k counts acted long key eo ek ecounts edone =
      ap (λ b. cond b (tx_of (origin_at n ps 1) (number_at ps 2) (counts_in (take n (drop 4 ps))) (done_in s es (drop (4 + n) ps))) None) (and_from (nat_le (4 + n) (length ps)) (is_key ps 3 keys.Cut) long key)
      ∙ (λ i. tx_of (eo i) (ek i) (ecounts i) (edone i))

  -- what stands behind the head and the counts
  pub behind_counts : (a b c d : Part) (cut : List Part) (later : List Part) → length cut ≡ n →
      drop (4 + n) (a ∷ b ∷ c ∷ d ∷ (cut ++ later)) ≡ later
  behind_counts a b c d cut later many =
      sym (drop-drop n 4 (a ∷ b ∷ c ∷ d ∷ (cut ++ later))) ∙ drop_at cut later n many

  pub tx_back : (t : Tx) → IsWritableTx s sizes n t → tx_in s es n (map part_of (tx_pieces s es n t)) ≡ Some t
  tx_back t h =
      let counts = take n t.cut.counts in
      let done = done_back t.action t.args h.action h.args in
      let later : List Part = map part_of (action_pieces s es t.action t.args) in
      let head : List Part → List Part = λ ps. part_of (Key keys.Tx) ∷ parts.Number (t.dot.origin + 1) ∷ parts.Number t.dot.number ∷ part_of (Key keys.Cut) ∷ ps in
      let whole : map part_of (tx_pieces s es n t) ≡ head (count_parts counts ++ later) = ap head (map-append part_of (map Number counts) (action_pieces s es t.action t.args)) in
      let many = counts_many n set.sessions t.cut h.cut later in
      let long : 4 + n ≤ length (head (count_parts counts ++ later)) = omega (arith, many, done.three) in
      let said = tx_said (head (count_parts counts ++ later)) (Some t.dot.origin) (Some t.dot.number) (Some t.cut.counts) (Some (done_as t.action t.args))
      (le-leb (4 + n) (length (head (count_parts counts ++ later))) long) refl (origin_back n t.dot.origin h.origin) refl
      (ap counts_in (counts_taken n set.sessions t.cut h.cut later) ∙ counts_back n set.sessions t.cut h.cut)
      (ap (done_in s es) (behind_counts (part_of (Key keys.Tx)) (parts.Number (t.dot.origin + 1)) (parts.Number t.dot.number) (part_of (Key keys.Cut)) (count_parts counts) later (count_parts-length counts ∙ firsts n set.sessions t.cut h.cut)) ∙ done.means) in
      let count : length (action_names t.action t.args) ≡ t.count = (args_back t.action t.args h.args).count ∙ sym h.count in
      ap (tx_in s es n) whole ∙ said
      ∙ (λ i. Some (record { dot = t.dot; cut = t.cut; action = t.action; args = t.args; count = count i }))
