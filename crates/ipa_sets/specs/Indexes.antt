-- An index of a history.
--
--   filed index k o          the numbers of the transactions of the origin that are filed under the key
--   IsPlaced h places        the places are those of the members of each origin, in order of number
--   IsFiled s h numbers      each member is filed under the keys of its effects, and under no others
--   IsIndexOf s index        the index is right for its entries, which are a history, and for the specification
--   IsReadyFor s t index     there is room for the transaction, and the facts are known that it adds
--   IsWidened old new        nothing has changed but rooms, and the facts that are known may be more
use Rattle.std.specs.Prelude.{◌≡◌, ℕ, ◌+◌, ◌<◌, true, false, List, [], length, vec_capacity, slice_get, slice_index_or, Some}
use Rattle.ipa_spec.specs.declared.specification.Specification.{Specification}
use Rattle.ipa_logic.specs.Facts.{has}
use Rattle.ipa_logic.specs.Touches.{has_rule, is_add_wins}
use Rattle.ipa_logic.specs.declared.facts.Fact.{Fact}
use Rattle.ipa_history.specs.Histories.{IsMember, IsHistory, number_of}
use Rattle.ipa_history.specs.Values.{adds_fact}
use Rattle.ipa_history.specs.declared.history.Tx.{Tx}
use Rattle.ipa_sets.specs.ByOrigins.{numbers_at, is_ready_at}
use Rattle.ipa_sets.specs.Filings.{filed_in, IsRoomier, AreReadied}
use Rattle.ipa_sets.specs.Keys.{has_key}
use Rattle.ipa_sets.specs.declared.index.Index.{Index}
use Rattle.ipa_sets.specs.declared.keys.Key.{Key}

-- the numbers of the transactions of the origin that are filed under the key
abbrev pub filed : Index → Key → ℕ → List ℕ
filed index k origin = filed_in index.filed.lists k origin

-- the member of this origin and number is at the place
pub record IsAt (h : List Tx) (origin number place : ℕ) : Type 0 where
  pub tx : Tx
  pub at : slice_get h place ≡ Some tx
  pub origin_is : tx.dot.origin ≡ origin
  pub number_is : tx.dot.number ≡ number

-- the places are those of the members of each origin, in order of number
pub record IsPlaced (h : List Tx) (places : ℕ → List ℕ) : Type 0 where
  pub sized : (origin : ℕ) → length (places origin) ≡ number_of origin h
  pub placed : (origin k place : ℕ) → slice_get (places origin) k ≡ Some place → IsAt h origin (k + 1) place

-- a member of this origin and number has an effect that is filed under the key
pub record IsFiledBy (s : Specification) (h : List Tx) (k : Key) (origin number : ℕ) : Type 0 where
  pub tx : Tx
  pub member : IsMember h tx
  pub origin_is : tx.dot.origin ≡ origin
  pub number_is : tx.dot.number ≡ number
  pub has : has_key s k tx ≡ true

-- each member is filed under the keys of its effects, and under no others
pub record IsFiled (s : Specification) (h : List Tx) (numbers : Key → ℕ → List ℕ) : Type 0 where
  pub sound : (k : Key) (origin n : ℕ) → IsMember (numbers k origin) n → IsFiledBy s h k origin n
  pub complete : (k : Key) (t : Tx) → IsMember h t → has_key s k t ≡ true →
      IsMember (numbers k t.dot.origin) t.dot.number

-- the index is right for its entries, which are a history, and for the specification
pub record IsIndexOf (s : Specification) (index : Index) : Type 0 where
  pub history : IsHistory index.entries
  pub empty : index.room.items ≡ []
  pub placed : IsPlaced index.entries (numbers_at index.places)
  pub filed_so : IsFiled s index.entries (filed index)
  pub known : (t : Tx) (f : Fact) → IsMember index.entries t → adds_fact s f t ≡ true → has index.known f ≡ true
  pub rules : (t : Tx) (p : ℕ) → IsMember index.entries t →
      slice_index_or index.adds_win p false ≡ has_rule is_add_wins s p

-- there is room for the transaction, and the facts are known that it adds
pub record IsReadyFor (s : Specification) (t : Tx) (index : Index) : Type 0 where
  pub wide : length index.entries < vec_capacity index.room
  pub place : is_ready_at index.places t.dot.origin ≡ true
  pub effects : AreReadied s t index.filed.lists index.known 12

-- nothing has changed but rooms, and the facts that are known may be more
pub record IsWidened (old new : Index) : Type 0 where
  pub entries : new.entries ≡ old.entries
  pub empty : new.room.items ≡ old.room.items
  pub places : (o : ℕ) → numbers_at new.places o ≡ numbers_at old.places o
  pub filed_so : IsRoomier old.filed.lists new.filed.lists
  pub known : (f : Fact) → has old.known f ≡ true → has new.known f ≡ true
  pub rules : new.adds_win ≡ old.adds_win
