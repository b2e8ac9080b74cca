-- Numbers filed under keys, for each origin.
--
--   is_known m k             a key is known
--   IsWithKey old new k      no other key has become known than this one
--   filed_in m k o           the numbers of the origin that are filed under the key
--   is_room_in m k o         there is room for one more of them
--   HasRoomFor m k o n       there is, or the number is filed already
--   AreFiledUpTo m o n       no number of the origin is above n
--   IsRoomier old new        no number is filed, and no room is lost
--   IsFiledAt k o n old new  the number of the origin is filed under the key too, and no other room is lost
--   IsReadied, AreReadied    there is room under the key of an effect, or of the first ones, and its fact is known
--   Files s t old new        the new numbers are the old ones and the transaction's, under each of its keys
use Rattle.std.specs.Prelude.{◌≡◌, ℕ, ◌<◌, Bool, true, false, List, [], slice_get, Some, is_some, ◌⊎◌}
use Rattle.std.specs.Option.{option_map_or}
use Rattle.std.specs.BTreeMap.{BTreeMap, get}
use Rattle.ipa_spec.specs.Actions.{effects_of}
use Rattle.ipa_spec.specs.declared.operations.Effect.{Effect}
use Rattle.ipa_spec.specs.declared.specification.Specification.{Specification}
use Rattle.ipa_logic.specs.Facts.{has}
use Rattle.ipa_logic.specs.Touches.{fact_given}
use Rattle.ipa_logic.specs.declared.facts.Fact.{Fact}
use Rattle.ipa_history.specs.Histories.{IsMember}
use Rattle.ipa_history.specs.declared.history.Tx.{Tx}
use Rattle.ipa_sets.specs.ByOrigins.{numbers_at, is_ready_at}
use Rattle.ipa_sets.specs.Keys.{key_cmp, key_of, has_key}
use Rattle.ipa_sets.specs.Numbers.{AreUpTo}
use Rattle.ipa_sets.specs.declared.by_origin.ByOrigin.{ByOrigin}
use Rattle.ipa_sets.specs.declared.keys.Key.{Key}

-- a key is known
abbrev pub is_known : BTreeMap Key ByOrigin → Key → Bool
is_known m k = is_some (get key_cmp m k)

-- no other key has become known than this one
abbrev pub IsWithKey : BTreeMap Key ByOrigin → BTreeMap Key ByOrigin → Key → Type 0
IsWithKey old new key = (k : Key) → is_known new k ≡ true → (is_known old k ≡ true) ⊎ (k ≡ key)

-- the numbers of the origin that are filed under the key
abbrev pub filed_in : BTreeMap Key ByOrigin → Key → ℕ → List ℕ
filed_in m k o = option_map_or (λ lists. numbers_at lists o) (get key_cmp m k) []

-- there is room for one more of them
abbrev pub is_room_in : BTreeMap Key ByOrigin → Key → ℕ → Bool
is_room_in m k o = option_map_or (λ lists. is_ready_at lists o) (get key_cmp m k) false

-- there is room for the number, or it is filed already
abbrev pub HasRoomFor : BTreeMap Key ByOrigin → Key → ℕ → ℕ → Type 0
HasRoomFor m k o n = (is_room_in m k o ≡ true) ⊎ IsMember (filed_in m k o) n

-- no number of the origin is above n
pub record AreFiledUpTo (m : BTreeMap Key ByOrigin) (o n : ℕ) : Type 0 where
  pub each : (k : Key) → AreUpTo (filed_in m k o) n

-- no number is filed, and no room is lost
pub record IsRoomier (old new : BTreeMap Key ByOrigin) : Type 0 where
  pub same : (k : Key) (o : ℕ) → filed_in new k o ≡ filed_in old k o
  pub stay : (k : Key) (o : ℕ) → is_room_in old k o ≡ true → is_room_in new k o ≡ true

-- the key, the origin and the number are these
pub record IsThis (key : Key) (origin number : ℕ) (k : Key) (o n : ℕ) : Type 0 where
  pub key_is : k ≡ key
  pub origin_is : o ≡ origin
  pub number_is : n ≡ number

-- the number of the origin is filed under the key too, and room for it is lost under no key
pub record IsFiledAt (key : Key) (origin number : ℕ) (old new : BTreeMap Key ByOrigin) : Type 0 where
  pub kept : (k : Key) (o n : ℕ) → IsMember (filed_in old k o) n → IsMember (filed_in new k o) n
  pub added : IsMember (filed_in new key origin) number
  pub only : (k : Key) (o n : ℕ) → IsMember (filed_in new k o) n →
      IsMember (filed_in old k o) n ⊎ IsThis key origin number k o n
  pub rooms : (k : Key) → HasRoomFor old k origin number → HasRoomFor new k origin number

-- there is room for the transaction under the key of the effect, and the fact is known that it adds
pub record IsReadied (s : Specification) (t : Tx) (m : BTreeMap Key ByOrigin) (known : List Fact)
    (e : Effect) : Type 0 where
  pub room : is_room_in m (key_of s t.args e) t.dot.origin ≡ true
  pub known_so : e.add ≡ true → has known (fact_given s t.args e) ≡ true

-- the effect at this place, if there is one, is so
pub record IsReadiedAt (s : Specification) (t : Tx) (m : BTreeMap Key ByOrigin) (known : List Fact)
    (place : ℕ) : Type 0 where
  pub there : (e : Effect) → slice_get (effects_of s t.action) place ≡ Some e → IsReadied s t m known e

-- and the first ones are
pub record AreReadied (s : Specification) (t : Tx) (m : BTreeMap Key ByOrigin) (known : List Fact)
    (count : ℕ) : Type 0 where
  pub each : (k : ℕ) → k < count → IsReadiedAt s t m known k

-- the number is that of the transaction, and the key one of its keys
pub record IsOfTx (s : Specification) (t : Tx) (k : Key) (o n : ℕ) : Type 0 where
  pub origin : o ≡ t.dot.origin
  pub number : n ≡ t.dot.number
  pub has : has_key s k t ≡ true

-- the new numbers are the old ones and the transaction's, under each of its keys
pub record Files (s : Specification) (t : Tx) (old new : Key → ℕ → List ℕ) : Type 0 where
  pub kept : (k : Key) (o n : ℕ) → IsMember (old k o) n → IsMember (new k o) n
  pub added : (k : Key) → has_key s k t ≡ true → IsMember (new k t.dot.origin) t.dot.number
  pub only : (k : Key) (o n : ℕ) → IsMember (new k o) n → IsMember (old k o) n ⊎ IsOfTx s t k o n

-- the same, for the effect at this place
pub record FilesAt (s : Specification) (t : Tx) (place : ℕ) (old new : BTreeMap Key ByOrigin) : Type 0 where
  pub kept : (k : Key) (o n : ℕ) → IsMember (filed_in old k o) n → IsMember (filed_in new k o) n
  pub added : (e : Effect) → slice_get (effects_of s t.action) place ≡ Some e →
      IsMember (filed_in new (key_of s t.args e) t.dot.origin) t.dot.number
  pub only : (k : Key) (o n : ℕ) → IsMember (filed_in new k o) n → IsMember (filed_in old k o) n ⊎ IsOfTx s t k o n
  pub rooms : (k : Key) → HasRoomFor old k t.dot.origin t.dot.number → HasRoomFor new k t.dot.origin t.dot.number

-- and for the first ones
pub record FilesFirst (s : Specification) (t : Tx) (count : ℕ) (old new : BTreeMap Key ByOrigin) : Type 0 where
  pub kept : (k : Key) (o n : ℕ) → IsMember (filed_in old k o) n → IsMember (filed_in new k o) n
  pub added : (k : ℕ) (e : Effect) → k < count → slice_get (effects_of s t.action) k ≡ Some e →
      IsMember (filed_in new (key_of s t.args e) t.dot.origin) t.dot.number
  pub only : (k : Key) (o n : ℕ) → IsMember (filed_in new k o) n → IsMember (filed_in old k o) n ⊎ IsOfTx s t k o n

-- there is room for the transaction under each of its keys, or it is filed there
pub record HasRooms (s : Specification) (t : Tx) (m : BTreeMap Key ByOrigin) : Type 0 where
  pub each : (k : ℕ) (e : Effect) → slice_get (effects_of s t.action) k ≡ Some e →
      HasRoomFor m (key_of s t.args e) t.dot.origin t.dot.number
