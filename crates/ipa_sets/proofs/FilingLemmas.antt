-- Lemmas for numbers that are filed under keys.
use Rattle.std.proofs.Common.{◌≡◌, ℕ, Bool, true, false, cond, List, [], Option, Some, None, Result, Ok, Err, refl, sym, ◌∙◌, ap, subst, ◌⊎◌, inl, inr}
use Rattle.std.specs.Prelude.{◌==◌, IsOk, is_some, OnOk}
use Rattle.std.specs.Option.{option_map_or}
use Rattle.std.specs.Ordering.{is_eq}
use Rattle.std.specs.BTreeMap.{BTreeMap, get}
use Rattle.std.proofs.lemmas.Bool.{cases_Bool, false≢true, eqb-true}
use Rattle.ipa_history.specs.Histories.{IsMember}
use Rattle.ipa_sets.specs.ByOrigins.{numbers_at, is_ready_at}
use Rattle.ipa_sets.specs.Filings.{is_known, IsWithKey, filed_in, is_room_in, HasRoomFor, IsRoomier, IsThis, IsFiledAt}
use Rattle.ipa_sets.specs.Keys.{key_cmp}
use Rattle.ipa_sets.specs.KeyLaws.{key_cmp-same, key_cmp-itself}
use Rattle.ipa_sets.specs.Numbers.{IsWith}
use Rattle.ipa_sets.specs.Shapes.{has_shape, AreMet}
use Rattle.ipa_sets.specs.declared.by_origin.ByOrigin.{ByOrigin}
use Rattle.ipa_sets.specs.declared.keys.Key.{Key}
use Rattle.ipa_sets.specs.declared.patterns.Pattern.{Pattern}
use Rattle.ipa_sets.specs.declared.shapes.Shapes.{Shapes}

-- what a map has after a key took a value
abbrev pub IsPut : BTreeMap Key ByOrigin → BTreeMap Key ByOrigin → Key → ByOrigin → Type 0
IsPut old new key lists = (k : Key) → get key_cmp new k ≡ cond (is_eq (key_cmp key k)) (Some lists) (get key_cmp old k)

module _ (old new : BTreeMap Key ByOrigin) (key : Key) (lists : ByOrigin) (put : IsPut old new key lists) where
  -- at the key
  pub put_here : get key_cmp new key ≡ Some lists
  put_here = put key ∙ ap (λ (b : Bool). cond b (Some lists) (get key_cmp old key)) (key_cmp-itself key)

  -- at the other keys
  pub put_other : (k : Key) → is_eq (key_cmp key k) ≡ false → get key_cmp new k ≡ get key_cmp old k
  put_other k apart = put k ∙ ap (λ (b : Bool). cond b (Some lists) (get key_cmp old k)) apart

  -- what is said of each value, where it is said of the new one
  pub put_each : (P : Key → Option ByOrigin → Type 0) → P key (Some lists) → ((k : Key) → P k (get key_cmp old k)) →
      (k : Key) → P k (get key_cmp new k)
  put_each P here others k = elim (cases_Bool (is_eq (key_cmp key k))) [
    | inl same ↦ subst (λ (q : Key). P q (get key_cmp new q)) (key_cmp-same key k same)
        (subst (λ (x : Option ByOrigin). P key x) (sym put_here) here)
    | inr apart ↦ subst (λ (x : Option ByOrigin). P k x) (sym (put_other k apart)) (others k)
  ]

  -- no number is filed, where the key takes the numbers that it had
  pub put_same : ((o : ℕ) → numbers_at lists o ≡ filed_in old key o) → (k : Key) (o : ℕ) →
      filed_in new k o ≡ filed_in old k o
  put_same same k o = put_each (λ q x. option_map_or (λ ls. numbers_at ls o) x [] ≡ filed_in old q o) (same o) (λ q. refl) k

  -- and rooms stay, where they stay at the key
  pub put_stay : ((o : ℕ) → is_room_in old key o ≡ true → is_ready_at lists o ≡ true) → (k : Key) (o : ℕ) →
      is_room_in old k o ≡ true → is_room_in new k o ≡ true
  put_stay stay k o = put_each
      (λ q x. is_room_in old q o ≡ true → option_map_or (λ ls. is_ready_at ls o) x false ≡ true) (stay o) (λ q h. h) k

  -- so no number is filed and no room is lost, where that is so at the key
  pub put_roomier : ((o : ℕ) → numbers_at lists o ≡ filed_in old key o) →
      ((o : ℕ) → is_room_in old key o ≡ true → is_ready_at lists o ≡ true) → IsRoomier old new
  put_roomier same stay = record { same = put_same same; stay = put_stay stay }

-- no numbers are filed under a key that is not known, and there is no room
pub none_filed : (m : BTreeMap Key ByOrigin) (k : Key) (o : ℕ) → get key_cmp m k ≡ None → filed_in m k o ≡ []
none_filed m k o none = ap (λ (x : Option ByOrigin). option_map_or (λ ls. numbers_at ls o) x []) none

pub no_room : (m : BTreeMap Key ByOrigin) (k : Key) (o : ℕ) → get key_cmp m k ≡ None → is_room_in m k o ≡ true → ⊥
no_room m k o none h = false≢true
    (sym (ap (λ (x : Option ByOrigin). option_map_or (λ ls. is_ready_at ls o) x false) none) ∙ h)

-- the numbers filed under a key that is known, and its room
pub some_filed : (m : BTreeMap Key ByOrigin) (k : Key) (o : ℕ) (ls : ByOrigin) → get key_cmp m k ≡ Some ls →
    numbers_at ls o ≡ filed_in m k o
some_filed m k o ls some = sym (ap (λ (x : Option ByOrigin). option_map_or (λ ls. numbers_at ls o) x []) some)

pub some_room : (m : BTreeMap Key ByOrigin) (k : Key) (o : ℕ) (ls : ByOrigin) → get key_cmp m k ≡ Some ls →
    is_ready_at ls o ≡ is_room_in m k o
some_room m k o ls some = sym (ap (λ (x : Option ByOrigin). option_map_or (λ ls. is_ready_at ls o) x false) some)

-- what is there for a value that is known is said of it
pub from_ok : {T E P : Type 0} (r : Result T E) → IsOk r → OnOk r P → P
from_ok (Ok x) i p = p
from_ok (Err e) i p = absurd (false≢true i)

-- nothing changes
pub roomier_itself : (m : BTreeMap Key ByOrigin) → IsRoomier m m
roomier_itself m = record { same = λ k o. refl; stay = λ k o h. h }

pub roomier_along : (a b c : BTreeMap Key ByOrigin) → IsRoomier a b → IsRoomier b c → IsRoomier a c
roomier_along a b c ab bc = record {
  same = λ k o. bc.same k o ∙ ab.same k o;
  stay = λ k o h. bc.stay k o (ab.stay k o h);
}

-- the number is filed
pub filed_step : (old new : BTreeMap Key ByOrigin) (key : Key) (was now : ByOrigin) (o n : ℕ) →
    get key_cmp old key ≡ Some was → IsPut old new key now
    → IsWith (numbers_at was o) n (numbers_at now o)
    → ((p : ℕ) → (p == o) ≡ false → numbers_at now p ≡ numbers_at was p)
    → IsFiledAt key o n old new
filed_step old new key was now o n had put with others = record {
  kept = λ k p m. put_each old new key now put
      (λ q x. (p m : ℕ) → IsMember (filed_in old q p) m → IsMember (option_map_or (λ ls. numbers_at ls p) x []) m)
      (λ p m i. at_key p m (subst (λ (xs : List ℕ). IsMember xs m) (sym (some_filed old key p was had)) i))
      (λ q p m i. i) k p m;
  added = subst (λ (xs : List ℕ). IsMember xs n) (some_filed new key o now here) with.added;
  only = λ k p m. put_each old new key now put
      (λ q x. (p m : ℕ) → IsMember (option_map_or (λ ls. numbers_at ls p) x []) m → IsMember (filed_in old q p) m ⊎ IsThis key o n q p m)
      (λ p m i. from_key p m i)
      (λ q p m i. inl i) k p m;
  rooms = λ k. put_each old new key now put
      (λ q x. HasRoomFor old q o n → (option_map_or (λ ls. is_ready_at ls o) x false ≡ true) ⊎ IsMember (option_map_or (λ ls. numbers_at ls o) x []) n)
      (λ h. inr with.added)
      (λ q h. h) k;
}
  where
    here : get key_cmp new key ≡ Some now
    here = put_here old new key now put

    at_key : (p m : ℕ) → IsMember (numbers_at was p) m → IsMember (numbers_at now p) m
    at_key p m i = elim (cases_Bool (p == o)) [
      | inl same ↦
          let e : p ≡ o = eqb-true p o same in
          subst (λ (x : ℕ). IsMember (numbers_at now x) m) (sym e)
          (with.kept m (subst (λ (x : ℕ). IsMember (numbers_at was x) m) e i))
      | inr apart ↦ subst (λ (xs : List ℕ). IsMember xs m) (sym (others p apart)) i
    ]

    from_key : (p m : ℕ) → IsMember (numbers_at now p) m → IsMember (filed_in old key p) m ⊎ IsThis key o n key p m
    from_key p m i = elim (cases_Bool (p == o)) [
      | inl same ↦
          let e : p ≡ o = eqb-true p o same in
          elim (with.only m (subst (λ (x : ℕ). IsMember (numbers_at now x) m) e i)) [
            | inl before ↦ inl (subst (λ (xs : List ℕ). IsMember xs m) (some_filed old key p was had)
                (subst (λ (x : ℕ). IsMember (numbers_at was x) m) (sym e) before))
            | inr new_one ↦ inr (record { key_is = refl; origin_is = e; number_is = new_one })
          ]
      | inr apart ↦ inl (subst (λ (xs : List ℕ). IsMember xs m) (some_filed old key p was had)
          (subst (λ (xs : List ℕ). IsMember xs m) (others p apart) i))
    ]

-- a key is known that takes a value, and no other becomes known
pub put_key : (old new : BTreeMap Key ByOrigin) (key : Key) (lists : ByOrigin) → IsPut old new key lists →
    IsWithKey old new key
put_key old new key lists put k known = elim (cases_Bool (is_eq (key_cmp key k))) [
  | inl same ↦ inr (sym (key_cmp-same key k same))
  | inr apart ↦ inl (subst (λ (x : Option ByOrigin). is_some x ≡ true) (put_other old new key lists put k apart) known)
]

-- where the key was known, none becomes known
pub put_known : (old new : BTreeMap Key ByOrigin) (key : Key) (was lists : ByOrigin) → IsPut old new key lists →
    get key_cmp old key ≡ Some was → (k : Key) → is_known new k ≡ true → is_known old k ≡ true
put_known old new key was lists put had k known = elim (put_key old new key lists put k known) [
  | inl before ↦ before
  | inr same ↦ subst (λ (q : Key). is_known old q ≡ true) (sym same)
      (subst (λ (x : Option ByOrigin). is_some x ≡ true) (sym had) refl)
]

-- the shapes stay those of the keys, where none has become known but one that has its shape
pub met_with : (old new : BTreeMap Key ByOrigin) (key : Key) (was now : Shapes) → AreMet (is_known old) was →
    IsWithKey old new key →
    (key.adds ≡ false → has_shape now key.pattern ≡ true)
    → ((p : Pattern) → has_shape was p ≡ true → has_shape now p ≡ true) → AreMet (is_known new) now
met_with old new key was now met with here kept k known removes = elim (with k known) [
  | inl before ↦ kept k.pattern (met k before removes)
  | inr same ↦ subst (λ (q : Key). q.adds ≡ false → has_shape now q.pattern ≡ true) (sym same) here removes
]
