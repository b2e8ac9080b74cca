-- Lemmas for taking a transaction into an index.
use Rattle.std.proofs.Common.{◌≡◌, ℕ, ◌+◌, ◌<◌, Bool, true, false, cond, List, [], ◌∷◌, ◌++◌, length, Some, slice_get, sym, ◌∙◌, ap, subst, arith, ◌⊎◌, inl, inr}
use Rattle.std.specs.Prelude.{◌==◌, slice_index_or}
use Rattle.std.specs.Ordering.{is_eq}
use Rattle.std.proofs.lemmas.Bool.{and_parts}
use Rattle.std.proofs.lemmas.Option.{slice_get_within}
use Rattle.ipa_spec.specs.Actions.{effects_of}
use Rattle.ipa_spec.specs.Fits.{IsFit}
use Rattle.ipa_spec.specs.declared.operations.Effect.{Effect}
use Rattle.ipa_spec.specs.declared.specification.Specification.{Specification}
use Rattle.ipa_logic.specs.Facts.{has, fact_cmp}
use Rattle.ipa_logic.specs.FactLaws.{same_fact}
use Rattle.ipa_logic.specs.Touches.{has_rule, is_add_wins, gives, fact_given}
use Rattle.ipa_logic.specs.declared.facts.Fact.{Fact}
use Rattle.ipa_history.specs.Histories.{IsMember, IsHistory, number_of}
use Rattle.ipa_history.specs.MemberLaws.{found, member_cases, member_first, member_none, member-append_right, member-append_cases}
use Rattle.ipa_history.specs.Values.{adds_fact}
use Rattle.ipa_history.specs.declared.history.Tx.{Tx}
use Rattle.ipa_sets.specs.ByOrigins.{numbers_at}
use Rattle.ipa_sets.specs.Filings.{AreFiledUpTo, FilesFirst, Files, HasRooms}
use Rattle.ipa_sets.specs.Indexes.{IsAt, IsPlaced, IsFiled, IsIndexOf, IsReadyFor, IsWidened, filed}
use Rattle.ipa_sets.specs.IndexLaws.{IsPlaced-push, IsFiled-push, numbers_low, places_low}
use Rattle.ipa_sets.specs.Keys.{key_cmp, key_of}
use Rattle.ipa_sets.specs.KeyLaws.{key_cmp-same}
use Rattle.ipa_sets.specs.Numbers.{AreUpTo}
use Rattle.ipa_sets.specs.declared.index.Index.{Index}
use Rattle.ipa_sets.specs.declared.keys.Key.{Key}
use Rattle.ipa_sets.proofs.EffectLemmas.{effects-few}
use Rattle.ipa_sets.proofs.TakingLemmas.{readied_rooms}

-- the origin of the last transaction
pub last_origin : (h : List Tx) (t : Tx) → IsHistory (h ++ t ∷ []) → t.dot.origin < 16
last_origin h t is = is.origins t (member-append_right h (t ∷ []) t (member_first t []))

-- an index stays right where nothing has changed but rooms
pub index_stays : (s : Specification) (old new : Index) → IsWidened old new → IsIndexOf s old → IsIndexOf s new
index_stays s old new wide is = record {
  history = subst IsHistory (sym wide.entries) is.history;
  empty = wide.empty ∙ is.empty;
  placed = record {
    sized = λ o. ap length (wide.places o) ∙ ((let p = is.placed in p.sized o)
        ∙ ap (number_of o) (sym wide.entries));
    placed = λ o k p e. subst (λ (h : List Tx). IsAt h o (k + 1) p) (sym wide.entries)
        (let at = is.placed in at.placed o k p (subst (λ (xs : List ℕ). slice_get xs k ≡ Some p) (wide.places o) e));
  };
  filed_so = record {
    sound = λ k o n m.
        let so = is.filed_so in
        let room = wide.filed_so in
        let by = so.sound k o n (subst (λ (xs : List ℕ). IsMember xs n) (room.same k o) m) in
        record {
          tx = by.tx;
          member = subst (λ (h : List Tx). IsMember h by.tx) (sym wide.entries) by.member;
          origin_is = by.origin_is;
          number_is = by.number_is;
          has = by.has;
        };
    complete = λ k t m h.
        let so = is.filed_so in
        let room = wide.filed_so in
        subst (λ (xs : List ℕ). IsMember xs t.dot.number) (sym (room.same k t.dot.origin))
        (so.complete k t (subst (λ (h : List Tx). IsMember h t) wide.entries m) h);
  };
  known = λ t f m h. wide.known f (is.known t f (subst (λ (h : List Tx). IsMember h t) wide.entries m) h);
  rules = λ t p m. ap (λ (xs : List Bool). slice_index_or xs p false) wide.rules
      ∙ is.rules t p (subst (λ (h : List Tx). IsMember h t) wide.entries m);
}

module _ (s : Specification) (fit : IsFit s) (t : Tx) where
  -- each effect has a place below 12
  effect_low : (k : ℕ) (e : Effect) → slice_get (effects_of s t.action) k ≡ Some e → k < 12
  effect_low k e h =
      let few = effects-few s fit t.action in
      let within = slice_get_within (effects_of s t.action) k e h in
      omega (arith, few, within)

  -- there is room for the transaction under its keys
  pub rooms_for : (index : Index) → IsReadyFor s t index → HasRooms s t index.filed.lists
  rooms_for index ready = readied_rooms s t index.filed.lists index.known 12 effect_low ready.effects

  -- the transaction is filed under all its keys
  files_all : (mid new : Index) → FilesFirst s t 12 mid.filed.lists new.filed.lists → Files s t (filed mid) (filed new)
  files_all mid new files = record {
    kept = files.kept;
    added = λ k h.
        let e = found (λ x. is_eq (key_cmp (key_of s t.args x) k)) (effects_of s t.action) h in
        let m = e.member in
        subst (λ (q : Key). IsMember (filed new q t.dot.origin) t.dot.number) (key_cmp-same (key_of s t.args e.one) k e.passes)
        (files.added m.place e.one (effect_low m.place e.one m.at) m.at);
    only = files.only;
  }

  -- the facts that it adds are known
  adds_known : (index : Index) → IsReadyFor s t index → (f : Fact) → adds_fact s f t ≡ true → has index.known f ≡ true
  adds_known index ready f h =
      let e = found (gives s t.args f) (effects_of s t.action) h in
      let m = e.member in
      let one = e.one in
      let parts = and_parts one.add (is_eq (fact_cmp (fact_given s t.args one) f)) e.passes in
      let effects = ready.effects in
      let at = effects.each m.place (effect_low m.place one m.at) in
      let is = at.there one m.at in
      subst (λ (g : Fact). has index.known g ≡ true) (same_fact (fact_given s t.args one) f parts.1) (is.known_so parts.0)

  module _ (mid : Index) (is : IsIndexOf s mid) (next : IsHistory (mid.entries ++ t ∷ [])) where
    -- no place and no number is above those of the transaction
    pub place_low : (place : ℕ) → place ≡ length mid.entries → AreUpTo (numbers_at mid.places t.dot.origin) place
    place_low place e = subst (λ (n : ℕ). AreUpTo (numbers_at mid.places t.dot.origin) n) (sym e)
        (places_low mid.entries (numbers_at mid.places) is.placed t.dot.origin)

    pub rising_for : AreFiledUpTo mid.filed.lists t.dot.origin t.dot.number
    rising_for = record { each = λ k. numbers_low mid.entries t next s (filed mid) is.filed_so k }

    -- the index with the transaction
    pub index_taken : (new : Index) → IsReadyFor s t mid → (place : ℕ) → place ≡ length mid.entries
        → new.room.items ≡ [] → new.entries ≡ mid.entries ++ t ∷ []
        → ((o : ℕ) → numbers_at new.places o
        ≡ cond (o == t.dot.origin) (numbers_at mid.places t.dot.origin ++ place ∷ []) (numbers_at mid.places o))
        → FilesFirst s t 12 mid.filed.lists new.filed.lists → new.known ≡ mid.known
        → ((p : ℕ) → slice_index_or new.adds_win p false ≡ has_rule is_add_wins s p) → IsIndexOf s new
    index_taken new ready place at empty entries places files known rules = record {
      history = subst IsHistory (sym entries) next;
      empty = empty;
      placed = subst (λ (h : List Tx). IsPlaced h (numbers_at new.places)) (sym entries)
          (IsPlaced-push mid.entries t next (numbers_at mid.places) (numbers_at new.places) is.placed
          (λ o. places o ∙ ap (λ (n : ℕ). cond (o == t.dot.origin) (numbers_at mid.places t.dot.origin ++ n ∷ [])
          (numbers_at mid.places o)) at));
      filed_so = subst (λ (h : List Tx). IsFiled s h (filed new)) (sym entries)
          (IsFiled-push mid.entries t next s (filed mid) (filed new) is.filed_so (files_all mid new files));
      known = λ u f m h. subst (λ (fs : List Fact). has fs f ≡ true) (sym known)
          (known_by u f (member-append_cases mid.entries (t ∷ []) u (subst (λ (h : List Tx). IsMember h u) entries m)) h);
      rules = λ u p m. rules p;
    }
      where
        known_by : (u : Tx) (f : Fact) → IsMember mid.entries u ⊎ IsMember (t ∷ []) u →
            adds_fact s f u ≡ true → has mid.known f ≡ true
        known_by u f (inl a) h = is.known u f a h
        known_by u f (inr b) h = elim (member_cases t [] u b) [
          | inl e ↦ adds_known mid ready f (subst (λ (x : Tx). adds_fact s f x ≡ true) (sym e) h)
          | inr none ↦ absurd (member_none u none)
        ]

-- a history that is not empty has a member
pub some_member : (h : List Tx) → 0 < length h → (t : Tx) × IsMember h t
some_member [] some = absurd (omega arith)
some_member (t ∷ ts) some = (t, member_first t ts)
