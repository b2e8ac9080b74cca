-- Lemmas for filing a transaction effect by effect.
use Rattle.std.proofs.Common.{◌≡◌, ℕ, ◌+◌, ◌<◌, true, List, Some, None, slice_get, sym, ◌∙◌, subst, arith, inl, inr}
use Rattle.std.specs.Ordering.{is_eq}
use Rattle.std.specs.BTreeMap.{BTreeMap}
use Rattle.std.proofs.lemmas.Bool.{cases_eq}
use Rattle.ipa_spec.specs.Actions.{effects_of}
use Rattle.ipa_spec.specs.declared.operations.Effect.{Effect}
use Rattle.ipa_spec.specs.declared.specification.Specification.{Specification}
use Rattle.ipa_logic.specs.Facts.{has}
use Rattle.ipa_logic.specs.Touches.{fact_given}
use Rattle.ipa_logic.specs.declared.facts.Fact.{Fact}
use Rattle.ipa_history.specs.Histories.{IsMember}
use Rattle.ipa_history.specs.MemberLaws.{any_from}
use Rattle.ipa_history.specs.declared.history.Tx.{Tx}
use Rattle.ipa_sets.specs.Filings.{filed_in, AreFiledUpTo, HasRooms, IsRoomier, IsFiledAt, IsReadied, IsReadiedAt, AreReadied, FilesAt, FilesFirst}
use Rattle.ipa_sets.specs.Keys.{key_cmp, key_of, has_key}
use Rattle.ipa_sets.specs.KeyLaws.{key_cmp-itself}
use Rattle.ipa_sets.specs.declared.by_origin.ByOrigin.{ByOrigin}
use Rattle.ipa_sets.specs.declared.keys.Key.{Key}

module _ (s : Specification) (t : Tx) where
  -- what is ready stays so
  readied_stays : (m n : BTreeMap Key ByOrigin) (known more : List Fact) (e : Effect) → IsRoomier m n
      → ((f : Fact) → has known f ≡ true → has more f ≡ true) → IsReadied s t m known e → IsReadied s t n more e
  readied_stays m n known more e roomier kept is = record {
    room = roomier.stay (key_of s t.args e) t.dot.origin is.room;
    known_so = λ h. kept (fact_given s t.args e) (is.known_so h);
  }

  -- one more effect is ready
  pub readied_more : (m n : BTreeMap Key ByOrigin) (known more : List Fact) (count : ℕ) → AreReadied s t m known count → IsRoomier m n
      → ((f : Fact) → has known f ≡ true → has more f ≡ true) → IsReadiedAt s t n more count → AreReadied s t n more (count + 1)
  readied_more m n known more count are roomier kept at = record {
    each = λ k l. elim (cases_eq k count) [
      | inl same ↦ subst (λ (x : ℕ). IsReadiedAt s t n more x) (sym same) at
      | inr other ↦ record {
        there = λ e h. let is = are.each k (omega (arith, l, other)) in
            readied_stays m n known more e roomier kept (is.there e h);
      }
    ];
  }

  -- where all effects are ready, there is room for the transaction
  pub readied_rooms : (m : BTreeMap Key ByOrigin) (known : List Fact) (count : ℕ)
      → ((k : ℕ) (e : Effect) → slice_get (effects_of s t.action) k ≡ Some e → k < count)
      → AreReadied s t m known count → HasRooms s t m
  readied_rooms m known count low are = record {
    each = λ k e h. let is = are.each k (low k e h) in let r = is.there e h in inl r.room;
  }

  -- the key of an effect is one of the transaction's
  has_own : (place : ℕ) (e : Effect) → slice_get (effects_of s t.action) place ≡ Some e → has_key s (key_of s t.args e) t ≡ true
  has_own place e h = any_from (λ x. is_eq (key_cmp (key_of s t.args x) (key_of s t.args e))) (effects_of s t.action) e
      (record { place = place; at = h }) (key_cmp-itself (key_of s t.args e))

  -- an effect is filed
  pub files_at : (old new : BTreeMap Key ByOrigin) (place : ℕ) (e : Effect) → slice_get (effects_of s t.action) place ≡ Some e
      → IsFiledAt (key_of s t.args e) t.dot.origin t.dot.number old new → FilesAt s t place old new
  files_at old new place e h is = record {
    kept = is.kept;
    added = λ x g.
        let both : Some e ≡ Some x = sym h ∙ g in
        let same : e ≡ x = cc in
        subst (λ (y : Effect). IsMember (filed_in new (key_of s t.args y) t.dot.origin) t.dot.number) same is.added;
    only = λ k o n m. elim (is.only k o n m) [
      | inl before ↦ inl before
      | inr this ↦ inr (record {
        origin = this.origin_is;
        number = this.number_is;
        has = subst (λ (x : Key). has_key s x t ≡ true) (sym this.key_is) (has_own place e h);
      })
    ];
    rooms = is.rooms;
  }

  -- there is none
  pub files_none : (m : BTreeMap Key ByOrigin) (place : ℕ) → slice_get (effects_of s t.action) place ≡ None → FilesAt s t place m m
  files_none m place none = record {
    kept = λ k o n i. i;
    added = λ e h. let both : None ≡ Some e = sym none ∙ h in absurd cc;
    only = λ k o n i. inl i;
    rooms = λ k h. h;
  }

  -- none is filed yet
  pub files_first : (m : BTreeMap Key ByOrigin) → FilesFirst s t 0 m m
  files_first m = record { kept = λ k o n i. i; added = λ k e l h. absurd (omega (arith, l)); only = λ k o n i. inl i }

  -- one more is
  pub files_more : (first old new : BTreeMap Key ByOrigin) (count : ℕ) → FilesFirst s t count first old → FilesAt s t count old new
      → FilesFirst s t (count + 1) first new
  files_more first old new count are at = record {
    kept = λ k o n i. at.kept k o n (are.kept k o n i);
    added = λ k e l h. elim (cases_eq k count) [
      | inl same ↦ at.added e (subst (λ (x : ℕ). slice_get (effects_of s t.action) x ≡ Some e) same h)
      | inr other ↦ at.kept (key_of s t.args e) t.dot.origin t.dot.number (are.added k e (omega (arith, l, other)) h)
    ];
    only = λ k o n i. elim (at.only k o n i) [
      | inl before ↦ are.only k o n before
      | inr own ↦ inr own
    ];
  }

  -- rooms stay
  pub rooms_stay : (old new : BTreeMap Key ByOrigin) (place : ℕ) → FilesAt s t place old new → HasRooms s t old → HasRooms s t new
  rooms_stay old new place at are = record { each = λ k e h. at.rooms (key_of s t.args e) (are.each k e h) }

  -- and no number is above the transaction's
  pub rising_stays : (first new : BTreeMap Key ByOrigin) (count : ℕ) → FilesFirst s t count first new
      → AreFiledUpTo first t.dot.origin t.dot.number → AreFiledUpTo new t.dot.origin t.dot.number
  rising_stays first new count are up = record {
    each = λ k. record {
      low = λ n m. elim (are.only k t.dot.origin n m) [
        | inl before ↦ let u = up.each k in u.low n before
        | inr own ↦ let e = own.number in omega (arith, e)
      ];
    };
  }
