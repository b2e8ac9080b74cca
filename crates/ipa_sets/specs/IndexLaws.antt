-- Laws of an index of a history.
--
--   IsPlaced-push       the places with one more transaction
--   IsFiled-push        the numbers that are filed with one more transaction
--   numbers_low         no number of its origin that is filed is above that of the next transaction
--   places_low          no place is above that of the next transaction
--   entry_there         the transaction of an origin and number is found at its place
--   entry_named         what is found has this origin and number
use Rattle.std.proofs.Common.{◌≡◌, ℕ, zero, suc, ◌+◌, Bool, true, false, cond, List, [], ◌∷◌, ◌++◌, length, Option, Some, None, slice_get, take, refl, sym, ◌∙◌, ap, subst, arith, ◌⊎◌, inl, inr}
use Rattle.std.specs.Prelude.{◌==◌}
use Rattle.std.proofs.lemmas.List.{take_all, take-append-le, length_push}
use Rattle.std.proofs.lemmas.Option.{slice_get_within}
use Rattle.std.proofs.lemmas.Bool.{cases_Bool, eqb-true, eq-eqb, both_ways}
use Rattle.ipa_clock.specs.declared.dot.Dot.{Dot}
use Rattle.ipa_spec.specs.declared.specification.Specification.{Specification}
use Rattle.ipa_history.specs.Histories.{IsMember, IsHistory, number_of}
use Rattle.ipa_history.specs.MemberLaws.{member_cases, member_first, member_none, member-append_left, member-append_right, member-append_cases}
use Rattle.ipa_history.specs.HistoryLaws.{count_grows, count_push, one_named}
use Rattle.ipa_history.specs.Clocks.{number_within}
use Rattle.ipa_history.specs.PushLaws.{at_place, push_cases}
use Rattle.ipa_history.specs.declared.history.Tx.{Tx}
use Rattle.ipa_sets.specs.AtCuts.{entry_of, entry_at}
use Rattle.ipa_sets.specs.ByOrigins.{numbers_at}
use Rattle.ipa_sets.specs.Filings.{Files}
use Rattle.ipa_sets.specs.Indexes.{IsAt, IsPlaced, IsFiled, IsIndexOf, filed}
use Rattle.ipa_sets.specs.Keys.{has_key}
use Rattle.ipa_sets.specs.Numbers.{AreUpTo}
use Rattle.ipa_sets.specs.declared.index.Index.{Index}
use Rattle.ipa_sets.specs.declared.keys.Key.{Key}

-- dots with the same parts are the same
pub same_dots : (d e : Dot) → d.origin ≡ e.origin → d.number ≡ e.number → d ≡ e
same_dots d e p q = λ i. record { origin = p i; number = q i }

-- a place in a list is one in a longer list
at_left : {X : Type 0} (xs ys : List X) (k : ℕ) (x : X) → slice_get xs k ≡ Some x → slice_get (xs ++ ys) k ≡ Some x
at_left [] ys k x h = absurd (let s : None ≡ Some x = h in cc)
at_left (y ∷ xs) ys zero x h = h
at_left (y ∷ xs) ys (suc k) x h = at_left xs ys k x h

at_end : {X : Type 0} (xs : List X) (x : X) → slice_get (xs ++ x ∷ []) (length xs) ≡ Some x
at_end [] x = refl
at_end (y ∷ xs) x = at_end xs x

module _ (h : List Tx) (t : Tx) (is : IsHistory (h ++ t ∷ [])) where
  -- the number of the last transaction
  pub last_number : t.dot.number ≡ number_of t.dot.origin h + 1
  last_number = is.numbers (length h) t (at_end h t)
      ∙ ap (λ (xs : List Tx). number_of t.dot.origin xs + 1)
      (take-append-le (length h) h (t ∷ []) (omega arith) ∙ take_all (length h) h (omega arith))

  -- the places with one more transaction
  pub IsPlaced-push : (old new : ℕ → List ℕ) → IsPlaced h old
      → ((o : ℕ) → new o ≡ cond (o == t.dot.origin) (old t.dot.origin ++ length h ∷ []) (old o)) →
      IsPlaced (h ++ t ∷ []) new
  IsPlaced-push old new placed put = record {
    sized = λ o. sized_by o (o == t.dot.origin) refl;
    placed = λ o k p e. placed_by o k p (o == t.dot.origin) refl e;
  }
    where
      sized_by : (o : ℕ) (b : Bool) → (o == t.dot.origin) ≡ b → length (new o) ≡ number_of o (h ++ t ∷ [])
      sized_by o true e =
          let same : o ≡ t.dot.origin = eqb-true o t.dot.origin e in
          let long : length (new o) ≡ length (old t.dot.origin ++ length h ∷ []) =
          ap length (put o ∙ ap (λ (b : Bool). cond b (old t.dot.origin ++ length h ∷ []) (old o)) e) in
          let more = length_push (old t.dot.origin) (length h) in
          let was = placed.sized t.dot.origin in
          let count = count_push (λ (u : Tx). u.dot.origin == o) h t in
          let flag : Bool → ℕ = λ b. cond b 1 0 in
          let one : flag (t.dot.origin == o) ≡ flag true = ap flag (eq-eqb t.dot.origin o (sym same)) in
          let moved : number_of o h ≡ number_of t.dot.origin h = ap (λ (x : ℕ). number_of x h) same in
          omega (arith, long, more, was, count, one, moved)
      sized_by o false e =
          let long : length (new o) ≡ length (old o) =
          ap length (put o ∙ ap (λ (b : Bool). cond b (old t.dot.origin ++ length h ∷ []) (old o)) e) in
          let was = placed.sized o in
          let count = count_push (λ (u : Tx). u.dot.origin == o) h t in
          let flag : Bool → ℕ = λ b. cond b 1 0 in
          let none : flag (t.dot.origin == o) ≡ flag false = ap flag (apart (cases_Bool (t.dot.origin == o))) in
          omega (arith, long, was, count, none)
        where
          apart : ((t.dot.origin == o) ≡ true) ⊎ ((t.dot.origin == o) ≡ false) → (t.dot.origin == o) ≡ false
          apart (inl f) = absurd (both_ways (o == t.dot.origin) e (eq-eqb o t.dot.origin (sym
              (eqb-true t.dot.origin o f))))
          apart (inr f) = f

      longer : (o n p : ℕ) → IsAt h o n p → IsAt (h ++ t ∷ []) o n p
      longer o n p at = record {
        tx = at.tx;
        at = at_left h (t ∷ []) p at.tx at.at;
        origin_is = at.origin_is;
        number_is = at.number_is;
      }

      placed_by : (o k p : ℕ) (b : Bool) → (o == t.dot.origin) ≡ b → slice_get (new o) k ≡ Some p →
          IsAt (h ++ t ∷ []) o (k + 1) p
      placed_by o k p false e at = longer o (k + 1) p (placed.placed o k p (subst (λ
          (xs : List ℕ). slice_get xs k ≡ Some p)
          (put o ∙ ap (λ (b : Bool). cond b (old t.dot.origin ++ length h ∷ []) (old o)) e) at))
      placed_by o k p true e at =
          let same : o ≡ t.dot.origin = eqb-true o t.dot.origin e in
          let there : slice_get (old t.dot.origin ++ length h ∷ []) k ≡ Some p =
          subst (λ (xs : List ℕ). slice_get xs k ≡ Some p)
          (put o ∙ ap (λ (b : Bool). cond b (old t.dot.origin ++ length h ∷ []) (old o)) e) at in
          subst (λ (x : ℕ). IsAt (h ++ t ∷ []) x (k + 1) p) (sym same) (elim (push_cases (old t.dot.origin)
          (length h) k p there) [
            | inl before ↦ longer t.dot.origin (k + 1) p (placed.placed t.dot.origin k p before.1)
            | inr end ↦ subst (λ (x : ℕ). IsAt (h ++ t ∷ []) t.dot.origin (k + 1) x) end.1 (record {
              tx = t;
              at = at_end h t;
              origin_is = refl;
              number_is = let n = last_number in let was = placed.sized t.dot.origin in let k_is = end.0 in
                  omega (arith, n, was, k_is);
            })
          ])

  -- the numbers that are filed with one more transaction
  pub IsFiled-push : (s : Specification) (old new : Key → ℕ → List ℕ) → IsFiled s h old → Files s t old new →
      IsFiled s (h ++ t ∷ []) new
  IsFiled-push s old new filed files = record {
    sound = λ k o n m. elim (files.only k o n m) [
      | inl before ↦
          let by = filed.sound k o n before in
          record {
            tx = by.tx;
            member = member-append_left h (t ∷ []) by.tx by.member;
            origin_is = by.origin_is;
            number_is = by.number_is;
            has = by.has;
          }
      | inr own ↦ record {
        tx = t;
        member = member-append_right h (t ∷ []) t (member_first t []);
        origin_is = sym own.origin;
        number_is = sym own.number;
        has = own.has;
      }
    ];
    complete = λ k u m has. elim (member-append_cases h (t ∷ []) u m) [
      | inl a ↦ files.kept k u.dot.origin u.dot.number (filed.complete k u a has)
      | inr b ↦ elim (member_cases t [] u b) [
        | inl e ↦ subst (λ (x : Tx). IsMember (new k x.dot.origin) x.dot.number) e
            (files.added k (subst (λ (x : Tx). has_key s k x ≡ true) (sym e) has))
        | inr none ↦ absurd (member_none u none)
      ]
    ];
  }

  -- no number of its origin that is filed is above its own
  pub numbers_low : (s : Specification) (numbers : Key → ℕ → List ℕ) → IsFiled s h numbers → (k : Key) →
      AreUpTo (numbers k t.dot.origin) t.dot.number
  numbers_low s numbers filed k = record {
    low = λ n m.
        let by = filed.sound k t.dot.origin n m in
        let place = by.member in
        let early = slice_get_within h place.place by.tx place.at in
        let there = at_left h (t ∷ []) place.place by.tx place.at in
        let number : by.tx.dot.number ≡ number_of by.tx.dot.origin (take place.place (h ++ t ∷ [])) + 1 =
        is.numbers place.place by.tx there in
        let moved : number_of by.tx.dot.origin (take place.place (h ++ t ∷ [])) ≡ number_of t.dot.origin
        (take place.place (h ++ t ∷ [])) =
        ap (λ (x : ℕ). number_of x (take place.place (h ++ t ∷ []))) by.origin_is in
        let grows = count_grows (λ (u : Tx). u.dot.origin == t.dot.origin) (h ++ t ∷ []) place.place
        (length h) by.tx there
        (eq-eqb by.tx.dot.origin t.dot.origin by.origin_is) early in
        let last = is.numbers (length h) t (at_end h t) in
        let n_is = by.number_is in
        omega (arith, number, moved, grows, last, n_is);
  }

-- no place is above that of the next transaction
pub places_low : (h : List Tx) (places : ℕ → List ℕ) → IsPlaced h places → (o : ℕ) → AreUpTo (places o) (length h)
places_low h places placed o = record {
  low = λ p m.
      let at = placed.placed o m.place p m.at in
      let within = slice_get_within h p at.tx at.at in
      omega (arith, within);
}

module _ (s : Specification) (index : Index) (is : IsIndexOf s index) where
  -- what is found has this origin and number
  pub entry_named : (o n : ℕ) (t : Tx) → entry_of index o n ≡ Some t →
      IsMember index.entries t × (t.dot.origin ≡ o) × (t.dot.number ≡ n)
  entry_named o zero t e = absurd (let x : None ≡ Some t = e in cc)
  entry_named o (suc k) t e = by_place (slice_get (numbers_at index.places o) k) refl e
    where
      by_place : (p : Option ℕ) → slice_get (numbers_at index.places o) k ≡ p → entry_at index p ≡ Some t
          → IsMember index.entries t × (t.dot.origin ≡ o) × (t.dot.number ≡ suc k)
      by_place None at h = absurd (let x : None ≡ Some t = h in cc)
      by_place (Some p) at h =
          let placed = is.placed in
          let there = placed.placed o k p at in
          let both : Some there.tx ≡ Some t = sym there.at ∙ h in
          let same : there.tx ≡ t = cc in (
            record { place = p; at = h },
            ap (λ (x : Tx). x.dot.origin) (sym same) ∙ there.origin_is,
            ap (λ (x : Tx). x.dot.number) (sym same) ∙ (there.number_is ∙ (let e : k + 1 ≡ suc k = omega arith in e)),
          )

  -- a member is found at its place
  pub entry_there : (u : Tx) → IsMember index.entries u → entry_of index u.dot.origin u.dot.number ≡ Some u
  entry_there u m = by_number u.dot.number refl
    where
      by_number : (n : ℕ) → u.dot.number ≡ n → entry_of index u.dot.origin n ≡ Some u
      by_number zero e = absurd (let o = is.history in let own = o.own u m in omega (arith, own, e))
      by_number (suc k) e =
          let placed = is.placed in
          let sized = placed.sized u.dot.origin in
          let within = number_within index.entries is.history u m in
          let p = at_place (numbers_at index.places u.dot.origin) k (omega (arith, sized, within, e)) in
          let there = placed.placed u.dot.origin k p.0 p.1 in
          let number = there.number_is in
          let same : there.tx ≡ u = one_named index.entries is.history there.tx u
          (record { place = p.0; at = there.at }) m
          (same_dots there.tx.dot u.dot there.origin_is (omega (arith, number, e))) in
          ap (entry_at index) p.1 ∙ (there.at ∙ ap (λ (x : Tx). Some x) same)
