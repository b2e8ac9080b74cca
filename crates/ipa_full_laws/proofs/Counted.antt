-- A legal history whose operations were asked for is short.
--
--   IsDoneAt outcomes t p    the transaction is the commit of the outcome in this place
--   image_at                 what stands in a list of images
--   operations-few           there are at most as many operations as requests to do one
--   drops-few                and as many drops as each session can make
--   entries-few              the law
use Rattle.std.proofs.Common.{◌≡◌, ℕ, zero, suc, ◌+◌, ◌*◌, ◌<◌, ◌≤◌, Bool, true, false, not, ◌&&◌, ◌==◌, nat_lt, cond, List, [], ◌∷◌, ◌++◌, length, map, take, filter, option_map, slice_get, Some, refl, sym, ◌∙◌, ap, subst, arith, ◌⊎◌, inl, inr}
use Rattle.std.proofs.lemmas.Bool.{false≢true, cases_Bool, cases_order, and_from, and_parts, eq-eqb, lt-ltb, ltb-true, not_from_false}
use Rattle.std.proofs.lemmas.List.{length-append, length-map}
use Rattle.std.proofs.lemmas.List.Filters.{length-filter_both}
use Rattle.std.proofs.lemmas.Nat.{mul-le}
use Rattle.std.proofs.lemmas.Option.{same_Some, slice_get-map}
use Rattle.ipa_clock.specs.declared.dot.Dot.{Dot}
use Rattle.ipa_spec.specs.Fits.{IsFit}
use Rattle.ipa_spec.specs.declared.specification.Specification.{Specification}
use Rattle.ipa_logic.specs.Facts.{Universe}
use Rattle.ipa_logic.specs.declared.facts.Fact.{Fact}
use Rattle.ipa_logic.specs.declared.facts.Request.{Request}
use Rattle.ipa_history.specs.Histories.{IsMember, IsHistory, number_of}
use Rattle.ipa_history.specs.HistoryLaws.{count_grows}
use Rattle.ipa_history.specs.LawfulEnds.{IsAt}
use Rattle.ipa_history.specs.Legality.{IsLegalHistory}
use Rattle.ipa_history.specs.MemberLaws.{member_first, member_later, filter_member, member-filter, member-append_left, member-append_right}
use Rattle.ipa_history.specs.declared.answers.Answer.TheVariants.{Commit}
use Rattle.ipa_history.specs.declared.history.Tx.{Tx}
use Rattle.ipa_history.specs.declared.outcomes.Outcome.{Outcome}
use Rattle.ipa_lift.specs.FewDrops.{is_operation, is_drop_of, drops_of, operations_of, no_more, drops_are_few}
use Rattle.ipa_full_laws.specs.Large.{do_count, most_entries, AreAsked}
use Rattle.ipa_full_laws.proofs.Placed.{Place, place, places_of, length-places_of, place_there}

-- the transaction is the commit of the outcome in this place
pub record IsDoneAt (outcomes : List (List Outcome)) (t : Tx) (p : Place) : Type 0 where
  pub session : p.session ≡ t.dot.origin
  pub outcome : Outcome
  pub at : IsAt outcomes p.session p.number outcome
  pub commits : outcome.answer ≡ Commit t.dot.number

abbrev dot_of : ℕ → ℕ → Dot
dot_of origin number = record { origin = origin; number = number }

-- there is one in a place
one_dot : (outcomes : List (List Outcome)) (t u : Tx) (p : Place) → IsDoneAt outcomes t p → IsDoneAt outcomes u p →
    t.dot ≡ u.dot
one_dot outcomes t u p one two =
    let list : one.at.list ≡ two.at.list =
    same_Some one.at.list two.at.list (sym one.at.list_at ∙ two.at.list_at) in
    let outcome : one.outcome ≡ two.outcome = same_Some one.outcome two.outcome
    (sym one.at.at ∙ (ap (λ (os : List Outcome). slice_get os p.number) list ∙ two.at.at)) in
    let answer : Commit t.dot.number ≡ Commit u.dot.number =
    sym one.commits ∙ (ap (λ (o : Outcome). o.answer) outcome ∙ two.commits) in
    let number : t.dot.number ≡ u.dot.number = cc in
    let origin : t.dot.origin ≡ u.dot.origin = sym one.session ∙ two.session in
    ap (λ (o : ℕ). dot_of o t.dot.number) origin ∙ ap (λ (n : ℕ). dot_of u.dot.origin n) number

-- no two members have one dot
apart : (h : List Tx) → IsHistory h → (j k : ℕ) (t u : Tx) → slice_get h j ≡ Some t → slice_get h k ≡ Some u → j < k →
    t.dot ≡ u.dot → ⊥
apart h is j k t u first second less same =
    let origin : t.dot.origin ≡ u.dot.origin = ap (λ (d : Dot). d.origin) same in
    let number : t.dot.number ≡ u.dot.number = ap (λ (d : Dot). d.number) same in
    let grows = count_grows (λ (v : Tx). v.dot.origin == u.dot.origin) h j k t first
    (eq-eqb t.dot.origin u.dot.origin origin) less in
    let early = is.numbers j t first in
    let late = is.numbers k u second in
    let here : number_of t.dot.origin (take j h) ≡ number_of u.dot.origin (take j h) =
    ap (λ (o : ℕ). number_of o (take j h)) origin in
    omega (arith, grows, early, late, here, number)

-- what a member is counted by: an operation by its place, a drop by itself
abbrev Counter : Type 0
Counter = Place ⊎ Tx

abbrev by_place : Place → Counter
by_place p = inl p

abbrev by_itself : Tx → Counter
by_itself t = inr t

abbrev IsCounted : List (List Outcome) → Tx → Counter → Type 0
IsCounted outcomes t (inl p) = IsDoneAt outcomes t p
IsCounted outcomes t (inr u) = t ≡ u

-- the image of an item stands in its place
pub image_at : {X Y : Type 0} (f : X → Y) (xs : List X) (k : ℕ) (x : X) → slice_get xs k ≡ Some x →
    slice_get (map f xs) k ≡ Some (f x)
image_at f xs k x at = slice_get-map f xs k ∙ ap (option_map f) at

mapped : {X Y : Type 0} (f : X → Y) (xs : List X) (x : X) → IsMember xs x → IsMember (map f xs) (f x)
mapped f xs x m = record { place = m.place; at = image_at f xs m.place x m.at }

abbrev is_drop : Tx → Bool
is_drop t = not (is_operation t)

module _ (h : List Tx) (is : IsHistory h) (requests : List (List Request)) (outcomes : List (List Outcome))
    (asked : AreAsked requests outcomes h) where
  abbrev drops : List Tx
  drops = filter is_drop h

  abbrev counters : List Counter
  counters = map by_place (places_of 0 requests) ++ map by_itself drops

  counted : (t : Tx) → IsMember h t → (y : Counter) × IsMember counters y × IsCounted outcomes t y
  counted t m = elim (cases_Bool (is_operation t)) [
    | inl operation ↦
        let named = asked.named t m operation in
        let request = asked.asked t.dot.origin named.place t.dot.number named.outcome named.at named.commits in
        let there = place_there 0 t.dot.origin named.place requests request.at.list request.op request.args
        request.at.list_at request.at.at in
        let zeroth : 0 + t.dot.origin ≡ t.dot.origin = omega arith in (
          by_place (place t.dot.origin named.place),
          member-append_left (map by_place (places_of 0 requests)) (map by_itself drops)
              (by_place (place t.dot.origin named.place))
              (mapped by_place (places_of 0 requests) (place t.dot.origin named.place)
              (subst (λ (i : ℕ). IsMember (places_of 0 requests) (place i named.place)) zeroth there)),
          record { session = refl; outcome = named.outcome; at = named.at; commits = named.commits },
        )
    | inr away ↦ (
      by_itself t,
      member-append_right (map by_place (places_of 0 requests)) (map by_itself drops) (by_itself t)
          (mapped by_itself drops t (member-filter is_drop h t m (not_from_false (is_operation t) away))),
      refl,
    )
  ]

  once : (j k : ℕ) (t u : Tx) (y : Counter) → slice_get h j ≡ Some t → slice_get h k ≡ Some u → j < k →
      IsCounted outcomes t y → IsCounted outcomes u y → ⊥
  once j k t u (inl p) first second less one two = apart h is j k t u first second less (one_dot outcomes t u p one two)
  once j k t u (inr v) first second less one two =
      apart h is j k t u first second less (ap (λ (x : Tx). x.dot) (one ∙ sym two))

  -- there are at most as many members as requests to do an operation, and drops
  members-few : length h ≤ do_count requests + length drops
  members-few =
      let few = no_more (IsCounted outcomes) h counters counted once in
      let whole = length-append (map by_place (places_of 0 requests)) (map by_itself drops) in
      let places = length-map (places_of 0 requests) by_place in
      let others = length-map drops by_itself in
      let count = length-places_of 0 requests in
      omega (arith, few, whole, places, others, count)

  -- and as many operations as such requests
  operations-few : length (operations_of h) ≤ do_count requests
  operations-few =
      let both = length-filter_both is_operation is_drop (λ t. refl) h in
      let few = members-few in
      omega (arith, both, few)

-- where what passes one test passes one of two others
filter_two : {X : Type 0} (p q r : X → Bool) (xs : List X) →
    ((x : X) → IsMember xs x → p x ≡ true → (q x ≡ true) ⊎ (r x ≡ true)) →
    length (filter p xs) ≤ length (filter q xs) + length (filter r xs)
filter_two p q r [] split = omega arith
filter_two p q r (x ∷ xs) split = by_tests (p x) (q x) (r x) (split x (member_first x xs))
    (filter_two p q r xs (λ y m. split y (member_later x xs y m)))
  where
    by_tests : (a b c : Bool) → (a ≡ true → (b ≡ true) ⊎ (c ≡ true)) →
        length (filter p xs) ≤ length (filter q xs) + length (filter r xs) →
        length (cond a (x ∷ filter p xs) (filter p xs))
        ≤ length (cond b (x ∷ filter q xs) (filter q xs)) + length (cond c (x ∷ filter r xs) (filter r xs))
    by_tests true true true one rest = omega (arith, rest)
    by_tests true true false one rest = omega (arith, rest)
    by_tests true false true one rest = omega (arith, rest)
    by_tests true false false one rest =
        absurd (elim (one refl) [ inl wrong ↦ false≢true wrong | inr wrong ↦ false≢true wrong ])
    by_tests false true true one rest = omega (arith, rest)
    by_tests false true false one rest = omega (arith, rest)
    by_tests false false true one rest = omega (arith, rest)
    by_tests false false false one rest = omega (arith, rest)

-- drops of the first n origins, where there are at most so many of each
module _ (h : List Tx) (each : ℕ) (few : (o : ℕ) → length (drops_of o h) ≤ each) where
  none_below : (p : Tx → Bool) → ((t : Tx) → IsMember h t → p t ≡ true → (is_drop t ≡ true) × (t.dot.origin < 0)) →
      length (filter p h) ≤ 0
  none_below p of = no_more (λ (t u : Tx). ⊥) (filter p h) []
      (λ t m.
      let kept = filter_member p h t m in
      let low : t.dot.origin < 0 = (of t kept.member kept.passes).1 in
      absurd (omega (arith, low)))
      (λ j k t u y first second less one two. one)

  drops-few : (n : ℕ) (p : Tx → Bool) →
      ((t : Tx) → IsMember h t → p t ≡ true → (is_drop t ≡ true) × (t.dot.origin < n)) →
      length (filter p h) ≤ n * each
  drops-few zero p of = let none = none_below p of in omega (arith, none)
  drops-few (suc n) p of =
      let lower : Tx → Bool = λ t. p t && nat_lt t.dot.origin n in
      let rest : length (filter lower h) ≤ n * each = drops-few n lower (λ t m passes.
      let parts = and_parts (p t) (nat_lt t.dot.origin n) passes in
      ((of t m parts.0).0, ltb-true t.dot.origin n parts.1)) in
      let own = few n in
      let split = filter_two p lower (is_drop_of n) h (λ t m passes.
      let one = of t m passes in
      split_at t passes one.0 one.1) in
      omega (arith, rest, own, split)
    where
      split_at : (t : Tx) → p t ≡ true → is_drop t ≡ true → t.dot.origin < suc n →
          ((p t && nat_lt t.dot.origin n) ≡ true) ⊎ (is_drop_of n t ≡ true)
      split_at t passes drop low = elim (cases_order t.dot.origin n) [
        | inl same ↦ inr (and_from (t.dot.origin == n) (is_drop t) (eq-eqb t.dot.origin n same) drop)
        | inr other ↦ elim other [
          | inl less ↦ inl (and_from (p t) (nat_lt t.dot.origin n) passes (lt-ltb t.dot.origin n less))
          | inr more ↦ absurd (omega (arith, low, more))
        ]
      ]

-- the sum
total : (entries asked drops operations sessions facts : ℕ) → entries ≤ asked + drops →
    drops ≤ sessions * (facts + 12 * operations) → operations ≤ asked →
    entries ≤ most_entries sessions facts asked
total entries asked drops operations sessions facts whole few less =
    let grows = mul-le sessions (facts + 12 * operations) sessions (facts + 12 * asked) (omega arith) (omega arith) in
    omega (arith, whole, few, grows)

-- the law
pub entries-few : (s : Specification) → IsFit s → (universe : Universe) (base : List Fact)
    (requests : List (List Request)) (outcomes : List (List Outcome)) (h : List Tx) → IsLegalHistory s universe base h →
    AreAsked requests outcomes h → length h ≤ most_entries (length requests) (length base) (do_count requests)
entries-few s fit universe base requests outcomes h legal asked =
    total (length h) (do_count requests) (length (filter is_drop h)) (length (operations_of h)) (length requests)
    (length base) (members-few h legal.history requests outcomes asked)
    (drops-few h (length base + 12 * length (operations_of h)) (drops_are_few s fit universe base h legal)
    (length requests) is_drop (λ t m drop. (drop, asked.origins t m)))
    (operations-few h legal.history requests outcomes asked)
