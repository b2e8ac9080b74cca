-- Laws of ages.
--
--   age_cmp_total         ages are in a total order
--   IsGreatestAge         an age is the greatest of those of some transactions, or there are none
--   greatest_age          the age of a fact is
--   age_of-same           lists with the same members give each fact the same age
use Rattle.std.proofs.Common.{◌≡◌, Bool, true, false, not, ◌&&◌, cond, List, [], ◌∷◌, refl, sym, ◌∙◌, ap, subst, ◌⊎◌, inl, inr}
use Rattle.std.specs.Prelude.{filter}
use Rattle.std.specs.List.{fold}
use Rattle.std.specs.Ordering.{is_lt, nat_cmp, ordering_then, ordering_reverse}
use Rattle.std.specs.Cmp.{IsTotalOrder, on_total, then_total, nat_cmp_total}
use Rattle.std.specs.declared.cmp.Ordering.{Ordering}
use Rattle.std.specs.declared.cmp.Ordering.TheVariants.{Less, Equal, Greater}
use Rattle.std.proofs.lemmas.Bool.{true≢false}
use Rattle.std.proofs.lemmas.Map.Lookups.{exact_unsigned}
use Rattle.ipa_spec.specs.declared.specification.Specification.{Specification}
use Rattle.ipa_logic.specs.DueDrops.{age_cmp}
use Rattle.ipa_logic.specs.OrderLaws.{lt-itself, lt-turned, lt-past, Less-from_lt}
use Rattle.ipa_logic.specs.declared.facts.Age.{Age}
use Rattle.ipa_logic.specs.declared.facts.Fact.{Fact}
use Rattle.ipa_history.specs.Histories.{IsMember, is_before}
use Rattle.ipa_history.specs.Values.{adds_fact, touches_fact, is_maximal_add}
use Rattle.ipa_history.specs.Ages.{age_of_tx, greater_age, no_age, age_of}
use Rattle.ipa_history.specs.MemberLaws.{member_cases, member_first, member_later, member_none, member-filter, filter_member, any_both, any_from}
use Rattle.ipa_history.specs.declared.history.Tx.{Tx}

-- ages are in a total order
pub age_cmp_total : IsTotalOrder age_cmp
age_cmp_total = then_total (on_total (λ (a : Age). a.size) nat_cmp_total)
    (on_total (λ (a : Age). a.origin) nat_cmp_total)

-- ages of which neither is less are the same
same_age : (a b : Age) → is_lt (age_cmp a b) ≡ false → is_lt (age_cmp b a) ≡ false → a ≡ b
same_age a b h g = by_order (nat_cmp a.size b.size) (nat_cmp a.origin b.origin) refl refl h turned
  where
    turned : is_lt (ordering_reverse (age_cmp a b)) ≡ false
    turned = sym (ap is_lt (age_cmp_total.antisymm b a)) ∙ g

    by_order : (r q : Ordering) → nat_cmp a.size b.size ≡ r → nat_cmp a.origin b.origin ≡ q →
        is_lt (ordering_then r q) ≡ false
        → is_lt (ordering_reverse (ordering_then r q)) ≡ false → a ≡ b
    by_order Less q e f h g = absurd (true≢false h)
    by_order Greater q e f h g = absurd (true≢false g)
    by_order Equal Less e f h g = absurd (true≢false h)
    by_order Equal Greater e f h g = absurd (true≢false g)
    by_order Equal Equal e f h g =
        let size : a.size ≡ b.size = exact_unsigned _ _ e in
        let origin : a.origin ≡ b.origin = exact_unsigned _ _ f in
        λ i. record { size = size i; origin = origin i }

-- the age is at least the first one and those of the transactions, and it is one of these
pub record IsGreatestAge (first : Age) (ts : List Tx) (age : Age) : Type 0 where
  pub past_first : is_lt (age_cmp age first) ≡ false
  pub past : (t : Tx) → IsMember ts t → is_lt (age_cmp age (age_of_tx t)) ≡ false
  pub reached : (age ≡ first) ⊎ ((t : Tx) × IsMember ts t × (age ≡ age_of_tx t))

-- the greater of two is past both, and one of them
greater_past : (a b : Age) → (is_lt (age_cmp (greater_age a b) a) ≡ false) ×
    (is_lt (age_cmp (greater_age a b) b) ≡ false) × ((greater_age a b ≡ a) ⊎ (greater_age a b ≡ b))
greater_past a b = by_test (is_lt (age_cmp a b)) refl
  where
    by_test : (test : Bool) → is_lt (age_cmp a b) ≡ test → (is_lt (age_cmp (cond test b a) a) ≡ false) ×
        (is_lt (age_cmp (cond test b a) b) ≡ false) × ((cond test b a ≡ a) ⊎ (cond test b a ≡ b))
    by_test true e = (lt-turned age_cmp_total a b (Less-from_lt (age_cmp a b) e), lt-itself age_cmp_total b, inr refl)
    by_test false e = (lt-itself age_cmp_total a, e, inl refl)

-- folding gives it
greatest_age : (first : Age) (ts : List Tx) → IsGreatestAge first ts
    (fold (λ age t. greater_age age (age_of_tx t)) first ts)
greatest_age first [] = record {
  past_first = lt-itself age_cmp_total first;
  past = λ t m. absurd
      (member_none t m);
  reached = inl refl;
}
greatest_age first (x ∷ xs) = step (greatest_age (greater_age first (age_of_tx x)) xs)
    (greater_past first (age_of_tx x))
  where
    step : {age : Age} → IsGreatestAge (greater_age first (age_of_tx x)) xs age
        → (is_lt (age_cmp (greater_age first (age_of_tx x)) first) ≡ false) ×
        (is_lt (age_cmp (greater_age first (age_of_tx x)) (age_of_tx x)) ≡ false)
        × ((greater_age first (age_of_tx x) ≡ first) ⊎ (greater_age first (age_of_tx x) ≡ age_of_tx x))
        → IsGreatestAge first (x ∷ xs) age
    step {age} rest two = record {
      past_first = lt-past age_cmp_total age (greater_age first (age_of_tx x)) first rest.past_first two.0;
      past = λ t m. elim (member_cases x xs t m) [
        | inl e ↦ subst (λ (u : Tx). is_lt (age_cmp age (age_of_tx u)) ≡ false) e
            (lt-past age_cmp_total age (greater_age first (age_of_tx x)) (age_of_tx x) rest.past_first two.1)
        | inr r ↦ rest.past t r
      ];
      reached = elim rest.reached [
        | inl e ↦ elim two.2 [ inl one ↦ inl (e ∙ one) | inr other ↦ inr (x, member_first x xs, e ∙ other) ]
        | inr r ↦ inr (r.0, member_later x xs r.0 r.1, r.2)
      ];
    }

-- the greatest age depends on the members alone
not_less : (first : Age) (xs ys : List Tx) (a b : Age) → ((u : Tx) → IsMember xs u → IsMember ys u) →
    IsGreatestAge first xs a → IsGreatestAge first ys b → is_lt (age_cmp b a) ≡ false
not_less first xs ys a b there one two = elim one.reached [
  | inl e ↦ subst (λ (x : Age). is_lt (age_cmp b x) ≡ false) (sym e) two.past_first
  | inr r ↦ subst (λ (x : Age). is_lt (age_cmp b x) ≡ false) (sym r.2) (two.past r.0 (there r.0 r.1))
]

pub greatest_same : (first : Age) (xs ys : List Tx) → ((u : Tx) → IsMember xs u → IsMember ys u) →
    ((u : Tx) → IsMember ys u → IsMember xs u)
    → fold (λ age t. greater_age age (age_of_tx t)) first xs ≡ fold (λ age t. greater_age age (age_of_tx t)) first ys
greatest_same first xs ys there back =
    let one = greatest_age first xs in
    let two = greatest_age first ys in
    same_age _ _ (not_less first ys xs _ _ back two one) (not_less first xs ys _ _ there one two)

-- a maximal add of one list is one of each list with the same members
maximal_there : (s : Specification) (xs ys : List Tx) (f : Fact) → ((u : Tx) → IsMember xs u → IsMember ys u) →
    ((u : Tx) → IsMember ys u → IsMember xs u) → (t : Tx)
    → is_maximal_add s xs f t ≡ is_maximal_add s ys f t
maximal_there s xs ys f there back t =
    ap (λ (b : Bool). (touches_fact s f t && not b) && adds_fact s f t)
    (any_both (λ u. touches_fact s f u && is_before t u) (λ u. touches_fact s f u && is_before t u) xs ys
    (λ u m h. any_from (λ v. touches_fact s f v && is_before t v) ys u (there u m) h)
    (λ u m h. any_from (λ v. touches_fact s f v && is_before t v) xs u (back u m) h))

-- lists with the same members give each fact the same age
pub age_of-same : (s : Specification) (f : Fact) (xs ys : List Tx) → ((u : Tx) → IsMember xs u → IsMember ys u) →
    ((u : Tx) → IsMember ys u → IsMember xs u)
    → age_of s xs f ≡ age_of s ys f
age_of-same s f xs ys there back = greatest_same no_age (filter (is_maximal_add s xs f) xs)
    (filter (is_maximal_add s ys f) ys)
    (λ u m. let k = filter_member (is_maximal_add s xs f) xs u m in member-filter (is_maximal_add s ys f) ys u
    (there u k.member) (sym (maximal_there s xs ys f there back u) ∙ k.passes))
    (λ u m. let k = filter_member (is_maximal_add s ys f) ys u m in member-filter (is_maximal_add s xs f) xs u
    (back u k.member) (maximal_there s xs ys f there back u ∙ k.passes))
