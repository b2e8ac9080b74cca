-- Whether a drop is the one that is due.
--
--   IsDueAs s state ages n args   the drop of bound n with these arguments is due in a state
--   due_drop-one                  there is one due drop
--   due_drop-aged                 it depends on the ages of true facts alone
use Rattle.std.proofs.Common.{◌≡◌, ℕ, ◌<◌, true, false, List, refl, sym, ◌∙◌, ap, subst, arith, inl, inr, Some, slice_get}
use Rattle.std.specs.Ordering.{nat_cmp, is_lt, is_le, is_eq, ordering_then, ordering_reverse}
use Rattle.std.specs.Cmp.{IsTotalOrder, on_total, then_total}
use Rattle.std.specs.Cmp.Lexicographic.{slice_cmp, nat_list_cmp_total}
use Rattle.std.specs.declared.cmp.Ordering.{Ordering}
use Rattle.std.specs.declared.cmp.Ordering.TheVariants.{Less, Equal, Greater}
use Rattle.std.proofs.lemmas.Bool.{cases_order, cases_Bool, false≢true}
use Rattle.std.proofs.lemmas.Map.Lookups.{exact_bytes}
use Rattle.ipa_spec.specs.declared.specification.Specification.{Specification}
use Rattle.ipa_spec.specs.declared.bounds.Bound.{Bound}
use Rattle.ipa_spec.specs.declared.bounds.Pick.{Pick}
use Rattle.ipa_spec.specs.declared.bounds.Pick.TheVariants.{Greatest, Youngest}
use Rattle.ipa_logic.specs.Facts.{has, fact_cmp}
use Rattle.ipa_logic.specs.FactLaws.{fact_cmp_total, same_fact}
use Rattle.ipa_logic.specs.Groups.{group_of, is_in_group}
use Rattle.ipa_logic.specs.DropLaws.{has-filter}
use Rattle.ipa_logic.specs.DueDrops.{IsFirstOver, IsLeastOver, IsPicked, IsDueDrop, age_cmp, aged_cmp}
use Rattle.ipa_logic.specs.Acceptance.{drop_fact}
use Rattle.ipa_logic.specs.declared.facts.Age.{Age}
use Rattle.ipa_logic.specs.declared.facts.Fact.{Fact}
use Rattle.ipa_history.specs.AgeLaws.{age_cmp_total}

-- the drop of bound n with these arguments is due in a state whose true facts have these ages
pub record IsDueAs (s : Specification) (state : List Fact) (ages : Fact → Age) (n : ℕ) (args : List ℕ) : Type 0 where
  pub bound : Bound
  pub declared : slice_get s.bounds n ≡ Some bound
  pub due : IsDueDrop s.bounds state ages n (drop_fact s bound args)

-- two comparisons, one the other turned round, of which neither comes after the other
tied_le : (r q : Ordering) → r ≡ ordering_reverse q → is_le r ≡ true → is_le q ≡ true → r ≡ Equal
tied_le Less Less e h g = absurd (let s : Less ≡ Greater = e in cc)
tied_le Less Equal e h g = absurd (let s : Less ≡ Equal = e in cc)
tied_le Less Greater e h g = absurd (false≢true g)
tied_le Equal q e h g = refl
tied_le Greater q e h g = absurd (false≢true h)

-- and of which neither comes before the other
tied_lt : (r q : Ordering) → r ≡ ordering_reverse q → is_lt r ≡ false → is_lt q ≡ false → r ≡ Equal
tied_lt Less q e h g = absurd (false≢true (sym h))
tied_lt Equal q e h g = refl
tied_lt Greater Less e h g = absurd (false≢true (sym g))
tied_lt Greater Equal e h g = absurd (let s : Greater ≡ Equal = e in cc)
tied_lt Greater Greater e h g = absurd (let s : Greater ≡ Less = e in cc)

-- the second comparison of two that are equal together
then_second : (a b : Ordering) → ordering_then a b ≡ Equal → b ≡ Equal
then_second Less b e = absurd (let s : Less ≡ Equal = e in cc)
then_second Equal b e = e
then_second Greater b e = absurd (let s : Greater ≡ Equal = e in cc)

-- a bound before the first that is over is not over
not_earlier : (bounds : List Bound) (state : List Fact) (n m : ℕ) → IsFirstOver bounds state n →
    IsFirstOver bounds state m → n < m → ⊥
not_earlier bounds state n m one two l =
    let within = two.earlier n one.bound l one.declared in
    let few = within.groups one.key in
    let many = one.over in
    absurd (omega (arith, few, many))

-- there is one first bound that is over
first_over-one : (bounds : List Bound) (state : List Fact) (n m : ℕ) → IsFirstOver bounds state n →
    IsFirstOver bounds state m → n ≡ m
first_over-one bounds state n m one two = elim (cases_order n m) [
  | inl same ↦ same
  | inr other ↦ elim other [
    | inl less ↦ absurd (not_earlier bounds state n m one two less)
    | inr more ↦ absurd (not_earlier bounds state m n two one more)
  ]
]

-- a key before the least that is over is not over
not_below : (b : Bound) (state : List Fact) (one two : List ℕ) → IsLeastOver b one state → IsLeastOver b two state →
    is_lt (slice_cmp nat_cmp one two) ≡ false
not_below b state one two first second = elim (cases_Bool (is_lt (slice_cmp nat_cmp one two))) [
  | inl before ↦
      let few = second.least one before in
      let many = first.over in
      absurd (omega (arith, few, many))
  | inr not ↦ not
]

-- there is one least key that is over
least_over-one : (b : Bound) (state : List Fact) (one two : List ℕ) → IsLeastOver b one state →
    IsLeastOver b two state → one ≡ two
least_over-one b state one two first second =
    exact_bytes one two (tied_lt (slice_cmp nat_cmp one two) (slice_cmp nat_cmp two one)
    (nat_list_cmp_total.antisymm one two)
    (not_below b state one two first second) (not_below b state two one second first))

-- ages and facts are in a total order
aged_cmp_total : (ages : Fact → Age) → IsTotalOrder (aged_cmp ages)
aged_cmp_total ages = then_total (on_total ages age_cmp_total) fact_cmp_total

-- there is one fact that is picked
picked-one : (pick : Pick) (ages : Fact → Age) (group : List Fact) (f g : Fact) → IsPicked pick ages group f →
    IsPicked pick ages group g → f ≡ g
picked-one Greatest ages group f g one two =
    same_fact f g (ap is_eq (tied_le (fact_cmp f g) (fact_cmp g f) (fact_cmp_total.antisymm f g)
    (two.greatest f one.among) (one.greatest g two.among)))
picked-one Youngest ages group f g one two =
    same_fact f g (ap is_eq (then_second (age_cmp (ages f) (ages g)) (fact_cmp f g)
    (tied_le (aged_cmp ages f g) (aged_cmp ages g f) ((aged_cmp_total ages).antisymm f g)
    (two.youngest f one.among) (one.youngest g two.among))))

-- there is one due drop
pub record IsOneDrop (n m : ℕ) (f g : Fact) : Type 0 where
  pub bound : n ≡ m
  pub fact : f ≡ g

module _ (bounds : List Bound) (state : List Fact) (ages : Fact → Age) (n m : ℕ) (f g : Fact) where
  pub due_drop-one : IsDueDrop bounds state ages n f → IsDueDrop bounds state ages m g → IsOneDrop n m f g
  due_drop-one one two =
      let number : n ≡ m = first_over-one bounds state n m one.group.first two.group.first in
      let both : Some one.bound ≡ Some two.bound = sym one.group.declared
      ∙ (ap (slice_get bounds) number ∙ two.group.declared) in
      let bound : one.bound ≡ two.bound = cc in
      let least = subst (λ (b : Bound). IsLeastOver b one.key state) bound one.group.least in
      let key : one.key ≡ two.key = least_over-one two.bound state one.key two.key least two.group.least in
      let moved = subst (λ (b : Bound). IsPicked b.pick ages (group_of b one.key state) f) bound one.removed in
      let picked = subst (λ (k : List ℕ). IsPicked two.bound.pick ages (group_of two.bound k state) f) key moved in
      record {
        bound = number;
        fact = picked-one two.bound.pick ages (group_of two.bound two.key state) f g picked two.removed;
      }

-- the pick depends on the ages of the group's facts alone
picked-aged : (pick : Pick) (ages others : Fact → Age) (group : List Fact) (f : Fact) →
    ((g : Fact) → has group g ≡ true → ages g ≡ others g) → IsPicked pick ages group f → IsPicked pick others group f
picked-aged Greatest ages others group f same is = is
picked-aged Youngest ages others group f same is = record {
  among = is.among;
  youngest = λ g inside. subst (λ (a : Age). is_le (ordering_then (age_cmp a (others f)) (fact_cmp g f)) ≡ true)
      (same g inside)
      (subst (λ (a : Age). is_le (ordering_then (age_cmp (ages g) a) (fact_cmp g f)) ≡ true) (same f is.among)
      (is.youngest g inside));
}

-- the due drop depends on the ages of true facts alone
pub due_drop-aged : (bounds : List Bound) (state : List Fact) (ages others : Fact → Age) (n : ℕ) (f : Fact) →
    ((g : Fact) → has state g ≡ true → ages g ≡ others g) → IsDueDrop bounds state ages n f →
    IsDueDrop bounds state others n f
due_drop-aged bounds state ages others n f same due = record {
  bound = due.bound;
  key = due.key;
  group = due.group;
  removed = picked-aged due.bound.pick ages others (group_of due.bound due.key state) f
      (λ g inside. same g (has-filter (is_in_group due.bound due.key) state g inside).0) due.removed;
}
