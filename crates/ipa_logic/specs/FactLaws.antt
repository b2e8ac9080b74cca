-- Laws of facts and states that the crates above stand on.
--
--   fact_cmp_total   facts are in a total order
--   same_fact        facts that compare equal are the same
--   fact_itself      a fact compares equal to itself
--   has-append       the facts of two lists together
--   asked-same       a test beside the question for a fact may be asked of that fact
--   same-turned      comparing equal goes both ways
--   same_rising      two lists in order with the same facts are the same
use Rattle.std.specs.Prelude.{◌≡◌, Bool, true, false, ◌||◌, ◌&&◌, List, ◌++◌, refl}
use Rattle.std.proofs.Common.{sym, ap, subst}
use Rattle.std.proofs.lemmas.Bool.{false≢true}
use Rattle.std.specs.Ordering.{nat_cmp, ordering_then, is_eq}
use Rattle.std.specs.Cmp.{IsTotalOrder, on_total, then_total, nat_cmp_total, tied_itself, both_ways}
use Rattle.std.specs.Cmp.Lexicographic.{slice_cmp, nat_list_cmp_total}
use Rattle.std.specs.declared.cmp.Ordering.{Ordering}
use Rattle.std.specs.declared.cmp.Ordering.TheVariants.{Less, Equal, Greater}
use Rattle.std.specs.BTreeSet.{BTreeSet}
use Rattle.std.proofs.lemmas.Map.Lookups.{exact_unsigned, exact_bytes, btree_set_from_contains}
use Rattle.std.proofs.lemmas.List.Folds.{list_any-append}
use Rattle.ipa_logic.specs.Facts.{fact_cmp, has, IsRising}
use Rattle.ipa_logic.specs.declared.facts.Fact.{Fact}

-- facts are in a total order
pub fact_cmp_total : IsTotalOrder fact_cmp
fact_cmp_total = then_total (on_total (λ (f : Fact). f.predicate) nat_cmp_total) (on_total (λ (f : Fact). f.args) nat_list_cmp_total)

-- both comparisons answer that their sides are equal
then_equal : (a b : Ordering) → is_eq (ordering_then a b) ≡ true → (a ≡ Equal) × (b ≡ Equal)
then_equal Less b h = absurd (false≢true h)
then_equal Equal Less h = absurd (false≢true h)
then_equal Equal Equal h = (refl, refl)
then_equal Equal Greater h = absurd (false≢true h)
then_equal Greater b h = absurd (false≢true h)

-- facts that compare equal are the same
pub same_fact : (f g : Fact) → is_eq (fact_cmp f g) ≡ true → f ≡ g
same_fact f g h =
    let parts : (nat_cmp f.predicate g.predicate ≡ Equal) × (slice_cmp nat_cmp f.args g.args ≡ Equal) = then_equal (nat_cmp f.predicate g.predicate) (slice_cmp nat_cmp f.args g.args) h in
    let p : f.predicate ≡ g.predicate = exact_unsigned _ _ parts.0 in
    let a : f.args ≡ g.args = exact_bytes _ _ parts.1 in
    λ i. record { predicate = p i; args = a i }

-- a fact compares equal to itself
pub fact_itself : (f : Fact) → is_eq (fact_cmp f f) ≡ true
fact_itself f = rw (tied_itself nat_cmp_total f.predicate) (rw (tied_itself nat_list_cmp_total f.args) refl)

-- the facts of two lists together
pub has-append : (s t : List Fact) (f : Fact) → has (s ++ t) f ≡ (has s f || has t f)
has-append s t f = list_any-append (λ g. is_eq (fact_cmp f g)) s t

-- a test beside the question for a fact may be asked of that fact
pub asked-same : (test : Fact → Bool) (f g : Fact) → (is_eq (fact_cmp f g) && test g) ≡ (is_eq (fact_cmp f g) && test f)
asked-same test f g = asked (is_eq (fact_cmp f g)) (λ h. ap test (sym (same_fact f g h)))
  where
    asked : (b : Bool) → (b ≡ true → test g ≡ test f) → (b && test g) ≡ (b && test f)
    asked true e = e refl
    asked false e = refl

-- comparing equal goes both ways
pub same-turned : (f g : Fact) → is_eq (fact_cmp f g) ≡ is_eq (fact_cmp g f)
same-turned f g = both_ways _ _
    (λ h. subst (λ (x : Fact). is_eq (fact_cmp x f) ≡ true) (same_fact f g h) (fact_itself f))
    (λ h. subst (λ (x : Fact). is_eq (fact_cmp x g) ≡ true) (same_fact g f h) (fact_itself g))

-- two lists in order with the same facts are the same
pub same_rising : (s t : List Fact) → IsRising s → IsRising t → ((f : Fact) → has s f ≡ has t f) → s ≡ t
same_rising s t r q h =
    let one : BTreeSet Fact = record { keys = s } in
    let other : BTreeSet Fact = record { keys = t } in
    btree_set_from_contains {R = fact_cmp} fact_cmp_total one other r q h (λ f g e. same_fact f g (ap is_eq e))
