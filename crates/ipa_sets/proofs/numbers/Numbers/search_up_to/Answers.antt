use Rattle.std.proofs.Common.{◌≡◌, ℕ, ◌<◌, leb, leb-true, false, None, List, arith, rules, sym, ◌∙◌, subst, ap, get_or, slice_get, ◌-◌}
use Rattle.std.specs.List.Sorted.{IsNonDecreasing}
use Rattle.std.proofs.lemmas.Bool.Decides.{nat_tests}
use Rattle.std.proofs.lemmas.List.Sorted.{IsPartitionPoint-from_clause, IsPartitionedBy-leb}
use Rattle.ipa_sets.specs.Numbers.{greatest_upto}
use Rattle.ipa_sets.proofs.NumberLemmas.{none_passed, last_passed}
use Rattle.ipa_sets.proofs.numbers.Numbers.search_up_to.Goals as goal

above : (n bound : ℕ) → leb n bound ≡ false → bound < n
above n bound h = grind (arith, nat_tests)

pub returns-then-passed-eq0 : goal.returns-then-passed-eq0
returns-then-passed-eq0 c =
    let is : c.as_slice.result.now ≡ c.args.self.now.items = c.as_slice.ensures.value ∙ ap (λ (v : _). v.items) c.self.view_is in
    let sorted : IsNonDecreasing c.as_slice.result.now = subst IsNonDecreasing (sym c.as_slice.ensures.value) c.self.invariant in
    let point = IsPartitionPoint-from_clause (λ n. leb n c.args.bound) c.as_slice.result.now c.partition_point-passed.result
    c.partition_point-passed.ensures.partitioned (IsPartitionedBy-leb (λ n. n) c.as_slice.result.now c.args.bound sorted)
    (λ a r q k. search rules) in
    subst (λ (xs : List ℕ). None ≡ greatest_upto c.args.bound xs) is (none_passed c.args.bound c.as_slice.result.now
    (λ k d l. above (get_or c.as_slice.result.now k d) c.args.bound (point.1 k d (omega arith) l)))

pub returns-else-passed-eq0 : goal.returns-else-passed-eq0
returns-else-passed-eq0 c =
    let is : c.as_slice.result.now ≡ c.args.self.now.items = c.as_slice.ensures.value ∙ ap (λ (v : _). v.items) c.self.view_is in
    let sorted : IsNonDecreasing c.as_slice.result.now = subst IsNonDecreasing (sym c.as_slice.ensures.value) c.self.invariant in
    let point = IsPartitionPoint-from_clause (λ n. leb n c.args.bound) c.as_slice.result.now c.partition_point-passed.result
    c.partition_point-passed.ensures.partitioned (IsPartitionedBy-leb (λ n. n) c.as_slice.result.now c.args.bound sorted)
    (λ a r q k. search rules) in
    c.get.ensures ∙ subst (λ (xs : List ℕ). slice_get xs (c.partition_point-passed.result - 1) ≡ greatest_upto c.args.bound xs) is
    (last_passed c.args.bound c.as_slice.result.now c.partition_point-passed.result
    (omega arith) c.partition_point-passed.ensures.bound sorted
    (λ k d l. leb-true (get_or c.as_slice.result.now k d) c.args.bound (point.0 k d (omega arith) l))
    (λ k d a l. above (get_or c.as_slice.result.now k d) c.args.bound (point.1 k d a l)))
