use Rattle.std.proofs.Common.{◌≡◌, ℕ, ◌-◌, List, length, Some, slice_get, sym, ◌∙◌, ap, subst}
use Rattle.std.specs.List.Sorted.{IsNonDecreasing}
use Rattle.ipa_sets.proofs.NumberLemmas.{last_greatest}
use Rattle.ipa_sets.proofs.numbers.Numbers.up_to.Goals as goal

pub returns-then-last-bound : goal.returns-then-last-bound
returns-then-last-bound c =
    let is : c.self.inside.items.items ≡ c.args.self.now.items = ap (λ (v : _). v.items) c.self.view_is in
    let sorted : IsNonDecreasing c.args.self.now.items = subst IsNonDecreasing is c.self.invariant in
    let at : slice_get c.args.self.now.items (length c.args.self.now.items - 1) ≡ Some c.in-Some.last.now
    = subst (λ (xs : List ℕ). slice_get xs (length xs - 1) ≡ Some c.in-Some.last.now) (c.deref.ensures.value ∙ is)
    (sym c.in-Some.ensures.value) in
    last_greatest c.args.bound c.args.self.now.items c.in-Some.last.now sorted at
    c.if-last-bound.true
