use Rattle.std.proofs.Common.{◌≡◌, ℕ, ◌-◌, List, length, Some, slice_get, sym, ◌∙◌, ap, subst, eqb-true, eq-eqb}
use Rattle.std.specs.List.Sorted.{IsNonDecreasing}
use Rattle.ipa_sets.proofs.NumberLemmas.{ends_with}
use Rattle.ipa_sets.proofs.numbers.Numbers.ends_with.Goals as goal

pub returns-in-Some : goal.returns-in-Some
returns-in-Some c =
    let is : c.self.inside.items.items ≡ c.args.self.now.items = ap (λ (v : _). v.items) c.self.view_is in
    let sorted : IsNonDecreasing c.args.self.now.items = subst IsNonDecreasing is c.self.invariant in
    let at : slice_get c.args.self.now.items (length c.args.self.now.items - 1) ≡ Some c.in-Some.last.now
    = subst (λ (xs : List ℕ). slice_get xs (length xs - 1) ≡ Some c.in-Some.last.now) (c.deref.ensures.value ∙ is)
    (sym c.in-Some.ensures.value) in (
      λ h. record {
        place = length c.args.self.now.items - 1;
        at = at ∙ ap (λ (x : ℕ). Some x) (eqb-true c.in-Some.last.now c.args.number h);
      },
      λ m. eq-eqb c.in-Some.last.now c.args.number
          (ends_with c.args.self.now.items c.args.number c.in-Some.last.now sorted c.requires at m),
    )
