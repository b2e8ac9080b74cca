use Rattle.std.proofs.Common.{◌≡◌, ℕ, List, sym, ap, subst}
use Rattle.std.proofs.lemmas.List.Sorted.{IsNonDecreasingBy-push}
use Rattle.ipa_sets.specs.Numbers.{AreUpTo}
use Rattle.ipa_sets.proofs.NumberLemmas.{end_low}
use Rattle.ipa_sets.proofs.numbers.Numbers.push.Goals as goal

pub invariant_of-self-2 : goal.invariant_of-self-2
invariant_of-self-2 c =
    let is : c.self.inside.items.items ≡ c.args.self.now.items = ap (λ (v : _). v.items) c.self.view_is in
    let up : AreUpTo c.self.inside.items.items c.args.number = subst (λ (xs : List ℕ). AreUpTo xs c.args.number) (sym is) c.requires in
    rw c.in_ok-push.ensures.items
    (IsNonDecreasingBy-push (λ n. n) c.self.inside.items.items c.args.number c.self.invariant
    (λ d l. end_low c.self.inside.items.items c.args.number d up l))
