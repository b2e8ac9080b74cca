use Rattle.std.proofs.Common.{◌≡◌, Some, length, take, ap, arith, rules, ℕ, List, [], slice_get}
use Rattle.std.specs.Option.{option_map_or}
use Rattle.ipa_spec.specs.Actions.{place_sorts}
use Rattle.ipa_spec.specs.declared.predicates.Predicate.{Predicate}
use Rattle.ipa_pairs.proofs.sorts.Sorts.push_predicate.Goals as goal

-- the sorts of a predicate that is declared
places : (ps : List Predicate) (n : ℕ) (p : Predicate) → slice_get ps n ≡ Some p → place_sorts ps n ≡ take p.arity p.sorts
places ps n p e = ap (λ o. option_map_or (λ (p : Predicate). take p.arity p.sorts) o []) e

pub push_places-requires-clause-short : goal.push_places-requires-clause-short
push_places-requires-clause-short c =
    let fit = c.spec_is_fit.ensures.fit in
    let declared : slice_get c.args.spec.now.predicates c.args.number ≡ Some c.in-Some.predicate.now = search rules in
    fit.arities c.args.number c.in-Some.predicate.now declared

pub push_places-requires-clause-few : goal.push_places-requires-clause-few
push_places-requires-clause-few c =
    let declared : slice_get c.args.spec.now.predicates c.args.number ≡ Some c.in-Some.predicate.now = search rules in
    omega (arith, c.requires.few, ap length (places c.args.spec.now.predicates c.args.number c.in-Some.predicate.now declared))
