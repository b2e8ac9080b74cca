use Rattle.std.proofs.Common.{◌≡◌, slice_get, Some, arith, ap, sym, ◌∙◌}
use Rattle.std.proofs.lemmas.Option.{slice_get_within}
use Rattle.ipa_ground.proofs.PlaceLemmas.{number-found, fact-placed}
use Rattle.ipa_ground.proofs.numbering.number_from.Goals as goal

pub bounds-starts-fact : goal.bounds-starts-fact
bounds-starts-fact c =
    let few = c.spec_is_fit.ensures.fit.predicate_count in
    let within = slice_get_within c.args.spec.now.predicates c.args.fact.now.predicate c.requires.fact.predicate c.requires.fact.declared in
    omega arith

pub number_in-requires-clause-short : goal.number_in-requires-clause-short
number_in-requires-clause-short c =
    c.spec_is_fit.ensures.fit.arities c.args.fact.now.predicate c.in-Some.predicate.now
    (ap (λ ps. slice_get ps c.args.fact.now.predicate) (sym c.predicates.ensures) ∙ sym c.in-Some.ensures)

pub overflow_add-result : goal.overflow_add-result
overflow_add-result c =
    let few = c.spec_is_fit.ensures.fit.predicate_count in
    let within = slice_get_within c.args.spec.now.predicates c.args.fact.now.predicate c.requires.fact.predicate c.requires.fact.declared in
    omega (arith, c.requires.starts.bound c.args.fact.now.predicate (omega arith), c.number_in.ensures.bound)

pub returns-in-Some : goal.returns-in-Some
returns-in-Some c =
    let declared : slice_get c.args.spec.now.predicates c.args.fact.now.predicate ≡ Some c.in-Some.predicate.now = ap (λ ps. slice_get ps c.args.fact.now.predicate) (sym c.predicates.ensures) ∙ sym c.in-Some.ensures in
    number-found _ _ _ _ c.in-Some.predicate.now _ c.requires.starts
    (c.spec_is_fit.ensures.fit.arities c.args.fact.now.predicate c.in-Some.predicate.now declared)
    declared (fact-placed _ _ _ _ c.requires.fact declared) c.number_in.ensures.value
