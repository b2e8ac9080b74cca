use Rattle.std.proofs.Common.{◌≡◌, ◌<◌, not, List, [], ◌∷◌, length, drop, get_or, ap, ◌∙◌, arith, rules}
use Rattle.std.specs.List.{list_any}
use Rattle.ipa_spec.specs.Faults.{same_name}
use Rattle.ipa_spec.specs.declared.names.Name.{Name}
use Rattle.ipa_spec.proofs.faults.bounds.holds_past_arity.Goals as goal

-- the first of some names is their name at place 0
differs_from_first : (vars names : List Name) (first : Name) → 0 < length vars →
    first ≡ get_or vars 0 first →
    list_any (λ name. not (same_name first name)) names ≡ list_any
    (λ name. not (same_name (get_or vars 0 name) name)) names
differs_from_first [] names first l e = absurd (omega arith)
differs_from_first (v ∷ vs) names first l e =
    ap (λ f. list_any (λ name. not (same_name f name)) names) e

pub returns : goal.returns
returns c =
    let any : c.some_name_differs.result ≡ list_any
    (λ name. not (same_name c.index-bound-0.result name))
    (drop c.args.predicate.now.arity c.args.bound.now.vars) = search rules in
    any ∙ differs_from_first c.args.bound.now.vars
    (drop c.args.predicate.now.arity c.args.bound.now.vars) c.index-bound-0.result
    (search rules) c.index-bound-0.is
