use Rattle.std.proofs.Common.{refl, ap, subst, ◌∙◌}
use Rattle.std.specs.List.{slice_get}
use Rattle.std.proofs.lemmas.Option.{same_Some}
use Rattle.ipa_spec.specs.Actions.{sorts_of_vars}
use Rattle.ipa_logic.specs.Facts.{has}
use Rattle.ipa_logic.specs.Truth.{Keeps, IsFirstBroken}
use Rattle.ipa_reader.specs.Setups.{element_names}
use Rattle.ipa_reader.proofs.base.base_refusal.Goals as goal

pub returns-in-Some : goal.returns-in-Some
returns-in-Some c = (
  c.requires.instances,
  subst (λ sizes. IsFirstBroken c.args.spec.now sizes (has c.args.base.now) c.in-Some.broken.clause c.in-Some.broken.values) c.requires.sizes c.in-Some.ensures,
  record {
    clause = c.in_ok-clause.clause.now;
    declared = cc (c.in_ok-clause.ensures, c.clauses.ensures);
    name_is = refl;
    names_are = c.element_names.ensures ∙ ap (λ vars. element_names c.args.elements.now (sorts_of_vars vars) c.in-Some.broken.values) c.as_slice.ensures;
  },
)

pub returns : goal.returns
returns c =
    let first = c.in_ok-drop.ensures.due.group.first in (
      c.requires.instances,
      subst (λ sizes. Keeps c.args.spec.now sizes (has c.args.base.now)) c.requires.sizes c.in_default.ensures,
      record {
        first = first;
        name_is = ap (λ b. b.name) (same_Some c.in_ok-bound.bound.now first.bound (c.in_ok-bound.ensures ∙ ap (λ bs. slice_get bs c.in_ok-drop.drop.bound) c.bounds.ensures ∙ first.declared));
      },
    )
