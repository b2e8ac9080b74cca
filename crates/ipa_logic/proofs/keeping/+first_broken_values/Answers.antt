use Rattle.std.proofs.Common.{◌<◌, length, arith, sym}
use Rattle.std.proofs.lemmas.Option.{slice_get_within}
use Rattle.ipa_logic.specs.VariableLaws.{variables-past, variable-at}
use Rattle.ipa_logic.specs.ValueLaws.{partial-next}
use Rattle.ipa_logic.proofs.ValuesLemmas.{pass-done, first-done, first-below, below-next, pass-all}
use Rattle.ipa_logic.proofs.keeping.+first_broken_values.Goals as goal

pub returns-then-holds_instance : goal.returns-then-holds_instance
returns-then-holds_instance g t c = pass-done _ _ _ _ _ c.requires.partial (variables-past c.args.clause.now.vars c.args.at c.in_default.ensures) (sym c.if-holds_instance.ensures)

pub returns-else-holds_instance : goal.returns-else-holds_instance
returns-else-holds_instance g t c = first-done _ _ _ _ _ c.requires.partial (variables-past c.args.clause.now.vars c.args.at c.in_default.ensures) (sym c.if-holds_instance.ensures)

pub bounds-next-at : goal.bounds-next-at
bounds-next-at g t c = let inside : c.args.at < length c.args.clause.now.vars = slice_get_within _ _ _ (sym c.in-Some.ensures) in omega (arith, c.requires.short)

pub first_broken_values-requires : goal.first_broken_values-requires
first_broken_values-requires g t c κs within =
    let inside : c.args.at < length c.args.clause.now.vars = slice_get_within _ _ _ (sym c.in-Some.ensures) in
    (omega arith, (within, (c.requires.short, partial-next _ _ _ _ _ _ c.requires.partial (omega (arith, c.requires.short)) (variable-at c.args.clause.now.vars c.args.at _ c.in-Some.ensures) (omega (arith, c.size_of-element-end.ensures)))))

pub returns-in-Some-first_broken_values : goal.returns-in-Some-first_broken_values
returns-in-Some-first_broken_values g t c =
    let inside : c.args.at < length c.args.clause.now.vars = slice_get_within _ _ _ (sym c.in-Some.ensures) in
    first-below _ _ _ _ _ _ (omega (arith, c.requires.short, c.requires.partial.width)) c.loop-element.invariant _ c.in-Some-first_broken_values.ensures

pub loop-element-preserved : goal.loop-element-preserved
loop-element-preserved g t c =
    let inside : c.args.at < length c.args.clause.now.vars = slice_get_within _ _ _ (sym c.in-Some.ensures) in
    below-next _ _ _ _ _ _ (omega (arith, c.requires.short, c.requires.partial.width)) c.loop-element.invariant c.in_default-first_broken_values.ensures

pub returns : goal.returns
returns g t c = pass-all _ _ _ _ _ _ _ (variable-at c.args.clause.now.vars c.args.at _ c.in-Some.ensures) (omega (arith, c.size_of-element-end.ensures)) c.loop-element.invariant
