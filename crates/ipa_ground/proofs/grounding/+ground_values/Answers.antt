use Rattle.std.proofs.Common.{◌<◌, length, arith, sym}
use Rattle.std.proofs.lemmas.Option.{slice_get_within}
use Rattle.std.proofs.lemmas.Result.{on_ok_weaker}
use Rattle.ipa_logic.specs.VariableLaws.{variables-past, variable-at}
use Rattle.ipa_ground.proofs.InstanceLemmas.{fills-done, fills-next, grounds-next, grounds-all, grounds-done}
use Rattle.ipa_ground.proofs.grounding.+ground_values.Goals as goal

pub ground_instance-requires-clause-over : goal.ground_instance-requires-clause-over
ground_instance-requires-clause-over t c = fills-done _ _ _ _ (variables-past c.args.clause.now.vars c.args.at c.in_default.ensures) c.requires.over

pub returns-in_default-clause-ok : goal.returns-in_default-clause-ok
returns-in_default-clause-ok t c = on_ok_weaker c.ground_instance.result
    (λ g. grounds-done _ _ _ _ _ _ _ (variables-past c.args.clause.now.vars c.args.at c.in_default.ensures) g)
    c.ground_instance.ensures.ok

pub bounds-next-at : goal.bounds-next-at
bounds-next-at t c = let inside : c.args.at < length c.args.clause.now.vars = slice_get_within _ _ _ (sym c.in-Some.ensures) in omega (arith, c.requires.fits.variable_count)

pub overflow_add-at : goal.overflow_add-at
overflow_add-at t c = let inside : c.args.at < length c.args.clause.now.vars = slice_get_within _ _ _ (sym c.in-Some.ensures) in omega (arith, c.requires.fits.variable_count)

pub ground_values-requires : goal.ground_values-requires
ground_values-requires t c =
    let inside : c.args.at < length c.args.clause.now.vars = slice_get_within _ _ _ (sym c.in-Some.ensures) in (
      omega arith,
      (
        c.requires.ready,
        (
          omega (arith, c.requires.room, c.loop-element.invariant.narrows.vars),
          (
            c.requires.declared,
            (
              c.requires.fits,
              fills-next _ _ _ _ _ _ (variable-at c.args.clause.now.vars c.args.at _ c.in-Some.ensures) (omega (arith, c.size_of-element-end.ensures)) c.requires.over,
            ),
          ),
        ),
      ),
    )

pub loop-element-preserved : goal.loop-element-preserved
loop-element-preserved t c =
    grounds-next _ _ _ _ _ _ _ _ _ _ _ (variable-at c.args.clause.now.vars c.args.at _ c.in-Some.ensures) c.loop-element.invariant c.in_ok-ground_values.ensures.narrows c.in_ok-ground_values.ensures.ok

pub returns-clause-ok : goal.returns-clause-ok
returns-clause-ok t c = grounds-all _ _ _ _ _ _ _ _ _ _ (variable-at c.args.clause.now.vars c.args.at _ c.in-Some.ensures) (omega (arith, c.size_of-element-end.ensures)) c.loop-element.invariant
