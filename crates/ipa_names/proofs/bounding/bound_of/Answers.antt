use Rattle.std.proofs.Common.{length, ap, arith}
use Rattle.ipa_names.specs.Scopes.{places_of}
use Rattle.ipa_names.proofs.ScopeFacts.{typed_short}
use Rattle.ipa_names.proofs.bounding.bound_of.Goals as goal

pub effects_of-requires-clause-scope : goal.effects_of-requires-clause-scope
effects_of-requires-clause-scope c =
    omega (arith, typed_short c.args.bound.now.vars (places_of c.args.declared.now c.args.bound.now.predicate), ap length c.in_ok-scope.ensures, ap length c.deref.ensures.value)
