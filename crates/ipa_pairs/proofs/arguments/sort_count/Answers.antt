use Rattle.std.proofs.Common.{length, ap, arith}
use Rattle.ipa_pairs.proofs.arguments.sort_count.Goals as goal

pub action_sorts-sorts-requires : goal.action_sorts-sorts-requires
action_sorts-sorts-requires c = record { few = omega (arith, c.spec_is_fit.ensures.fit.argument_count c.args.action) }

pub returns-clause-few : goal.returns-clause-few
returns-clause-few c = omega (
  arith,
  c.spec_is_fit.ensures.fit.argument_count c.args.action,
  ap length c.as_slice.ensures,
  ap length c.action_sorts-sorts.ensures,
)
