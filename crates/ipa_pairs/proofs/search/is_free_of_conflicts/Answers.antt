use Rattle.std.proofs.Common.{arith}
use Rattle.std.proofs.lemmas.Option.{slice_get_within}
use Rattle.ipa_pairs.proofs.search.is_free_of_conflicts.Goals as goal

pub returns-clause-free : goal.returns-clause-free
returns-clause-free c = λ k h. c.loop-number.invariant.0 k
    (omega (arith, slice_get_within c.args.spec.now.clauses k h.clause h.declared, c.clause_count-number-end.ensures, c.loop-number-test.false, c.loop-number.auto.number-end)) h
