-- Each call tries fewer open variables.
use Rattle.std.proofs.Common.{◌-◌, vec_len}
use Rattle.ipa_sat_tests.proofs.plain.+first_with.Given as goal

abbrev pub decreases-first_with : goal.decreases-first_with
decreases-first_with l = l.cnf.now.vars - vec_len l.values.now
