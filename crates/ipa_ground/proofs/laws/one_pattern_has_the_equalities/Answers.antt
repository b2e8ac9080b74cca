use Rattle.ipa_ground.specs.EqualityLaws.{same-equalities, renames-same, one_pattern}
use Rattle.ipa_ground.specs.SamePattern.{pattern_for}
use Rattle.ipa_ground.proofs.laws.one_pattern_has_the_equalities.Goals as goal

pub returns : goal.returns
returns c = record { some = pattern_for; equalities = same-equalities; renames = renames-same; one = one_pattern }
