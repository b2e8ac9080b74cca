use Rattle.ipa_ground.specs.PatternLaws.{Listed-patterns, listed_pattern, Rises-patterns}
use Rattle.ipa_ground.proofs.laws.patterns_are_listed_once.Goals as goal

pub returns : goal.returns
returns c = record { listed = λ constants sorts classes. (listed_pattern constants sorts classes, Listed-patterns constants sorts classes); rising = Rises-patterns }
