use Rattle.std.proofs.Common.{◌∙◌, [], arith}
use Rattle.ipa_clock.specs.Cut.{empty}
use Rattle.ipa_sets.specs.AtCutLaws.{clock-is}
use Rattle.ipa_sets.proofs.index.Index.clock.Goals as goal

pub returns : goal.returns
returns c s is o l = c.loop-origin.invariant.below o (let past = c.loop-origin-test.false in omega (arith, past, l)) ∙ clock-is s c.args.self.now is [] empty o
