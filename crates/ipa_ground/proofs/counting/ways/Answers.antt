use Rattle.std.proofs.Common.{◌≡◌, arith, ap, ◌∙◌}
use Rattle.ipa_ground.specs.PatternCounts.{ways}
use Rattle.ipa_ground.proofs.CountLemmas.{ways-first, ways-bound}
use Rattle.ipa_ground.proofs.counting.ways.Goals as goal

pub loop-count-init : goal.loop-count-init
loop-count-init c = ways-first

pub returns-clause-value : goal.returns-clause-value
returns-clause-value c =
    let all : c.loop-count.count ≡ c.args.variables = omega arith in
    c.loop-count.invariant.each c.args.used (omega arith) ∙ ap (λ n. ways n c.args.used) all

pub returns-clause-bound : goal.returns-clause-bound
returns-clause-bound c =
    let all : c.loop-count.count ≡ c.args.variables = omega arith in
    let value = c.loop-count.invariant.each c.args.used (omega arith) ∙ ap (λ n. ways n c.args.used) all in
    omega (arith, value, ways-bound c.args.variables c.args.used (omega arith))
