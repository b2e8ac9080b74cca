use Rattle.std.proofs.Common.{◌≤◌, length, arith}
use Rattle.std.proofs.lemmas.List.{length-map}
use Rattle.ipa_spec.specs.Actions.{sorts_of_vars}
use Rattle.ipa_reader.proofs.CountLemmas.{count_is}
use Rattle.ipa_reader.proofs.base.value_count.Goals as goal

pub returns-clause-value : goal.returns-clause-value
returns-clause-value c =
    let short : length (sorts_of_vars c.args.vars.now) ≤ 4 = omega (arith, length-map c.args.vars.now (λ v. v.sort), c.requires.short) in
    cc (count_is c.args.universe.now.sizes (sorts_of_vars c.args.vars.now) short, c.times.ensures.value, c.times-third.ensures.value, c.times-second.ensures.value, c.times-first.ensures.value, c.size_at.ensures.value, c.size_at-2.ensures.value, c.size_at-3.ensures.value, c.size_at-4.ensures.value)
