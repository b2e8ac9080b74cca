use Rattle.ipa_forms.proofs.LineLemmas.{no_bound_head, no_bound_limit}
use Rattle.ipa_forms.proofs.reading.lines.read_bound.Goals as goal

pub returns-in_default-2 : goal.returns-in_default-2
returns-in_default-2 c =
    let none = rw c.in_default-2.is at c.in_ok-predicate.ensures in
    no_bound_head c.args.words.now c.take_name.new.words c.in-Some.name c.in-Some.ensures none

pub returns-in_default-read_limit : goal.returns-in_default-read_limit
returns-in_default-read_limit c =
    let read = rw c.in-Some-2.is at c.in_ok-predicate.ensures in
    no_bound_limit c.args.words.now c.take_name.new.words c.read_applied.new.words c.in-Some.name (c.in-Some-2.predicate, c.in-Some-2.vars) c.in-Some.ensures read c.in_default-read_limit.ensures
