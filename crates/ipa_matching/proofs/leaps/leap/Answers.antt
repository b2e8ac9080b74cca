use Rattle.std.proofs.Common.{sym, refl, ◌∙◌, ap}
use Rattle.std.specs.Ordering.{is_lt}
use Rattle.ipa_logic.specs.FactLaws.{fact_cmp_total}
use Rattle.ipa_logic.specs.OrderLaws.{lt-trans}
use Rattle.ipa_matching.proofs.LeapLemmas.{leap-none}
use Rattle.ipa_matching.proofs.leaps.leap.Goals as goal

pub returns-then-is_lt-clause-on : goal.returns-then-is_lt-clause-on
returns-then-is_lt-clause-on c f l = lt-trans fact_cmp_total c.args.fact (record { predicate = c.args.fact.predicate; args = c.args_before.result }) f (sym (c.if-is_lt.ensures ∙ ap is_lt c.cmp.ensures)) l

pub returns-then-is_lt-clause-none_between : goal.returns-then-is_lt-clause-none_between
returns-then-is_lt-clause-none_between c f q l = leap-none c.args.predicate c.args.places.now c.args.fact (record { predicate = c.args.fact.predicate; args = c.args_before.result }) f refl c.args_before.ensures q l
