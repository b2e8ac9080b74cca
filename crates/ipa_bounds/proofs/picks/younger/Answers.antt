use Rattle.std.proofs.Common.{◌∙◌, sym, ap}
use Rattle.std.specs.Ordering.{is_lt}
use Rattle.ipa_bounds.proofs.PickLemmas.{younger-first, younger-old, younger-new}
use Rattle.ipa_bounds.proofs.picks.younger.Goals as goal

pub returns-in-None : goal.returns-in-None
returns-in-None c = younger-first _ _ c.in-None.is

pub returns-then-is_lt : goal.returns-then-is_lt
returns-then-is_lt c = younger-old _ _ c.in-Some.best c.in-Some.is (sym (c.if-is_lt.ensures ∙ ap is_lt c.cmp.ensures))

pub returns-else-is_lt : goal.returns-else-is_lt
returns-else-is_lt c = younger-new _ _ c.in-Some.best c.in-Some.is (sym (c.if-is_lt.ensures ∙ ap is_lt c.cmp.ensures))
