use Rattle.std.proofs.Common.{sym, ap, ◌∙◌}
use Rattle.std.specs.Ordering.{is_lt}
use Rattle.ipa_touch.proofs.BestLemmas.{earlier-first, earlier-second}
use Rattle.ipa_touch.proofs.broken.earlier.Goals as goal

pub returns-then-is_lt : goal.returns-then-is_lt
returns-then-is_lt c = earlier-second _ _ c.in-Some-Some.first c.in-Some-Some.second c.in-Some-Some.is-0 c.in-Some-Some.is-1 (sym (c.if-is_lt.ensures ∙ ap is_lt c.cmp.ensures))

pub returns-else-is_lt : goal.returns-else-is_lt
returns-else-is_lt c = earlier-first _ _ c.in-Some-Some.first c.in-Some-Some.second c.in-Some-Some.is-0 c.in-Some-Some.is-1 (sym (c.if-is_lt.ensures ∙ ap is_lt c.cmp.ensures))
