use Rattle.std.proofs.Common.{◌∙◌, sym, ap}
use Rattle.std.specs.Ordering.{is_lt}
use Rattle.ipa_logic.specs.EitherLaws.{lesser-first, lesser-second}
use Rattle.ipa_logic.proofs.added.lesser.Goals as goal

pub returns-then-is_lt : goal.returns-then-is_lt
returns-then-is_lt c t u p after = lesser-second p after t u _ _ c.in-Some-Some.first c.in-Some-Some.second c.in-Some-Some.is-0 c.in-Some-Some.is-1
    (sym (c.if-is_lt.ensures ∙ ap is_lt c.cmp.ensures))

pub returns-else-is_lt : goal.returns-else-is_lt
returns-else-is_lt c t u p after = lesser-first p after t u _ _ c.in-Some-Some.first c.in-Some-Some.second c.in-Some-Some.is-0 c.in-Some-Some.is-1
    (sym (c.if-is_lt.ensures ∙ ap is_lt c.cmp.ensures))
