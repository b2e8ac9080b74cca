use Rattle.std.proofs.Common.{sym, ◌∙◌}
use Rattle.ipa_repair.proofs.ChangeLemmas.{known_after}
use Rattle.ipa_repair.proofs.changing.is_clash_after.Goals as goal

pub returns-then-judged-number-clause-found : goal.returns-then-judged-number-clause-found
returns-then-judged-number-clause-found c =
    known_after c.args.spec.now c.args.next.now c.args.parts.now c.args.left c.args.right c.args.number c.args.judged.now c.is_clash.result c.requires.leads
    (c.conflicts_are_local.ensures c.args.spec.now c.args.next.now) (sym c.is_untouched.ensures ∙ c.if-is_untouched.true)
    (sym c.is_untouched-then-is_untouched.ensures ∙ c.if-is_untouched-2.true) c.requires.judged c.if-judged-number.true c.is_clash.ensures
