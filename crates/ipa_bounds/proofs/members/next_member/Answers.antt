use Rattle.std.proofs.Common.{sym}
use Rattle.ipa_bounds.proofs.MemberLemmas.{member-next, member-none}
use Rattle.ipa_bounds.proofs.members.next_member.Goals as goal

pub returns-then-is_key-clause-value : goal.returns-then-is_key-clause-value
returns-then-is_key-clause-value g c =
    member-next c.args.bound.now c.args.key.now (g.V.View.facts c.args.view.now) c.args.after c.next_match-next.result
    c.places_of.result (sym c.if-is_key.ensures) c.places_of.ensures c.next_match-next.ensures.value

pub returns-else-is_key-clause-value : goal.returns-else-is_key-clause-value
returns-else-is_key-clause-value g c =
    member-none c.args.bound.now c.args.key.now (g.V.View.facts c.args.view.now) c.args.after (sym c.if-is_key.ensures)
