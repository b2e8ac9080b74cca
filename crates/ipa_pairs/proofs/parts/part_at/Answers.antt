use Rattle.std.proofs.Common.{sym, subst, arith}
use Rattle.ipa_pairs.specs.Triples.{IsOfLeft}
use Rattle.ipa_pairs.specs.Collecting.{ExtendsConflicts, IsPart}
use Rattle.ipa_pairs.proofs.PartsLemmas.{part-none, part-left}
use Rattle.ipa_pairs.proofs.parts.part_at.Goals as goal

pub returns-then-place-action_count : goal.returns-then-place-action_count
returns-then-place-action_count c =
    subst (IsPart c.args.spec.now c.args.place) (sym c.new.ensures)
    (part-none c.args.spec.now c.args.place (omega (arith, c.action_count.ensures)))

pub returns : goal.returns
returns c =
    let s = c.args.spec.now in
    part-left s c.action_at.result c.args.place c.push_conflicts_of_left.new.conflicts c.action_at.ensures.declared
    c.action_at.ensures.place
    (subst (λ old. ExtendsConflicts s (IsOfLeft s c.action_at.result) old c.push_conflicts_of_left.new.conflicts)
    c.new-conflicts.ensures c.in_ok-push_conflicts_of_left.ensures.extends)
