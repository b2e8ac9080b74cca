use Rattle.std.proofs.lemmas.Result.{IfOk-weaker}
use Rattle.ipa_pairs.proofs.BreakableLemmas.{apart_by}
use Rattle.ipa_pairs.proofs.search.Search.is_apart.Goals as goal

pub returns-clause-apart : goal.returns-clause-apart
returns-clause-apart c =
    rw (← c.self.view_is)
    (IfOk-weaker c.is_free_of_conflicts.result _ _
    (λ free h. apart_by c.self.inside.spec.now c.args.left c.args.right free c.if-not-is_narrow_pair.ensures h)
    c.is_free_of_conflicts.ensures.free)
