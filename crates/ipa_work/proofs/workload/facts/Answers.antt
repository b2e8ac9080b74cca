use Rattle.std.proofs.Common.{ℕ, ◌+◌, List, ◌++◌, ◌∙◌, ap, codes}
use Rattle.std.specs.Fmt.{decimal}
use Rattle.std.proofs.lemmas.List.{append_assoc}
use Rattle.ipa_work.proofs.CountLemmas.{none, more}
use Rattle.ipa_work.proofs.workload.facts.Goals as goal

pub loop-k-init : goal.loop-k-init
loop-k-init c = none c.args.page.now (λ k. (c.args.front.now ++ decimal k) ++ codes ")\n")

pub loop-k-preserved : goal.loop-k-preserved
loop-k-preserved c =
    c.in_ok-text-2.ensures.ok ∙ (ap (λ (page : List ℕ). page ++ codes ")\n") (c.in_ok-number.ensures.ok
    ∙ (ap (λ (page : List ℕ). page ++ decimal (c.loop-k.k + 1)) c.in_ok-text.ensures.ok
    ∙ append_assoc c.loop-k.page c.args.front.now (decimal (c.loop-k.k + 1))))
    ∙ (append_assoc c.loop-k.page (c.args.front.now ++ decimal (c.loop-k.k + 1)) (codes ")\n")
    ∙ more c.args.page.now c.loop-k.page c.loop-k.k (λ k. (c.args.front.now ++ decimal k) ++ codes ")\n") c.loop-k.invariant))
