use Rattle.std.proofs.Common.{Bool, MatchBool, sym, ◌∙◌, subst}
use Rattle.std.proofs.lemmas.Result.{IfOk-weaker}
use Rattle.ipa_spec.specs.declared.specification.Specification.{Specification}
use Rattle.ipa_pairs.specs.Analyses.{IsApart}
use Rattle.ipa_repair.proofs.ClearLemmas.{apart_at, not_apart, apart_itself, apart_both}
use Rattle.ipa_repair.proofs.clearing.are_apart.Goals as goal

pub returns-then-not-branch : goal.returns-then-not-branch
returns-then-not-branch c =
    not_apart c.args.spec.now c.new-search.result c.args.left c.args.right c.in_ok-is_apart.field-0 c.new-search.ensures c.if-not-branch.true
    c.in_ok-is_apart.ensures.apart

pub returns-then-same_action : goal.returns-then-same_action
returns-then-same_action c =
    apart_itself c.args.spec.now c.args.left c.args.right (sym c.same_action.ensures ∙ c.if-same_action.true)
    (apart_at c.args.spec.now c.new-search.result c.args.left c.args.right c.in_ok-is_apart.field-0 c.new-search.ensures c.if-not-branch.false
    c.in_ok-is_apart.ensures.apart)

pub returns : goal.returns
returns c =
    let forth =
    apart_at c.args.spec.now c.new-search.result c.args.left c.args.right c.in_ok-is_apart.field-0 c.new-search.ensures c.if-not-branch.false
    c.in_ok-is_apart.ensures.apart in
    IfOk-weaker c.is_apart-2.result _ _
    (λ b h. apart_both c.args.spec.now c.args.left c.args.right b forth
    (subst (λ (x : Specification). MatchBool b (IsApart x c.args.right c.args.left) (IsApart x c.args.right c.args.left → ⊥))
    (c.is_apart.ensures.same ∙ c.new-search.ensures) h))
    c.is_apart-2.ensures.apart
