use Rattle.std.proofs.Common.{◌≡◌, Bool, MatchBool}
use Rattle.std.proofs.lemmas.Option.{MatchOption-at_some}
use Rattle.std.proofs.lemmas.Result.{IfOk-weaker}
use Rattle.ipa_spec.specs.Limits.{IsFaultless}
use Rattle.ipa_spec.specs.declared.specification.Specification.{Specification}
use Rattle.ipa_repair.specs.Applying.{applied}
use Rattle.ipa_repair.proofs.ClearLemmas.{action-kept, clear_by}
use Rattle.ipa_repair.proofs.clearing.clears.Goals as goal

pub are_apart-requires-clause-left : goal.are_apart-requires-clause-left
are_apart-requires-clause-left c =
    let found =
    MatchOption-at_some (IsFaultless (applied c.args.spec.now c.args.parts.now) → ⊥)
    (λ (next : Specification). (next ≡ applied c.args.spec.now c.args.parts.now) × IsFaultless (applied c.args.spec.now c.args.parts.now))
    c.in-Some.next c.in-Some.is c.in_ok-apply_if_faultless.ensures in
    action-kept c.args.spec.now c.in-Some.next c.args.parts.now c.args.left found.0 c.requires.left

pub are_apart-requires-clause-right : goal.are_apart-requires-clause-right
are_apart-requires-clause-right c =
    let found =
    MatchOption-at_some (IsFaultless (applied c.args.spec.now c.args.parts.now) → ⊥)
    (λ (next : Specification). (next ≡ applied c.args.spec.now c.args.parts.now) × IsFaultless (applied c.args.spec.now c.args.parts.now))
    c.in-Some.next c.in-Some.is c.in_ok-apply_if_faultless.ensures in
    action-kept c.args.spec.now c.in-Some.next c.args.parts.now c.args.right found.0 c.requires.right

pub returns-in-Some : goal.returns-in-Some
returns-in-Some c =
    let found =
    MatchOption-at_some (IsFaultless (applied c.args.spec.now c.args.parts.now) → ⊥)
    (λ (next : Specification). (next ≡ applied c.args.spec.now c.args.parts.now) × IsFaultless (applied c.args.spec.now c.args.parts.now))
    c.in-Some.next c.in-Some.is c.in_ok-apply_if_faultless.ensures in
    IfOk-weaker c.are_apart.result _ _
    (λ b h. clear_by c.args.spec.now c.args.left c.args.right c.args.parts.now c.in-Some.next b found.0 found.1 h)
    c.are_apart.ensures
