use Rattle.std.proofs.Common.{◌≡◌, subst}
use Rattle.std.proofs.lemmas.Option.{MatchOption-at_some, MatchOption-at_none}
use Rattle.std.proofs.lemmas.Result.{on_ok_weaker}
use Rattle.ipa_logic.specs.Acceptance.{DropBreaks}
use Rattle.ipa_pairs.specs.Examples.{IsReportedDrop}
use Rattle.ipa_pairs.specs.Collecting.{bound_clause, bound_clause_of, bound_clause_key, IsUnsafe}
use Rattle.ipa_pairs.specs.declared.analysis.UnsafeDrop.{UnsafeDrop}
use Rattle.ipa_pairs.proofs.OrderLemmas.{bound_clause_is}
use Rattle.ipa_pairs.proofs.CollectLemmas.{extends-nothing, extends-one}
use Rattle.ipa_pairs.proofs.collecting.push_unsafe_drop.Goals as goal

pub returns-in-Some : goal.returns-in-Some
returns-in-Some c =
    let s = c.args.spec.now in
    let t = bound_clause c.args.bound c.args.number in
    let found = MatchOption-at_some (DropBreaks s c.args.bound c.args.number → ⊥)
    (λ (e : UnsafeDrop). IsReportedDrop s e × ((e.bound ≡ c.args.bound) × (e.clause ≡ c.args.number)))
    c.in-Some.unsafe_drop c.in-Some.is c.in_ok-unsafe_drop.ensures.found in
    record {
      of = c.find_unsafe_drop.ensures.of;
      extends = on_ok_weaker c.push.result
          (λ grown. extends-one bound_clause_of bound_clause_key (IsReportedDrop s) (IsUnsafe s) c.args.unsafe_drops.now c.push.new.self c.in-Some.unsafe_drop t grown found.0
          (bound_clause_is s (bound_clause_of c.in-Some.unsafe_drop) c.args.bound c.args.number found.1.0 found.1.1))
          c.push.ensures.ok;
    }

pub returns-in-None : goal.returns-in-None
returns-in-None c =
    let s = c.args.spec.now in
    let t = bound_clause c.args.bound c.args.number in
    let none = MatchOption-at_none (DropBreaks s c.args.bound c.args.number → ⊥)
    (λ (e : UnsafeDrop). IsReportedDrop s e × ((e.bound ≡ c.args.bound) × (e.clause ≡ c.args.number)))
    c.in-None.is c.in_ok-unsafe_drop.ensures.found in
    record {
      of = c.find_unsafe_drop.ensures.of;
      extends = extends-nothing bound_clause_of bound_clause_key (IsReportedDrop s) (IsUnsafe s) (λ u. u ≡ t) c.args.unsafe_drops.now
          (λ u e there. none (subst (IsUnsafe s) e there));
    }
