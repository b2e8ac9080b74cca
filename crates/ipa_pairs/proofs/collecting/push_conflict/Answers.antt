use Rattle.std.proofs.Common.{◌≡◌, subst}
use Rattle.std.proofs.lemmas.Option.{MatchOption-at_some, MatchOption-at_none}
use Rattle.std.proofs.lemmas.Result.{on_ok_weaker}
use Rattle.ipa_logic.specs.Conflicts.{Conflict}
use Rattle.ipa_pairs.specs.Width.{triple_key}
use Rattle.ipa_pairs.specs.Triples.{triple}
use Rattle.ipa_pairs.specs.Examples.{IsReportedExample}
use Rattle.ipa_pairs.specs.Analyses.{triple_of, IsInConflict}
use Rattle.ipa_pairs.specs.declared.analysis.Conflict.{Conflict as Example}
use Rattle.ipa_pairs.proofs.BreakableLemmas.{unbroken}
use Rattle.ipa_pairs.proofs.CollectLemmas.{extends-nothing, extends-one}
use Rattle.ipa_pairs.proofs.collecting.push_conflict.Goals as goal

pub returns-in-Some : goal.returns-in-Some
returns-in-Some c =
    let s = c.args.spec.now in
    let t = triple c.args.left c.args.right c.args.number in
    let found = MatchOption-at_some (Conflict s c.args.left c.args.right c.args.number → ⊥) (λ (e : Example). IsReportedExample s e × (triple_of e ≡ t))
    c.in-Some.conflict c.in-Some.is c.in_ok-conflict.ensures.found in
    record {
      of = c.find_conflict.ensures.of;
      extends = on_ok_weaker c.push.result
          (λ grown. extends-one triple_of (triple_key s) (IsReportedExample s) (IsInConflict s) c.args.conflicts.now c.push.new.self c.in-Some.conflict t grown found.0 found.1)
          c.push.ensures.ok;
    }

pub returns-in-None : goal.returns-in-None
returns-in-None c =
    let s = c.args.spec.now in
    let t = triple c.args.left c.args.right c.args.number in
    let none = MatchOption-at_none (Conflict s c.args.left c.args.right c.args.number → ⊥) (λ (e : Example). IsReportedExample s e × (triple_of e ≡ t))
    c.in-None.is c.in_ok-conflict.ensures.found in
    record {
      of = c.find_conflict.ensures.of;
      extends = extends-nothing triple_of (triple_key s) (IsReportedExample s) (IsInConflict s) (λ u. u ≡ t) c.args.conflicts.now
          (λ u e there. none (subst (IsInConflict s) e there));
    }

pub returns-then-not-breakable-number-clause-extends : goal.returns-then-not-breakable-number-clause-extends
returns-then-not-breakable-number-clause-extends c =
    let s = c.args.spec.now in
    let t = triple c.args.left c.args.right c.args.number in
    extends-nothing triple_of (triple_key s) (IsReportedExample s) (IsInConflict s) (λ u. u ≡ t) c.args.conflicts.now
    (λ u e there. unbroken s c.args.left c.args.right c.args.number c.args.breakable.now c.requires.breakable c.if-not-breakable-number.true
    (c.conflicts_are_live.ensures s) (subst (IsInConflict s) e there))
