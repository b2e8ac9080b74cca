use Rattle.std.proofs.Common.{sym, ◌∙◌, ap, ◌||◌, Bool}
use Rattle.std.specs.List.{list_any}
use Rattle.std.proofs.lemmas.List.{take_all}
use Rattle.ipa_journal.specs.declared.journal.OutLine.{OutLine}
use Rattle.ipa_audit.specs.Commits.{is_commit_of}
use Rattle.ipa_audit.proofs.CommitLemmas.{any_more}
use Rattle.ipa_audit.proofs.missing.commits_of.Goals as goal

pub loop-out-preserved : goal.loop-out-preserved
loop-out-preserved c x =
    c.in_ok-insert_commit.ensures x
    ∙ (ap (λ (b : Bool). is_commit_of c.out-item.result x || b) (c.loop-out.invariant x)
    ∙ sym (any_more (λ (o : OutLine). is_commit_of o x) c.args.outs.now c.loop-out.out-index c.out-item.result
    c.loop-out-test.true c.out-item.is))

pub returns : goal.returns
returns c x =
    c.loop-out.invariant x
    ∙ ap (list_any (λ (o : OutLine). is_commit_of o x)) (take_all c.loop-out.out-index c.args.outs.now c.loop-out-test.false)
