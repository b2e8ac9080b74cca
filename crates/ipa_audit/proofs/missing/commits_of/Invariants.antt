use Rattle.std.proofs.Common.{◌≡◌, take}
use Rattle.std.specs.List.{list_any}
use Rattle.ipa_audit.specs.Commits.{is_listed, is_commit_of}
use Rattle.ipa_audit.specs.declared.missing.Commit.{Commit}
use Rattle.ipa_audit.proofs.missing.commits_of.Given as goal

abbrev pub invariant-loop-out : goal.invariant-loop-out
invariant-loop-out l = (c : Commit) →
    is_listed l.commits.keys c ≡ list_any (λ o. is_commit_of o c) (take l.out-index l.outs)
