use Rattle.ipa_audit.proofs.AnsweredLemmas.{entry_answered}
use Rattle.ipa_audit.proofs.answers.is_answered.Goals as goal

pub returns-in-Do-Commit : goal.returns-in-Do-Commit
returns-in-Do-Commit c =
    entry_answered c.args.spec.now c.args.universe.now.sizes c.args.base.now c.args.index.now.entries c.requires.legal
    c.requires.counted c.args.out.now c.in-Do-Commit.op c.in-Do-Commit.args c.args.request.now c.in-Do-Commit.number
    c.in-Do-Commit.is-0 c.in-Do-Commit.is-1 c.requires.closed c.is_entry-is_entry.result
    c.is_entry-is_entry.ensures.0 c.is_entry-is_entry.ensures.1
