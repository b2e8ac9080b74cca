use Rattle.std.proofs.Common.{◌∙◌}
use Rattle.ipa_journal.specs.Unread.IsUnread.{no_parts}
use Rattle.ipa_journal.proofs.parts.parts_of_tokens.Goals as goal

pub returns-in_default-clause-fault : goal.returns-in_default-clause-fault
returns-in_default-clause-fault c =
    let none = rw c.in_default.is at c.in_ok-parts.ensures in
    no_parts (record {
      tokens = c.args.tokens.now;
      cut = c.requires.cut;
      none = λ parts e. none parts (c.new-words.ensures ∙ e);
    })
