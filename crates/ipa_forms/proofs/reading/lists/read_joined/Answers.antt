use Rattle.std.proofs.Common.{◌∙◌, ap, ◌++◌}
use Rattle.ipa_forms.specs.Parts.{separator_word}
use Rattle.ipa_forms.specs.JoiningLaws.{followed, IsJoined-push, none_joined}
use Rattle.ipa_forms.proofs.reading.lists.read_joined.Goals as goal

pub returns-in_default : goal.returns-in_default
returns-in_default g c =
    let none = rw c.in_default.is at c.in_ok-member.ensures in
    none_joined g.M.Member.said (separator_word c.args.separator) g.met.M.Member.unmixed c.loop-members.members c.args.words.now c.loop-members.words c.loop-members.invariant none

pub returns-then-not-take_separator : goal.returns-then-not-take_separator
returns-then-not-take_separator g c =
    let said = g.M.Member.said in
    let between = separator_word c.args.separator in
    let members = c.loop-members.members in
    let read = rw c.in-Some.is at c.in_ok-member.ensures in
    let left = c.if-not-take_separator.ensures in
    rw (c.in_ok-push.ensures.ok, left.0)
    (IsJoined-push said between c.args.words.now c.read.new.words members c.in-Some.member (c.loop-members.invariant ∙ ap (λ t. followed said between members ++ t) read) left.1)
