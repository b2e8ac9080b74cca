use Rattle.std.proofs.lemmas.Bool.{false≢true}
use Rattle.ipa_forms.specs.Forms.{typed_name}
use Rattle.ipa_forms.specs.MemberLaws.{IsUnmixed-typed_name}
use Rattle.ipa_forms.proofs.LineLemmas.{none_whole, no_end}
use Rattle.ipa_forms.proofs.reading.lines.read_const.Goals as goal

pub returns-in_default : goal.returns-in_default
returns-in_default c =
    let none = rw c.in_default.is at c.in_ok-constant.ensures in
    none_whole typed_name c.args.words.now none

pub returns-then-not-is_empty : goal.returns-then-not-is_empty
returns-then-not-is_empty c =
    let read = rw c.in-Some.is at c.in_ok-constant.ensures in
    no_end typed_name IsUnmixed-typed_name c.args.words.now c.read.new.words c.in-Some.constant read (λ e. false≢true (c.if-not-is_empty.ensures.1 e))
