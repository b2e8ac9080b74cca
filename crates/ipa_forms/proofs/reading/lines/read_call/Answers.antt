use Rattle.std.proofs.lemmas.Bool.{false≢true}
use Rattle.ipa_forms.specs.Parts.{applied}
use Rattle.ipa_forms.proofs.LineLemmas.{none_whole, no_end, IsUnmixed-applied}
use Rattle.ipa_forms.proofs.reading.lines.read_call.Goals as goal

pub returns-in_default : goal.returns-in_default
returns-in_default g c =
    let none = rw c.in_default.is at c.in_ok-call.ensures in
    none_whole (applied g.M.Member.said) c.args.words.now none

pub returns-then-not-is_empty : goal.returns-then-not-is_empty
returns-then-not-is_empty g c =
    let said = g.M.Member.said in
    let unmixed = IsUnmixed-applied said g.met.M.Member.unmixed g.met.M.Member.never_closes in
    let read = rw c.in-Some.is at c.in_ok-call.ensures in
    no_end (applied said) unmixed c.args.words.now c.read_applied.new.words c.in-Some.call read (λ e. false≢true (c.if-not-is_empty.ensures.1 e))
