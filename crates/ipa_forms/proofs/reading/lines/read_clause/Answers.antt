use Rattle.std.proofs.Common.{◌∙◌, ap, List, ◌++◌}
use Rattle.ipa_spec.specs.declared.names.Name.{Name}
use Rattle.ipa_forms.specs.declared.forms.Typed.{Typed}
use Rattle.std.proofs.lemmas.Bool.{false≢true}
use Rattle.ipa_forms.specs.Forms.{typed_name}
use Rattle.ipa_forms.specs.Parts.{applied}
use Rattle.ipa_forms.proofs.LineLemmas.{no_clause_head, no_clause_colon, no_clause_literals, no_clause_end}
use Rattle.ipa_forms.proofs.reading.lines.read_clause.Goals as goal

pub returns-in_default : goal.returns-in_default
returns-in_default c =
    let none = rw c.in_default.is at c.in_ok-name.ensures in
    no_clause_head c.args.words.now none

pub returns-then-not-take_sign : goal.returns-then-not-take_sign
returns-then-not-take_sign c =
    let read = rw c.in-Some.is at c.in_ok-name.ensures in
    let taken = c.if-not-take_sign.ensures in
    no_clause_colon c.args.words.now c.read_applied.new.words (c.in-Some.name, c.in-Some.vars) read taken.1

pub returns-in_default-2 : goal.returns-in_default-2
returns-in_default-2 c =
    let head : Name × List Typed = (c.in-Some.name, c.in-Some.vars) in
    let read = rw c.in-Some.is at c.in_ok-name.ensures in
    let opened = read ∙ ap (λ t. applied typed_name head ++ t) c.if-not-take_sign.ensures in
    let none = rw c.in_default-2.is at c.in_ok-literals.ensures in
    no_clause_literals c.args.words.now c.take_sign.new.words head opened none

pub returns-then-not-is_empty : goal.returns-then-not-is_empty
returns-then-not-is_empty c =
    let head : Name × List Typed = (c.in-Some.name, c.in-Some.vars) in
    let read = rw c.in-Some.is at c.in_ok-name.ensures in
    let opened = read ∙ ap (λ t. applied typed_name head ++ t) c.if-not-take_sign.ensures in
    let joined = rw c.in-Some-2.is at c.in_ok-literals.ensures in
    no_clause_end c.args.words.now c.take_sign.new.words head opened c.in-Some-2.literals c.read_joined.new.words joined (λ e. false≢true (c.if-not-is_empty.ensures.1 e))
