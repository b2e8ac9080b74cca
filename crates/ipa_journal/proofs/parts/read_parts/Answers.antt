use Rattle.std.proofs.lemmas.Bool.{false≢true}
use Rattle.ipa_journal.proofs.PartLemmas.{no_parts, left_shorter}
use Rattle.ipa_journal.proofs.parts.read_parts.Goals as goal

pub returns-in_default : goal.returns-in_default
returns-in_default c =
    let none = rw c.in_default.is at c.in_ok-part.ensures in
    no_parts c.words.parts c.args.words.now c.words.words c.words.invariant (λ e. false≢true (c.words-test.ensures.1 e)) none

pub words-smaller : goal.words-smaller
words-smaller c =
    let read = rw c.in-Some.is at c.in_ok-part.ensures in
    left_shorter c.in-Some.part c.words.words c.read_part.new.words read
