use Rattle.std.proofs.lemmas.Bool.{false≢true}
use Rattle.ipa_forms.proofs.LineLemmas.{no_names}
use Rattle.ipa_forms.proofs.reading.lines.read_names.Goals as goal

pub returns-in_default : goal.returns-in_default
returns-in_default c =
    λ ns h. no_names c.loop-words.names c.args.words.now c.loop-words.words c.loop-words.invariant (λ e. false≢true (c.loop-words-test.ensures.1 e)) c.in_default.ensures ns h.words_are
