use Rattle.std.proofs.Common.{sym, ◌∙◌}
use Rattle.ipa_forms.proofs.FormLemmas.{keyword_first, text-written}
use Rattle.ipa_forms.proofs.reading.take_keyword.Goals as goal

pub returns : goal.returns
returns c =
    let bytes = c.in_ok-kind.bytes.now in
    let keyword = c.in_ok-keyword.keyword in
    let same = text-written bytes keyword (sym c.keyword_of.ensures ∙ c.in_ok-keyword.was) in
    keyword_first c.args.words.now c.pass.new.self c.in_ok-kind.kind bytes keyword c.in_ok-kind.ensures c.in-Word.is c.pass.ensures same
