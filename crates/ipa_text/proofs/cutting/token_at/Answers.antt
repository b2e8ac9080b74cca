use Rattle.std.proofs.Common.{sym, refl, ◌∙◌, arith}
use Rattle.std.proofs.lemmas.List.{take_rest}
use Rattle.ipa_text.proofs.TokenLemmas.{none_at_front, token_at_front}
use Rattle.ipa_text.proofs.cutting.token_at.Goals as goal

pub returns-in_err-kind : goal.returns-in_err-kind
returns-in_err-kind c =
    rw c.from_residual.ensures (none_at_front c.args.line.now c.args.at (rw take_rest at (sym c.front_token.ensures.front) ∙ c.in_err-kind.was))

pub returns : goal.returns
returns c =
    (refl, token_at_front c.args.line.now c.args.at c.in_ok-kind.length c.in_ok-kind.kind (omega arith) (rw take_rest at (sym c.front_token.ensures.front) ∙ c.in_ok-kind.was))
