use Rattle.std.proofs.Common.{◌+◌, length, take, drop, sym, ◌∙◌, ap, arith}
use Rattle.std.proofs.lemmas.List.{take_rest, take_all, drop_all}
use Rattle.ipa_text.proofs.LineLemmas.{feed_at, feed_none}
use Rattle.ipa_text.proofs.numbering.split_piece.Goals as goal

pub returns-in-Some-clause-piece : goal.returns-in-Some-clause-piece
returns-in-Some-clause-piece c =
    ap (λ n. take n c.args.bytes.now) (sym (feed_at c.args.bytes.now c.in-Some.at c.in-Some.ensures.0 c.in-Some.ensures.1))

pub returns-in-Some-clause-rest : goal.returns-in-Some-clause-rest
returns-in-Some-clause-rest c =
    take_rest c.args.bytes.now (c.in-Some.at + 1) ∙ ap (λ n. drop (n + 1) c.args.bytes.now) (sym (feed_at c.args.bytes.now c.in-Some.at c.in-Some.ensures.0 c.in-Some.ensures.1))

pub returns-in-None-clause-piece : goal.returns-in-None-clause-piece
returns-in-None-clause-piece c =
    sym (ap (λ n. take n c.args.bytes.now) (feed_none c.args.bytes.now c.in-None.ensures) ∙ take_all (length c.args.bytes.now) c.args.bytes.now (omega arith))

pub returns-in-None-clause-rest : goal.returns-in-None-clause-rest
returns-in-None-clause-rest c =
    take_rest c.args.bytes.now (length c.args.bytes.now)
    ∙ drop_all (length c.args.bytes.now) c.args.bytes.now (omega arith)
    ∙ sym (ap (λ n. drop (n + 1) c.args.bytes.now) (feed_none c.args.bytes.now c.in-None.ensures) ∙ drop_all (length c.args.bytes.now + 1) c.args.bytes.now (omega arith))
