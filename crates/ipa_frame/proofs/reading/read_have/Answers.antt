use Rattle.std.proofs.Common.{ℕ, List, arith, sym, subst, ◌∙◌, inr}
use Rattle.ipa_clock.specs.declared.cut.Cut.{Cut}
use Rattle.ipa_frame.specs.declared.frame.Frame.TheVariants.{Have}
use Rattle.ipa_frame.specs.Frames.{IsRead}
use Rattle.ipa_frame.proofs.Refusing.{bad_high, bad_have_low, short_have, read_have_is}
use Rattle.ipa_frame.proofs.reading.read_have.Goals as goal

pub returns-then-byte_or-ne0 : goal.returns-then-byte_or-ne0
returns-then-byte_or-ne0 c = bad_high c.args.bytes.now (inr c.requires) (λ e. c.if-byte_or-ne0.true (c.byte_or.ensures ∙ e))

pub returns-then-byte_or-ne64 : goal.returns-then-byte_or-ne64
returns-then-byte_or-ne64 c = bad_have_low c.args.bytes.now c.requires (λ e. c.if-byte_or-ne64.true (c.byte_or-2.ensures ∙ e))

pub returns-then-bytes-lt67 : goal.returns-then-bytes-lt67
returns-then-bytes-lt67 c =
    short_have c.args.bytes.now (λ place. omega (arith, c.type_inv.bytes place)) c.requires (sym c.byte_or.ensures ∙ c.if-byte_or-ne0.false)
    (sym c.byte_or-2.ensures ∙ c.if-byte_or-ne64.false) (omega arith)

pub returns : goal.returns
returns c =
    let cut : List ℕ → Cut = λ counts. record { counts = counts } in
    subst (λ counts. IsRead c.args.bytes.now (Have (cut counts)) 67) (sym c.numbers_at-counts.ensures)
    (read_have_is c.args.bytes.now (λ place. omega (arith, c.type_inv.bytes place)) c.requires (sym c.byte_or.ensures ∙ c.if-byte_or-ne0.false)
    (sym c.byte_or-2.ensures ∙ c.if-byte_or-ne64.false) (omega arith))
