use Rattle.std.proofs.Common.{◌≡◌, ℕ, ◌+◌, ◌*◌, arith, refl, sym, subst, ◌∙◌, inl}
use Rattle.std.proofs.lemmas.Bool.{false≢true}
use Rattle.ipa_frame.specs.declared.frame.Frame.TheVariants.{Carry}
use Rattle.ipa_history.specs.declared.history.Tx.{Tx}
use Rattle.ipa_frame.specs.Frames.{IsRead}
use Rattle.ipa_frame.specs.Reading.{carried}
use Rattle.ipa_frame.proofs.Refusing.{IsCarryFront, bad_high, bad_carry_low, bad_field, short_carry, read_carry_is}
use Rattle.ipa_frame.proofs.reading.read_carry.Goals as goal

pub returns-then-byte_or-ne0 : goal.returns-then-byte_or-ne0
returns-then-byte_or-ne0 c = bad_high c.args.bytes.now (inl c.requires) (λ e. c.if-byte_or-ne0.true (c.byte_or.ensures ∙ e))

pub returns-in_default : goal.returns-in_default
returns-in_default c = bad_carry_low c.args.bytes.now c.requires (λ k small e. c.in_default.ensures k small (c.byte_or-2.ensures ∙ e))

pub returns-then-not-do_fields_stand : goal.returns-then-not-do_fields_stand
returns-then-not-do_fields_stand c =
    let front : IsCarryFront c.args.bytes.now c.in-Some.count = record {
      small = c.in-Some.ensures.0;
      kind = c.requires;
      high = sym c.byte_or.ensures ∙ c.if-byte_or-ne0.false;
      low = sym c.byte_or-2.ensures ∙ c.in-Some.ensures.1;
    } in
    bad_field c.args.bytes.now c.in-Some.count (λ place. omega (arith, c.type_inv.bytes place)) front (λ stand. false≢true (c.if-not-do_fields_stand.ensures.1 stand))

pub returns-then-bytes-size : goal.returns-then-bytes-size
returns-then-bytes-size c =
    let front : IsCarryFront c.args.bytes.now c.in-Some.count = record {
      small = c.in-Some.ensures.0;
      kind = c.requires;
      high = sym c.byte_or.ensures ∙ c.if-byte_or-ne0.false;
      low = sym c.byte_or-2.ensures ∙ c.in-Some.ensures.1;
    } in
    short_carry c.args.bytes.now c.in-Some.count (λ place. omega (arith, c.type_inv.bytes place)) front (c.if-not-do_fields_stand.ensures.0 refl) (omega arith)

pub returns : goal.returns
returns c =
    let bytes = c.args.bytes.now in
    let count : ℕ = c.in-Some.count in
    let front : IsCarryFront c.args.bytes.now c.in-Some.count = record {
      small = c.in-Some.ensures.0;
      kind = c.requires;
      high = sym c.byte_or.ensures ∙ c.if-byte_or-ne0.false;
      low = sym c.byte_or-2.ensures ∙ c.in-Some.ensures.1;
    } in
    let size : 75 + 2 * count ≡ 75 + 2 * c.from.result = omega arith in
    let read : IsRead c.args.bytes.now (Carry (carried c.args.bytes.now c.in-Some.count)) (75 + 2 * c.in-Some.count)
    = read_carry_is c.args.bytes.now c.in-Some.count (λ place. omega (arith, c.type_inv.bytes place)) front (c.if-not-do_fields_stand.ensures.0 refl) (omega arith) in
    let whole : IsRead c.args.bytes.now (Carry c.carried.result) (75 + 2 * c.in-Some.count)
    = subst (λ (tx : Tx). IsRead c.args.bytes.now (Carry tx) (75 + 2 * c.in-Some.count)) (sym c.carried.ensures) read in
    subst (λ (n : ℕ). IsRead c.args.bytes.now (Carry c.carried.result) n) size whole
