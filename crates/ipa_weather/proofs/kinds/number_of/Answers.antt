use Rattle.std.proofs.Common.{◌≡◌, ◌≢◌, ℕ, ◌<◌, ◌^◌, ◌∙◌, MatchOption, sym, ap, subst}
use Rattle.std.specs.Fmt.{decimal}
use Rattle.ipa_weather.specs.Kinds.{begins_as_number}
use Rattle.ipa_weather.proofs.Numbers.{begins_otherwise, parsed_as_written}
use Rattle.ipa_weather.proofs.kinds.number_of.Goals as goal

pub returns-then-not-begins_as_number : goal.returns-then-not-begins_as_number
returns-then-not-begins_as_number c =
    begins_otherwise c.args.digits.now (ap begins_as_number (sym c.as_bytes.ensures.value) ∙ sym c.begins_as_number.ensures ∙ c.if-not-begins_as_number.true)

pub returns : goal.returns
returns c =
    let ds = c.args.digits.now in
    let begins = ap begins_as_number (sym c.as_bytes.ensures.value) ∙ sym c.begins_as_number.ensures ∙ c.if-not-begins_as_number.false in
    subst (λ r. MatchOption r ((n : ℕ) → n < 2 ^ 64 → ds ≢ decimal n) (λ n. (n < 2 ^ 64) × (ds ≡ decimal n))) (sym c.ok.ensures.value) (parsed_as_written ds c.parse.result begins c.parse.ensures.value.0)
