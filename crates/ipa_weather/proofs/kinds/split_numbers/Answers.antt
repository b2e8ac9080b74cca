use Rattle.std.proofs.Common.{◌∙◌, ap, arith}
use Rattle.std.proofs.lemmas.Option.{MatchOption-at_none, MatchOption-at_some}
use Rattle.ipa_weather.proofs.Numbers.{IsSplitWord, split_around, no_split}
use Rattle.ipa_weather.proofs.kinds.split_numbers.Goals as goal

pub returns-in_err-from : goal.returns-in_err-from
returns-in_err-from c =
    let word = c.args.word.now in
    let rest = c.in_ok-strip_prefix.field-0.now in
    let is : IsSplitWord word rest c.split_once.result = record { strips = c.in_ok-strip_prefix.ensures.cases; splits = c.split_once.ensures.cases } in
    no_split word _ c.from_residual-in_err-from.ensures (λ m n small_m small_n same. MatchOption-at_none _ _ c.in_err-from.was (split_around word rest c.split_once.result m n is (omega arith) same))

pub returns-in_err-short_number_of : goal.returns-in_err-short_number_of
returns-in_err-short_number_of c =
    let word = c.args.word.now in
    let rest = c.in_ok-strip_prefix.field-0.now in
    let is : IsSplitWord word rest c.split_once.result = record { strips = c.in_ok-strip_prefix.ensures.cases; splits = c.split_once.ensures.cases } in
    no_split word _ c.from_residual-in_err-short_number_of.ensures (λ m n small_m small_n same.
    let parts = MatchOption-at_some _ _ _ c.in_ok-from.was (split_around word rest c.split_once.result m n is (omega arith) same) in
    c.in_err-short_number_of.ensures m small_m (ap (λ b. b.now) c.in_ok-from.from-is ∙ parts.0))

pub returns-in_err-short_number_of-2 : goal.returns-in_err-short_number_of-2
returns-in_err-short_number_of-2 c =
    let word = c.args.word.now in
    let rest = c.in_ok-strip_prefix.field-0.now in
    let is : IsSplitWord word rest c.split_once.result = record { strips = c.in_ok-strip_prefix.ensures.cases; splits = c.split_once.ensures.cases } in
    no_split word _ c.from_residual-in_err-short_number_of-2.ensures (λ m n small_m small_n same.
    let parts = MatchOption-at_some _ _ _ c.in_ok-from.was (split_around word rest c.split_once.result m n is (omega arith) same) in
    c.in_err-short_number_of-2.ensures n small_n (ap (λ b. b.now) c.in_ok-from.to-is ∙ parts.1))
