use Rattle.std.proofs.Common.{arith}
use Rattle.ipa_weather.proofs.Numbers.{written_once}
use Rattle.ipa_weather.proofs.kinds.short_number_of.Goals as goal

pub returns-else-number-from : goal.returns-else-number-from
returns-else-number-from c n small same =
    let number = c.in_ok-number.number in
    let found = c.in_ok-number.ensures in
    let once = written_once c.args.digits.now n number (omega arith) found.0 same found.1 in
    omega arith
