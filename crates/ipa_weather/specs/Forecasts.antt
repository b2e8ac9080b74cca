-- What a weather is due to give. `due k` is the fate that its k-th answer from now on gives, counted from 0.
--
--   raised n count        a count after n more answers: at the last value of 64 bits it stays
--   HasMoved was is n     what is due now is what was due n answers later
--   WereDue due fates     these fates are the first that were due, in order
--   lossy_fate word       the fate that a lossy weather makes of a word
--   lossy_due words       what a lossy weather is due to give, whose words come from this generator
--   split_due from to n   what a split weather gives, which has answered n times
use Rattle.std.specs.Prelude.{◌≡◌, ℕ, suc, zero, ◌+◌, ◌-◌, ◌<◌, ◌^◌, ◌%◌, min, List, get_or, length}
use Rattle.std.specs.Prelude.{◌==◌, ◌&&◌, nat_le, nat_lt, cond}
use Rattle.rand_pcg.specs.Lcg.{Lcg, advance}
use Rattle.rand_pcg.specs.Pcg.{pcg32, multiplier_64}
use Rattle.ipa_history.specs.declared.outcomes.Fate.{Fate}
use Rattle.ipa_history.specs.declared.outcomes.Fate.TheVariants.{Pass, Lose, Twice, Hold}

abbrev pub raised : ℕ → ℕ → ℕ
raised zero count = count
raised (suc n) count = min (count + suc n) (2 ^ 64 - 1)

pub record HasMoved (was is : ℕ → Fate) (n : ℕ) : Type 0 where
  pub later : (k : ℕ) → is k ≡ was (n + k)

pub record WereDue (due : ℕ → Fate) (fates : List Fate) : Type 0 where
  pub each : (k : ℕ) → k < length fates → get_or fates k Pass ≡ due k

-- one word in eight loses the frame, one doubles it and one holds it
abbrev pub lossy_fate : ℕ → Fate
lossy_fate word = cond (word % 8 == 0) Lose (cond (word % 8 == 1) Twice (cond (word % 8 == 2) Hold Pass))

abbrev pub lossy_due : Lcg → ℕ → Fate
lossy_due words k = lossy_fate (pcg32 (advance 64 multiplier_64 k words)).0

abbrev pub split_due : ℕ → ℕ → ℕ → Fate
split_due from to n = cond (nat_le from n && nat_lt n to) Hold Pass
