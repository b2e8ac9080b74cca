use Rattle.std.proofs.Common.{◌≡◌, ℕ, ◌<◌, ◌∷◌, take, None, get_or}
use Rattle.ipa_clock.specs.Cut.{count_of}
use Rattle.ipa_sets.specs.AtCuts.{filed_under}
use Rattle.ipa_sets.specs.Keys.{add_key}
use Rattle.ipa_sets.specs.Numbers.{greatest_upto}
use Rattle.ipa_sets.proofs.index.Index.touched_up_to.Given as goal

abbrev pub invariant-loop-key : goal.invariant-loop-key
invariant-loop-key l = (o : ℕ) → o < 16 → get_or l.touched o None
    ≡ greatest_upto (count_of l.cut o) (filed_under l.self (add_key l.fact ∷ take l.key-index l.key-items) o)
