-- The fates of a generator's words.
use Rattle.std.proofs.Common.{◌≡◌, ℕ, ◌∙◌, sym, ap, arith}
use Rattle.rand_pcg.specs.Lcg.{Lcg}
use Rattle.rand_pcg.specs.Pcg.{pcg32, multiplier_64}
use Rattle.rand_pcg.proofs.LcgLemmas.{advance_zero, advance_more}
use Rattle.ipa_weather.specs.Forecasts.{HasMoved, lossy_fate, lossy_due}

pub lossy_due_first : (g : Lcg) (w : ℕ) (h : Lcg) → (w, h) ≡ pcg32 g → lossy_fate w ≡ lossy_due g 0
lossy_due_first g w h is = ap (λ p. lossy_fate p.0) is ∙ ap (λ q. lossy_fate (pcg32 q).0) (sym (advance_zero 64 multiplier_64 g))

pub lossy_due_moved : (g : Lcg) (w : ℕ) (h : Lcg) → (w, h) ≡ pcg32 g → HasMoved (lossy_due g) (lossy_due h) 1
lossy_due_moved g w h is = record {
  later = λ k. ap (λ p. lossy_due p.1 k) is ∙ ap (λ q. lossy_fate (pcg32 q).0) (advance_more 64 multiplier_64 k g) ∙ ap (lossy_due g) (omega arith);
}
