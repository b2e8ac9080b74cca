use Rattle.std.proofs.Common.{◌≡◌, ℕ, ◌+◌, ◌∙◌, sym, ap, arith}
use Rattle.rand_pcg.specs.Lcg.{Lcg, started, increment_of, next, advance}
use Rattle.rand_pcg.specs.Pcg.{pcg32, multiplier_64}
use Rattle.rand_pcg.proofs.LcgLemmas.{advance_zero, advance_more}
use Rattle.ipa_schedule.specs.Draws.{IsDrawing}
use Rattle.ipa_schedule.specs.Schedules.{draw}
use Rattle.ipa_schedule.proofs.draws.next_draw.Goals as goal

-- the generator of a number, as a new one
abbrev first : ℕ → Lcg
first number = started 64 multiplier_64 number (increment_of 64 64)

drawn_now : (number k : ℕ) (words after : Lcg) (word : ℕ) → IsDrawing number k words → (word, after) ≡ pcg32 words →
    word ≡ draw number k
drawn_now number k words after word is taken = ap (λ (p : ℕ × Lcg). p.0) taken
    ∙ ap (λ (g : Lcg). (pcg32 g).0) (sym (advance_zero 64 multiplier_64 words) ∙ is.rest 0
    ∙ ap (λ (j : ℕ). advance 64 multiplier_64 j (first number)) (omega arith))

moved_on : (number k : ℕ) (words after : Lcg) (word : ℕ) → IsDrawing number k words → (word, after) ≡ pcg32 words →
    IsDrawing number (k + 1) after
moved_on number k words after word is taken = record {
  rest = λ j. ap (λ (p : ℕ × Lcg). advance 64 multiplier_64 j p.1) taken ∙ advance_more 64 multiplier_64 j words
      ∙ is.rest (j + 1) ∙ ap (λ (i : ℕ). advance 64 multiplier_64 i (first number)) (omega arith);
}

pub returns-clause-drawn : goal.returns-clause-drawn
returns-clause-drawn c number k is = drawn_now number k _ _ _ is c.next_word.ensures

pub returns-clause-moved : goal.returns-clause-moved
returns-clause-moved c number k is = moved_on number k _ _ _ is c.next_word.ensures
