-- Generators of the numbers of a schedule.
--
--   IsDrawing number k words    the generator has drawn the first k numbers
use Rattle.std.specs.Prelude.{◌≡◌, ℕ, ◌+◌}
use Rattle.rand_pcg.specs.Lcg.{Lcg, started, increment_of, advance}
use Rattle.rand_pcg.specs.Pcg.{multiplier_64}

-- the generator has drawn the first k numbers: what it gives from now on is what a new one gives after them
pub record IsDrawing (number k : ℕ) (words : Lcg) : Type 0 where
  pub rest : (j : ℕ) →
      advance 64 multiplier_64 j words ≡ advance 64 multiplier_64 (k + j) (started 64 multiplier_64 number (increment_of 64 64))
