-- The bound on the number of a predicate's facts.
--
--   power-below   at most three sizes of at most sixteen elements
use Rattle.std.proofs.Common.{ℕ, zero, suc, ◌^◌, ◌≤◌, arith}

-- at most three sizes of at most sixteen elements
pub power-below : (n : ℕ) → n ≤ 3 → 16 ^ n ≤ 4096
power-below zero l = omega arith
power-below (suc zero) l = omega arith
power-below (suc (suc zero)) l = omega arith
power-below (suc (suc (suc zero))) l = omega arith
power-below (suc (suc (suc (suc n)))) l = absurd (omega arith)
