-- Counts of faults.
--     last_count        the count's last value, where it stays
--     Rose old new      the count rose, or stands at its last value
--     next_count n      the count after one more
use Rattle.std.specs.Prelude.{ℕ, ◌+◌, ◌<◌, min}

-- the last value of a count: the last number of 64 bits
abbrev pub last_count : ℕ
last_count = 18446744073709551615

-- the count is above what it was, or it stands at its last value
abbrev pub Rose : ℕ → ℕ → Type 0
Rose old new = new < last_count → old < new

-- one more, up to the last value, where the count stays
abbrev pub next_count : ℕ → ℕ
next_count n = min (n + 1) last_count
