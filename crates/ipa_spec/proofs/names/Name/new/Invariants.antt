use Rattle.std.proofs.Common.{◌≡◌, ℕ, ◌≤◌, take, get_or, length}
use Rattle.ipa_spec.proofs.names.Name.new.Given as goal

-- the bytes so far are copied, and zeros follow
abbrev pub invariant-loop-place : goal.invariant-loop-place
invariant-loop-place l = record {
  short : length l.bytes ≤ 24;
  sized : length l.padded ≡ 24;
  copied : take l.place l.padded ≡ take l.place l.bytes;
  zeros : (k : ℕ) → l.place ≤ k → get_or l.padded k 0 ≡ 0;
}
