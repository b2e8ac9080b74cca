-- What the loops over reads and writes keep, and what a read from memory gives and leaves.
--     ReadSoFar, SentSoFar               the invariants of the two loops
--     Consumes-append, Appends-take      one more read, one more write
--     drop-given, none-given             what is left after a read from memory
use Rattle.std.proofs.Common.{◌≡◌, ℕ, ◌+◌, ◌-◌, ◌<◌, ◌≤◌, List, [], ◌++◌, length, take, drop, min, arith, sym, ◌∙◌, ap, append_assoc, length-drop}
use Rattle.std.proofs.Math.Seq.{take-add}
use Rattle.std.proofs.lemmas.List.{take_all, drop-drop, take-append-drop, drop_all}
use Rattle.std.specs.Prelude.{Option, None, Some}
use Rattle.std.specs.Io.KnownBytes.{Consumes, Appends}

-- these bytes came so far, by reads that each gave at least one of them, the last of them
-- while no more than the limit had come
pub record ReadSoFar (old new : Option (List ℕ)) (faults_old faults_new reads_old reads_new : ℕ)
    (bytes : List ℕ) (limit : ℕ) : Type 0 where
  pub came : Consumes old new bytes
  pub count : faults_old ≤ faults_new
  pub by_length : reads_new ≤ reads_old + length bytes
  pub by_limit : reads_new ≤ reads_old + limit + 1

-- the first bytes went out so far, as many as were sent
pub record SentSoFar (old new : Option (List ℕ)) (faults_old faults_new : ℕ)
    (bytes : List ℕ) (sent : ℕ) : Type 0 where
  pub within : sent ≤ length bytes
  pub gone : Appends old new (take sent bytes)
  pub count : faults_old ≤ faults_new

-- bytes that came, and then more
pub Consumes-append : (old mid new : Option (List ℕ)) (xs ys : List ℕ) →
    Consumes old mid xs → Consumes mid new ys → Consumes old new (xs ++ ys)
Consumes-append None mid new xs ys a b = tt
Consumes-append (Some o) None new xs ys a b = absurd a
Consumes-append (Some o) (Some m) None xs ys a b = absurd b
Consumes-append (Some o) (Some m) (Some n) xs ys a b =
    a ∙ ap (λ r. xs ++ r) b ∙ sym (append_assoc xs ys n)

-- bytes that went out, and then more
Appends-append : (old mid new : Option (List ℕ)) (xs ys : List ℕ) →
    Appends old mid xs → Appends mid new ys → Appends old new (xs ++ ys)
Appends-append None mid new xs ys a b = tt
Appends-append (Some o) None new xs ys a b = absurd a
Appends-append (Some o) (Some m) None xs ys a b = absurd b
Appends-append (Some o) (Some m) (Some n) xs ys a b =
    b ∙ ap (λ r. r ++ ys) a ∙ append_assoc o xs ys

-- the slice from a place on is the rest of the list
slice_from : (place : ℕ) (xs : List ℕ) → take (length xs - place) (drop place xs) ≡ drop place xs
slice_from place xs = take_all _ _ (omega (arith, length-drop place xs))

-- bytes that went out, and then the first of those that follow, which are given as a slice
pub Appends-take : (old mid new : Option (List ℕ)) (bytes : List ℕ) (n m : ℕ) →
    Appends old mid (take n bytes) →
    Appends mid new (take m (take (length bytes - n) (drop n bytes))) →
    Appends old new (take (n + m) bytes)
Appends-take old mid new bytes n m a b =
    rw (take-add n m bytes) (Appends-append old mid new _ _ a (rw (slice_from n bytes) at b))

-- what a read gave from a place on, and what is left after it
pub drop-given : (bytes into : List ℕ) (given n : ℕ) →
    take n into ≡ take n (take (length bytes - given) (drop given bytes)) →
    drop given bytes ≡ take n into ++ drop (given + n) bytes
drop-given bytes into given n copied =
    sym (take-append-drop n (drop given bytes))
    ∙ ap (λ rest. take n (drop given bytes) ++ rest) (drop-drop n given bytes)
    ∙ ap (λ first. first ++ drop (given + n) bytes)
    (sym (copied ∙ ap (take n) (slice_from given bytes)))

-- a read that gave nothing, though there was room, left nothing
pub none-given : (bytes into old : List ℕ) (given piece n : ℕ) → 0 < piece →
    length into ≡ length old →
    n ≡ min piece (min (length old) (length (take (length bytes - given) (drop given bytes)))) →
    n ≡ 0 → 0 < length into → drop (given + n) bytes ≡ []
none-given bytes into old given piece n some same count none room =
    let rest : length (take (length bytes - given) (drop given bytes)) ≡ length (drop given bytes)
    = ap length (slice_from given bytes) in
    let past : length bytes ≤ given + n = omega (arith, rest, length-drop given bytes) in
    drop_all _ _ past
