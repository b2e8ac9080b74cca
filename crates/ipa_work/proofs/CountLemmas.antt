-- One more of what is counted.
--
--   each_to-none, each_to-more       the texts of no number, and of one more
--   requests-none, requests-more     no request, and one more
--   sessions-none, sessions-more     no session, and one more
--   none, more                       nothing, and one more text, behind what was printed
use Rattle.std.proofs.Common.{◌≡◌, ℕ, ◌+◌, suc, List, [], ◌++◌, refl, ◌∙◌, ap, sym, arith}
use Rattle.std.proofs.lemmas.List.{append_assoc, append-nil}
use Rattle.ipa_work.specs.Workloads.{each_to, request, requests, session, first_sessions}
use Rattle.ipa_work.specs.declared.workload.Workload.{Workload}

-- the number after k
after : (k : ℕ) → k + 1 ≡ suc k
after k = omega arith

pub each_to-none : (text : ℕ → List ℕ) → each_to 0 text ≡ []
unfolding each_to
each_to-none text = refl

pub each_to-more : (k : ℕ) (text : ℕ → List ℕ) → each_to (k + 1) text ≡ each_to k text ++ text (k + 1)
unfolding each_to
each_to-more k text = ap (λ (count : ℕ). each_to count text) (after k) ∙ ap (λ (last : ℕ). each_to k text ++ text last) (sym (after k))

pub requests-none : (n : ℕ) (w : Workload) → requests 0 n w ≡ w
unfolding requests
requests-none n w = refl

pub requests-more : (k n : ℕ) (w : Workload) → requests (k + 1) n w ≡ request n (requests k n w)
unfolding requests
requests-more k n w = ap (λ (count : ℕ). requests count n w) (after k)

pub sessions-none : (n : ℕ) (w : Workload) → first_sessions 0 n w ≡ w
unfolding first_sessions
sessions-none n w = refl

pub sessions-more : (k n : ℕ) (w : Workload) → first_sessions (k + 1) n w ≡ session n k (first_sessions k n w)
unfolding first_sessions
sessions-more k n w = ap (λ (count : ℕ). first_sessions count n w) (after k)

-- one more behind what was printed
pub more : (page before : List ℕ) (k : ℕ) (text : ℕ → List ℕ) → before ≡ page ++ each_to k text →
    before ++ text (k + 1) ≡ page ++ each_to (k + 1) text
more page before k text e =
    ap (λ (front : List ℕ). front ++ text (k + 1)) e
    ∙ (append_assoc page (each_to k text) (text (k + 1))
    ∙ ap (λ (all : List ℕ). page ++ all) (sym (each_to-more k text)))

-- nothing behind what was printed
pub none : (page : List ℕ) (text : ℕ → List ℕ) → page ≡ page ++ each_to 0 text
none page text = sym (append-nil page) ∙ ap (λ (all : List ℕ). page ++ all) (sym (each_to-none text))
