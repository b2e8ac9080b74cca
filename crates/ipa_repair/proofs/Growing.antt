-- Lists that grow by what each item of another gives.
--
--   grown-more      by the next item
--   numbers-more    the numbers below n + 1 are those below n and n
--   counted-start   by no number yet
--   counted-more    by the next number
use Rattle.std.proofs.Common.{◌≡◌, ℕ, ◌+◌, ◌<◌, List, [], ◌∷◌, ◌++◌, length, take, get_or, sym, ap, ◌∙◌, add-one, append-nil}
use Rattle.std.specs.List.{flat_map}
use Rattle.std.proofs.lemmas.List.{take_more, flat_map_more}
use Rattle.ipa_ground.specs.Enumeration.{numbers}

-- a list that has grown by what the first items give, and now by what the next one gives
pub grown-more : {X A : Type 0} (f : X → List A) (old now next : List A) (xs : List X) (i : ℕ) (d : X) → i < length xs →
    now ≡ old ++ flat_map f (take i xs) → next ≡ now ++ f (get_or xs i d) → next ≡ old ++ flat_map f (take (i + 1) xs)
grown-more f old now next xs i d l e step =
    step ∙ (ap (λ ys. ys ++ f (get_or xs i d)) e ∙ (flat_map_more f old (take i xs) (get_or xs i d)
    ∙ ap (λ ys. old ++ flat_map f ys) (sym (take_more xs i d l))))

-- the numbers below n + 1 are those below n and n
pub numbers-more : (n : ℕ) → numbers (n + 1) ≡ numbers n ++ n ∷ []
unfolding numbers
numbers-more n = ap numbers (add-one n)

-- a list that has not grown yet
pub counted-start : {A : Type 0} (f : ℕ → List A) (old : List A) → old ≡ old ++ flat_map f (numbers 0)
unfolding numbers
counted-start f old = sym (append-nil old)

-- a list that has grown by what the first numbers give, and now by what the next one gives
pub counted-more : {A : Type 0} (f : ℕ → List A) (old now next : List A) (n : ℕ) →
    now ≡ old ++ flat_map f (numbers n) → next ≡ now ++ f n → next ≡ old ++ flat_map f (numbers (n + 1))
counted-more f old now next n e step =
    step ∙ (ap (λ ys. ys ++ f n) e ∙ (flat_map_more f old (numbers n) n ∙ ap (λ ys. old ++ flat_map f ys) (sym (numbers-more n))))
