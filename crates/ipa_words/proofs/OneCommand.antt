-- Words name one command at most.
--
--   apart-at        what stands before and behind a mark, where the mark does not stand before
--   one-kind        a word names one kind of weather
--   one-simulate    words name one simulation
--   one-command     and one command
use Rattle.std.proofs.Common.{◌≡◌, ◌≢◌, ℕ, suc, true, ◌<◌, ◌^◌, List, [], ◌∷◌, ◌++◌, length, codes, get_or, drop, refl, sym, ap, ◌∙◌, arith}
use Rattle.std.specs.Fmt.{decimal}
use Rattle.std.specs.Str.{all_ascii_digits}
use Rattle.std.specs.Str.Parse.{digits_value}
use Rattle.std.proofs.lemmas.Fmt.{decimal_injective, digits_decimal}
use Rattle.std.proofs.lemmas.Str.Parse.{IsNumeralModel, numerals_by_value, tells_all_ascii_digits, not_in_digits}
use Rattle.ipa_weather.specs.Kinds.{word_of, IsKind}
use Rattle.ipa_weather.specs.declared.kinds.Kind.{Kind}
use Rattle.ipa_weather.specs.declared.kinds.Kind.TheVariants.{Clear, Lossy, Split}
use Rattle.ipa_words.specs.Commands.{IsCommand, IsSimulate}
use Rattle.ipa_words.specs.Commands.IsSimulate.{clear, weather}
use Rattle.ipa_words.specs.declared.commands.Command.{Command}
use Rattle.ipa_words.specs.declared.commands.Command.TheVariants.{Check, Repair, Simulate, Generate, Audit, Migrate}
use Rattle.ipa_words.proofs.Words.{not_generate, same-letter}

-- the mark stands nowhere
abbrev HasNo : ℕ → List ℕ → Type 0
HasNo mark xs = (i : ℕ) → i < length xs → get_or xs i 0 ≢ mark

-- what stands before and behind a mark, where the mark does not stand before
apart-at : (mark : ℕ) (xs us ys vs : List ℕ) → HasNo mark xs → HasNo mark us → xs ++ (mark ∷ ys) ≡ us ++ (mark ∷ vs) → (xs ≡ us) × (ys ≡ vs)
apart-at mark [] [] ys vs none free e = (refl, cc)
apart-at mark [] (u ∷ us) ys vs none free e = absurd (free 0 (omega arith) (cc))
apart-at mark (x ∷ xs) [] ys vs none free e = absurd (none 0 (omega arith) (cc))
apart-at mark (x ∷ xs) (u ∷ us) ys vs none free e =
    let rest = apart-at mark xs us ys vs (λ i small. none (suc i) (omega (arith, small))) (λ i small. free (suc i) (omega (arith, small))) (cc) in
    (cc (rest.0), rest.1)

own : IsNumeralModel (λ ds. all_ascii_digits ds ≡ true) (digits_value 10)
own = numerals_by_value _ tells_all_ascii_digits

no_colon : (n : ℕ) → n < 2 ^ 64 → HasNo 58 (decimal n)
no_colon n small = not_in_digits own (decimal n) 58 (digits_decimal own n small) (λ within. omega (arith, within.1))

one-split : (m n k l : ℕ) → m < 2 ^ 64 → n < 2 ^ 64 → k < 2 ^ 64 → l < 2 ^ 64 → word_of (Split m n) ≡ word_of (Split k l) → Split m n ≡ Split k l
one-split m n k l sm sn sk sl e =
    let parts = apart-at 58 (decimal m) (decimal k) (decimal n) (decimal l) (no_colon m sm) (no_colon k sk) (ap (drop 6) e) in
    let from = decimal_injective m k sm sk parts.0 in
    let to = decimal_injective n l sn sl parts.1 in
    λ i. Split (from i) (to i)

abbrev first : List ℕ → ℕ
first word = get_or word 0 0

-- a word names one kind of weather
one-kind : (a b : Kind) → IsKind a → IsKind b → word_of a ≡ word_of b → a ≡ b
one-kind Clear Clear h k e = refl
one-kind (Lossy n) (Lossy m) h k e = ap Lossy (decimal_injective n m h k (ap (drop 6) e))
one-kind (Split m n) (Split k l) h g e =
    one-split m n k l (omega (arith, h.0)) (omega (arith, h.1)) (omega (arith, g.0)) (omega (arith, g.1)) e
one-kind Clear (Lossy n) h k e = absurd (omega (arith, ap first e))
one-kind Clear (Split m n) h k e = absurd (omega (arith, ap first e))
one-kind (Lossy n) Clear h k e = absurd (omega (arith, ap first e))
one-kind (Lossy n) (Split k l) h g e = absurd (omega (arith, ap first e))
one-kind (Split m n) Clear h k e = absurd (omega (arith, ap first e))
one-kind (Split m n) (Lossy k) h g e = absurd (omega (arith, ap first e))

abbrev second : List (List ℕ) → List ℕ
second ts = get_or ts 1 []

abbrev third : List (List ℕ) → List ℕ
third ts = get_or ts 2 []

one-simulate : (texts : List (List ℕ)) (n m : ℕ) (a b : Kind) → IsSimulate texts n a → IsSimulate texts m b → Simulate n a ≡ Simulate m b
one-simulate texts n m a b (clear sn is e) (clear sm was f) =
    let number = decimal_injective n m sn sm (ap second (sym e ∙ f)) in
    let kind : a ≡ b = is ∙ sym was in
    λ i. Simulate (number i) (kind i)
one-simulate texts n m a b (clear sn is e) (weather h f) = cc
one-simulate texts n m a b (weather h e) (clear sm was f) = cc
one-simulate texts n m a b (weather h e) (weather k f) =
    let number = decimal_injective n m h.fits k.fits (ap second (sym e ∙ f)) in
    let kind = one-kind a b h.is_kind k.is_kind (ap third (sym e ∙ f)) in
    λ i. Simulate (number i) (kind i)

-- `--generate` is no number
not-generated : (texts : List (List ℕ)) (n m : ℕ) (a : Kind) → IsSimulate texts n a → texts ≡ codes "simulate" ∷ codes "--generate" ∷ decimal m ∷ [] → ⊥
not-generated texts n m a (clear small is e) f = cc
not-generated texts n m a (weather h e) f = not_generate n h.fits (ap second (sym f ∙ e))

-- words name one command at most
pub one-command : (texts : List (List ℕ)) (one other : Command) → IsCommand texts one → IsCommand texts other → one ≡ other
one-command texts Check Check h k = refl
one-command texts Repair Repair h k = refl
one-command texts Audit Audit h k = refl
one-command texts Migrate Migrate h k = refl
one-command texts (Simulate n a) (Simulate m b) h k = one-simulate texts n m a b h k
one-command texts (Generate n) (Generate m) h k = ap Generate (decimal_injective n m h.0 k.0 (ap third (sym h.1 ∙ k.1)))
one-command texts (Simulate n a) (Generate m) h k = absurd (not-generated texts n m a h k.1)
one-command texts (Generate m) (Simulate n a) h k = absurd (not-generated texts n m a k h.1)
one-command texts one other h k = absurd (omega (arith, same-letter texts one other h k))
