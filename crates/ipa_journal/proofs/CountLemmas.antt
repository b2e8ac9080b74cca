-- The counts of a cut, one after the other.
use Rattle.std.proofs.Common.{◌≡◌, ℕ, ◌+◌, ◌-◌, ◌<◌, true, List, [], ◌∷◌, ◌++◌, length, map, take, get_or, replicate, Some, unwrap_or, suc, refl, sym, ap, ◌∙◌, arith}
use Rattle.std.proofs.lemmas.Bool.{and_from}
use Rattle.std.proofs.lemmas.List.{length-map, length-take-le, map-append, take_more}
use Rattle.std.proofs.lemmas.List.Folds.{list_all-append}
use Rattle.std.specs.List.{list_all, slice_set}
use Rattle.std.specs.Option.{is_some}
use Rattle.ipa_journal.specs.Meaning.{count_in, is_number}
use Rattle.ipa_journal.specs.Parts.{number_part}
use Rattle.ipa_journal.specs.declared.parts.Part.{Part}

-- the first place behind some numbers is set
set_behind : (xs ys : List ℕ) (y x : ℕ) → slice_set (xs ++ y ∷ ys) (length xs) x ≡ (xs ++ x ∷ []) ++ ys
set_behind [] ys y x = refl
set_behind (z ∷ xs) ys y x = ap (λ t. z ∷ t) (set_behind xs ys y x)

pub count_put : (xs : List ℕ) (n i x : ℕ) → i ≡ length xs → i < n →
    slice_set (xs ++ replicate (n - i) 0) i x ≡ (xs ++ x ∷ []) ++ replicate (n - (i + 1)) 0
count_put xs n i x e h =
    let split : n - i ≡ suc (n - (i + 1)) = omega arith in
    ap (λ k. slice_set (xs ++ replicate k 0) i x) split
    ∙ ap (λ k. slice_set (xs ++ 0 ∷ replicate (n - (i + 1)) 0) k x) e ∙ set_behind xs (replicate (n - (i + 1)) 0) 0 x

-- one number more is read
pub record CountMore (ps : List Part) (i x : ℕ) (next : List ℕ) : Type 0 where
  pub numbers : list_all is_number (take (i + 1) ps) ≡ true
  pub counts : next ≡ map count_in (take (i + 1) ps) ++ replicate (16 - (i + 1)) 0

is_counted : (p : Part) (x : ℕ) → number_part p ≡ Some x → (is_number p ≡ true) × (count_in p ≡ x)
is_counted p x e = (ap is_some e, ap (λ n. unwrap_or n 0) e)

pub count_more : (ps : List Part) (i x : ℕ) (p : Part) (counts : List ℕ) → i < length ps → i < 16 →
    p ≡ get_or ps i p → number_part p ≡ Some x → list_all is_number (take i ps) ≡ true →
    counts ≡ map count_in (take i ps) ++ replicate (16 - i) 0 → CountMore ps i x (slice_set counts i x)
count_more ps i x p counts h few is said numbers so_far =
    let more : take (i + 1) ps ≡ take i ps ++ p ∷ [] =
    take_more ps i p h ∙ ap (λ q. take i ps ++ q ∷ []) (sym is) in
    let it = is_counted p x said in
    let wide : i ≡ length (map count_in (take i ps)) =
    sym (length-map (take i ps) count_in ∙ length-take-le i ps (omega (arith, h))) in
    record {
      numbers = ap (list_all is_number) more ∙ list_all-append is_number (take i ps) (p ∷ [])
          ∙ and_from _ _ numbers (and_from _ _ it.0 refl);
      counts = ap (λ cs. slice_set cs i x) so_far ∙ count_put (map count_in (take i ps)) 16 i x wide few
          ∙ ap (λ cs. cs ++ replicate (16 - (i + 1)) 0)
          (sym (ap (map count_in) more ∙ map-append count_in (take i ps) (p ∷ [])
          ∙ ap (λ y. map count_in (take i ps) ++ y ∷ []) it.1));
    }
