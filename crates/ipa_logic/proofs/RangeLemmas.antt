-- The range of a state that has the facts of one predicate.
use Rattle.std.proofs.Common.{◌≡◌, ℕ, ◌<◌, Bool, true, false, cond, ◌&&◌, ◌==◌, not, List, [], ◌∷◌, filter, find, Option, Some, refl, sym, ◌∙◌, ap, arith}
use Rattle.std.proofs.lemmas.Bool.{and_parts, eqb-true}
use Rattle.std.proofs.lemmas.Bool.Decides.{nat_tests}
use Rattle.std.specs.Ordering.{nat_cmp, ordering_then, is_lt, is_le}
use Rattle.std.specs.Cmp.Lexicographic.{slice_cmp}
use Rattle.std.specs.declared.cmp.Ordering.{Ordering}
use Rattle.std.specs.declared.cmp.Ordering.TheVariants.{Greater}
use Rattle.std.specs.declared.ops.Bound.{Bound}
use Rattle.std.specs.declared.ops.Bound.TheVariants.{Included, Excluded, Unbounded}
use Rattle.std.specs.BTreeMap.Range.{range_contains, is_past_end}
use Rattle.ipa_logic.specs.Facts.{fact_cmp}
use Rattle.ipa_logic.specs.Views.{is_above, next_fact}
use Rattle.ipa_logic.specs.Ranges.{IsStart, IsEnd}
use Rattle.ipa_logic.specs.declared.facts.Fact.{Fact}

-- a fact of a greater predicate does not
pub lt-from_predicates : (f g : Fact) → g.predicate < f.predicate → is_lt (fact_cmp f g) ≡ false
lt-from_predicates f g h =
    let e : nat_cmp f.predicate g.predicate ≡ Greater = grind (arith, nat_tests) in
    ap (λ (o : Ordering). is_lt (ordering_then o (slice_cmp nat_cmp f.args g.args))) e

-- nothing is lost where only what does not pass is left out
pub find-filter : (t r : Fact → Bool) → ((f : Fact) → t f ≡ true → r f ≡ true) → (s : List Fact) → find t (filter r s) ≡ find t s
find-filter t r h [] = refl
find-filter t r h (x ∷ xs) = here (t x) (r x) refl refl (find-filter t r h xs)
  where
    here : (a b : Bool) → t x ≡ a → r x ≡ b → find t (filter r xs) ≡ find t xs → find t (cond b (x ∷ filter r xs) (filter r xs)) ≡ cond a (Some x) (find t xs)
    here a true e k rest = ap (λ (c : Bool). cond c (Some x) (find t (filter r xs))) e ∙ ap (λ (o : Option Fact). cond a (Some x) o) rest
    here true false e k rest = absurd (let no : true ≡ false = sym (h x e) ∙ k in cc)
    here false false e k rest = rest

-- a fact of the predicate is before the end
before-end : (p : ℕ) (hi : Bound Fact) (f : Fact) → IsEnd p hi → f.predicate ≡ p → is_past_end fact_cmp hi f ≡ false
before-end p (Included b) f e h = lt-from_predicates b f (let past : p < b.predicate = e.past in omega arith)
before-end p (Excluded b) f e h =
    let past : p < b.predicate = e.past in
    let k : nat_cmp b.predicate f.predicate ≡ Greater = grind (arith, nat_tests) in
    ap (λ (o : Ordering). is_le (ordering_then o (slice_cmp nat_cmp b.args f.args))) k
before-end p Unbounded f e h = refl

-- the range has all facts of the predicate that are left
in-range : (p : ℕ) (after : Option Fact) (lo hi : Bound Fact) (f : Fact) → IsStart p after lo → IsEnd p hi → ((f.predicate == p) && is_above after f) ≡ true → range_contains fact_cmp lo hi f ≡ true
in-range p after lo hi f s e h =
    let parts : ((f.predicate == p) ≡ true) × (is_above after f ≡ true) = and_parts (f.predicate == p) (is_above after f) h in
    let own : f.predicate ≡ p = eqb-true _ _ parts.0 in
    ap (λ (b : Bool). b && not (is_past_end fact_cmp hi f)) (s.early f own parts.1) ∙ ap not (before-end p hi f e own)

-- the next fact is found in the range
pub next-in_range : (p : ℕ) (after : Option Fact) (lo hi : Bound Fact) (s part : List Fact) → IsStart p after lo → IsEnd p hi → part ≡ filter (range_contains fact_cmp lo hi) s
    → find (λ f. (f.predicate == p) && is_above after f) part ≡ next_fact s p after
next-in_range p after lo hi s part a b e = ap (find (λ f. (f.predicate == p) && is_above after f)) e
    ∙ find-filter (λ f. (f.predicate == p) && is_above after f) (range_contains fact_cmp lo hi) (λ f h. in-range p after lo hi f a b h) s
