-- The patterns that are still to come, as a cursor moves.
use Rattle.std.proofs.Common.{◌≡◌, ℕ, zero, suc, ◌-◌, ◌<◌, ◌≤◌, Bool, true, false, not, List, [], ◌∷◌, length, map, take, replicate, sym, ap, ◌∙◌, arith, inl, inr}
use Rattle.std.specs.List.{slice_index}
use Rattle.std.specs.Bool.{MatchBool}
use Rattle.std.proofs.lemmas.Bool.{cases_lt}
use Rattle.std.proofs.lemmas.List.{length-take-le, get_or-take, get_or_append_left, get_or-append_right, get_or-replicate, length-append, length-replicate}
use Rattle.std.proofs.lemmas.Grind.{same_number_lists}
use Rattle.ipa_logic.specs.Facts.{Universe}
use Rattle.ipa_ground.specs.Patterns.{opened, IsPatternFrom, IsPattern, padded, patterns}
use Rattle.ipa_ground.specs.PatternValues.{left, later, pattern_of}
use Rattle.ipa_ground.specs.Cursors.{IsAt, IsCursor, IsBehind, IsOfVariables, IsStanding, to_come, sorts_in, classes_in}
use Rattle.ipa_ground.specs.declared.cursor.Cursor.{Cursor}
use Rattle.ipa_ground.specs.declared.patterns.Pattern.{Pattern}
use Rattle.ipa_ground.proofs.PatternOrder.{limit_at, left-one, left-first}
use Rattle.ipa_ground.proofs.CursorLemmas.{limit-of}

-- classes that are within their limits are a pattern
pattern-limits : (used : Universe) (sorts classes : List ℕ) → length classes ≡ length sorts → ((j : ℕ) → j < length sorts → slice_index classes j ≤ limit_at used sorts classes j) → IsPatternFrom used sorts classes
pattern-limits used [] [] e h = tt
pattern-limits used [] (c ∷ classes) e h = absurd (omega (arith, e))
pattern-limits used (s ∷ sorts) [] e h = absurd (omega (arith, e))
pattern-limits used (s ∷ sorts) (c ∷ classes) e h = (h 0 (omega arith), pattern-limits (opened used s c) sorts classes (omega (arith, e)) (λ j l. h (suc j) (omega arith)))

long-sorts : (c : Cursor) → IsCursor c → length (sorts_in c) ≡ c.len
long-sorts c h = length-take-le c.len c.sorts (omega (arith, h.few, h.sorts_width))

long-classes : (c : Cursor) → IsCursor c → length (classes_in c) ≡ c.len
long-classes c h = length-take-le c.len c.classes (omega (arith, h.few, h.classes_width))

-- a cursor stands at a pattern
at-pattern : (c : Cursor) → IsCursor c → IsAt c.constants c.sorts c.classes c.limits c.universe.sizes c.len → IsPattern c.constants (sorts_in c) (classes_in c)
at-pattern c h at = pattern-limits c.constants (sorts_in c) (classes_in c) (long-classes c h ∙ sym (long-sorts c h))
    (λ j l. let inside : j < c.len = omega (arith, long-sorts c h) in
    let class : slice_index (classes_in c) j ≡ slice_index c.classes j = get_or-take c.len c.classes j 0 inside in
    omega (arith, at.class j inside, limit-of c.constants c.sorts c.classes c.limits c.universe.sizes c.len j at inside))

-- its classes are the pattern's
padded-classes : (c : Cursor) → IsCursor c → padded (classes_in c) ≡ c.classes
padded-classes c h =
    let long = long-classes c h in
    let rest : length (replicate (12 - length (classes_in c)) zero) ≡ 12 - length (classes_in c) = length-replicate {A = ℕ} (12 - length (classes_in c)) zero in
    let whole : length (padded (classes_in c)) ≡ length c.classes = length-append (classes_in c) (replicate (12 - length (classes_in c)) 0) ∙ omega (arith, h.few, h.classes_width) in
    same_number_lists (padded (classes_in c)) c.classes whole (λ k l. elim (cases_lt k c.len) [
      | inl inside ↦ (get_or_append_left (classes_in c) (replicate (12 - length (classes_in c)) 0) 0 k (omega arith) ∙ get_or-take c.len c.classes k 0 inside)
      | inr past ↦ (get_or-append_right (classes_in c) (replicate (12 - length (classes_in c)) 0) c.len k 0 long past
          ∙ (get_or-replicate (12 - length (classes_in c)) (k - c.len) 0 0 (omega (arith, h.few, h.classes_width)) ∙ sym (h.class_unused k past)))
    ])

given-pattern : (c : Cursor) → IsCursor c → IsAt c.constants c.sorts c.classes c.limits c.universe.sizes c.len → pattern_of c.constants (sorts_in c) (classes_in c) ≡ record { classes = c.classes; len = c.len; universe = c.universe }
given-pattern c h at = λ i. record { classes = padded-classes c h i; len = long-sorts c h i; universe = record { sizes = sym at.used_is i } }

-- what comes after the cursor has moved
come-after : (old new : Cursor) (moved : Bool) → IsOfVariables old new →
    MatchBool moved (IsBehind old new) (later old.constants (sorts_in old) (classes_in old) ≡ []) →
    map (pattern_of old.constants (sorts_in old)) (later old.constants (sorts_in old) (classes_in old))
    ≡ to_come new (not moved)
come-after old new true v b =
    let same : sorts_in old ≡ sorts_in new = λ i. take (sym v.len i) (sym v.sorts i) in
    ap (map (pattern_of old.constants (sorts_in old))) b.next
    ∙ (λ i. map (pattern_of (sym v.constants i) (same i)) (left (sym v.constants i) (same i) (classes_in new)))
come-after old new false v e = ap (map (pattern_of old.constants (sorts_in old))) e

-- the pattern at which the cursor stands is given, and the others come
pub give-one : (old new : Cursor) (done moved : Bool) (all : List Pattern) → IsStanding old done → done ≡ false →
    all ≡ to_come old done → IsOfVariables old new →
    MatchBool moved (IsBehind old new) (later old.constants (sorts_in old) (classes_in old) ≡ []) →
    all ≡ record { classes = old.classes; len = old.len; universe = old.universe } ∷ to_come new (not moved)
give-one old new done moved all h off e v b =
    let at = h.at off in
    e ∙ (ap (to_come old) off
    ∙ (ap (map (pattern_of old.constants (sorts_in old)))
    (left-one old.constants (sorts_in old) (classes_in old) (at-pattern old h.cursor at))
    ∙ (λ i. given-pattern old h.cursor at i ∷ come-after old new moved v b i)))

-- the first cursor has all patterns to come
pub give-all : (c : Cursor) (constants : Universe) (sorts : List ℕ) → IsCursor c → c.constants ≡ constants →
    sorts_in c ≡ sorts → ((j : ℕ) → j < c.len → slice_index c.classes j ≡ 0) →
    to_come c false ≡ map (pattern_of constants sorts) (patterns constants sorts)
give-all c constants sorts h fixed same zeros =
    ap (map (pattern_of c.constants (sorts_in c)))
    (left-first c.constants (sorts_in c) (classes_in c) (long-classes c h ∙ sym (long-sorts c h))
    (λ j l. let inside : j < c.len = omega (arith, long-classes c h) in
    get_or-take c.len c.classes j 0 inside ∙ zeros j inside))
    ∙ (λ i. map (pattern_of (fixed i) (same i)) (patterns (fixed i) (same i)))
