-- The text of many lines.
--
--   text_more        the lines of the first parts, with one more
--   operation_text   the lines of an operation
--   bound_text       the lines of a bound
--   all_text         the lines of a specification
use Rattle.std.proofs.Common.{◌≡◌, ℕ, ◌+◌, ◌<◌, List, [], ◌∷◌, ◌++◌, length, map, take, Result, Ok, Err, OnOk, refl, ap, sym, ◌∙◌, append_assoc}
use Rattle.std.specs.List.{flat_map, slice_index_or}
use Rattle.std.proofs.lemmas.List.{take_more, flat_map_more}
use Rattle.std.proofs.lemmas.List.Folds.{flat_map-map}
use Rattle.std.proofs.lemmas.Grind.{flat_map-append}
use Rattle.ipa_spec.specs.declared.names.Name.{Name}
use Rattle.ipa_spec.specs.declared.predicates.Predicate.{Predicate}
use Rattle.ipa_spec.specs.declared.clauses.Literal.{Literal}
use Rattle.ipa_spec.specs.declared.operations.Effect.{Effect}
use Rattle.ipa_spec.specs.declared.operations.Operation.{Operation}
use Rattle.ipa_spec.specs.declared.bounds.Bound.{Bound}
use Rattle.ipa_spec.specs.declared.specification.Specification.{Specification}
use Rattle.ipa_forms.specs.Layout.{text_of}
use Rattle.ipa_forms.specs.declared.forms.Typed.{Typed}
use Rattle.ipa_forms.specs.declared.forms.Form.{Form}
use Rattle.ipa_forms.specs.declared.forms.Form.TheVariants.{Sort, Op}
use Rattle.ipa_canonical.specs.Canonical.{const_form, pred_form, clause_form, typed_form, names_of, need_form, effect_form, remove_form, operation_forms, bound_form, bound_forms, bound_vars, canonical_text}

pub ok_then : {A E : Type 0} (r : Result A E) {P Q : Type 0} → (P → Q) → OnOk r P → OnOk r Q
ok_then (Ok x) f h = f h
ok_then (Err e) f h = tt

pub text_more : {X : Type 0} (f : X → List ℕ) (xs : List X) (i : ℕ) (x : X) (start page next : List ℕ) → i < length xs → x ≡ slice_index_or xs i x → page ≡ start ++ flat_map f (take i xs) → next ≡ page ++ f x → next ≡ start ++ flat_map f (take (i + 1) xs)
text_more f xs i x start page next l at before is =
    let front : take (i + 1) xs ≡ take i xs ++ x ∷ [] = take_more xs i x l ∙ ap (λ z. take i xs ++ z ∷ []) (sym at) in
    is ∙ ap (λ p. p ++ f x) before ∙ flat_map_more f start (take i xs) x ∙ ap (λ all. start ++ flat_map f all) (sym front)

flat_map-flat_map : {X Y Z : Type 0} (f : Y → List Z) (g : X → List Y) (xs : List X) → flat_map f (flat_map g xs) ≡ flat_map (λ x. flat_map f (g x)) xs
flat_map-flat_map f g [] = refl
flat_map-flat_map f g (x ∷ xs) = flat_map-append f (g x) (flat_map g xs) ∙ ap (λ later. flat_map f (g x) ++ later) (flat_map-flat_map f g xs)

-- texts of lists of forms, one behind the other
joined : (fs gs : List Form) (a b : List ℕ) → a ≡ flat_map text_of fs → b ≡ flat_map text_of gs → a ++ b ≡ flat_map text_of (fs ++ gs)
joined fs gs a b e h = (λ i. e i ++ h i) ∙ sym (flat_map-append text_of fs gs)

each : {X : Type 0} (f : X → Form) (xs : List X) → flat_map (λ x. text_of (f x)) xs ≡ flat_map text_of (map f xs)
each f xs = sym (flat_map-map text_of f xs)

pub operation_text : (s : Specification) (o : Operation) (params : List Typed) (names seen : List Name) (needs : List Literal) (effects : List Effect) (old p1 p2 p3 : List ℕ) →
    params ≡ map (typed_form s.sorts) o.params → names ≡ names_of o.params → seen ≡ names_of o.params → needs ≡ o.needs → effects ≡ o.effects →
    p1 ≡ old ++ text_of (Op o.name params) → p2 ≡ p1 ++ flat_map (λ x. text_of (need_form s o.name names x)) needs → p3 ≡ p2 ++ flat_map (λ x. text_of (effect_form s o.name seen x)) effects →
    p3 ≡ old ++ flat_map text_of (operation_forms s o)
operation_text s o params names seen needs effects old p1 p2 p3 typed known again need effect e1 e2 e3 =
    let head = text_of (Op o.name (map (typed_form s.sorts) o.params)) in
    let n = flat_map (λ x. text_of (need_form s o.name (names_of o.params) x)) o.needs in
    let e = flat_map (λ x. text_of (effect_form s o.name (names_of o.params) x)) o.effects in
    let first : p1 ≡ old ++ head = e1 ∙ ap (λ vs. old ++ text_of (Op o.name vs)) typed in
    let second : p2 ≡ (old ++ head) ++ n = e2 ∙ (λ i. first i ++ flat_map (λ x. text_of (need_form s o.name (known i) x)) (need i)) in
    let third : p3 ≡ ((old ++ head) ++ n) ++ e = e3 ∙ (λ i. second i ++ flat_map (λ x. text_of (effect_form s o.name (again i) x)) (effect i)) in
    let both = joined (map (need_form s o.name (names_of o.params)) o.needs) (map (effect_form s o.name (names_of o.params)) o.effects) n e (each (need_form s o.name (names_of o.params)) o.needs) (each (effect_form s o.name (names_of o.params)) o.effects) in
    third ∙ append_assoc (old ++ head) n e ∙ append_assoc old head (n ++ e) ∙ ap (λ later. old ++ (head ++ later)) both

pub bound_text : (s : Specification) (b : Bound) (form : Form) (vars : List Name) (removes : List Effect) (old p1 p2 : List ℕ) →
    form ≡ bound_form s b → vars ≡ bound_vars s.predicates b → removes ≡ b.removes →
    p1 ≡ old ++ text_of form → p2 ≡ p1 ++ flat_map (λ x. text_of (remove_form s b.name vars x)) removes →
    p2 ≡ old ++ flat_map text_of (bound_forms s b)
bound_text s b form vars removes old p1 p2 is known same e1 e2 =
    let head = text_of (bound_form s b) in
    let r = flat_map (λ x. text_of (remove_form s b.name (bound_vars s.predicates b) x)) b.removes in
    let first : p1 ≡ old ++ head = e1 ∙ ap (λ f. old ++ text_of f) is in
    let second : p2 ≡ (old ++ head) ++ r = e2 ∙ (λ i. first i ++ flat_map (λ x. text_of (remove_form s b.name (known i) x)) (same i)) in
    second ∙ append_assoc old head r ∙ ap (λ later. old ++ (head ++ later)) (each (remove_form s b.name (bound_vars s.predicates b)) b.removes)

pub all_text : (s : Specification) (old p0 p1 p2 p3 p4 p5 : List ℕ) →
    p0 ≡ old ++ flat_map (λ name. text_of (Sort name)) s.sorts →
    p1 ≡ p0 ++ flat_map (λ x. text_of (const_form s.sorts x)) s.constants →
    p2 ≡ p1 ++ flat_map (λ x. text_of (pred_form s.sorts x)) s.predicates →
    p3 ≡ p2 ++ flat_map (λ x. text_of (clause_form s x)) s.clauses →
    p4 ≡ p3 ++ flat_map (λ x. flat_map text_of (operation_forms s x)) s.operations →
    p5 ≡ p4 ++ flat_map (λ x. flat_map text_of (bound_forms s x)) s.bounds →
    p5 ≡ old ++ canonical_text s
all_text s old p0 p1 p2 p3 p4 p5 e0 e1 e2 e3 e4 e5 =
    let a = flat_map (λ name. text_of (Sort name)) s.sorts in
    let k = flat_map (λ x. text_of (const_form s.sorts x)) s.constants in
    let b = flat_map (λ x. text_of (pred_form s.sorts x)) s.predicates in
    let c = flat_map (λ x. text_of (clause_form s x)) s.clauses in
    let d = flat_map (λ x. flat_map text_of (operation_forms s x)) s.operations in
    let e = flat_map (λ x. flat_map text_of (bound_forms s x)) s.bounds in
    let last = joined (flat_map (operation_forms s) s.operations) (flat_map (bound_forms s) s.bounds) d e (sym (flat_map-flat_map text_of (operation_forms s) s.operations)) (sym (flat_map-flat_map text_of (bound_forms s) s.bounds)) in
    let fourth = joined (map (clause_form s) s.clauses) (flat_map (operation_forms s) s.operations ++ flat_map (bound_forms s) s.bounds) c (d ++ e) (each (clause_form s) s.clauses) last in
    let third = joined (map (pred_form s.sorts) s.predicates) _ b (c ++ (d ++ e)) (each (pred_form s.sorts) s.predicates) fourth in
    let second = joined (map (const_form s.sorts) s.constants) _ k (b ++ (c ++ (d ++ e))) (each (const_form s.sorts) s.constants) third in
    let all = joined (map (λ name. Sort name) s.sorts) _ a (k ++ (b ++ (c ++ (d ++ e)))) (each (λ name. Sort name) s.sorts) second in
    let chained : p5 ≡ (((((old ++ a) ++ k) ++ b) ++ c) ++ d) ++ e = e5 ∙ ap (λ p. p ++ e) (e4 ∙ ap (λ p. p ++ d) (e3 ∙ ap (λ p. p ++ c) (e2 ∙ ap (λ p. p ++ b) (e1 ∙ ap (λ p. p ++ k) e0)))) in
    chained ∙ regroup old a k b c d e ∙ ap (λ text. old ++ text) all
  where
    regroup : (o a k b c d e : List ℕ) → (((((o ++ a) ++ k) ++ b) ++ c) ++ d) ++ e ≡ o ++ (a ++ (k ++ (b ++ (c ++ (d ++ e)))))
    regroup o a k b c d e = simp append_assoc
