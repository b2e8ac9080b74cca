-- The lines of a canonical text say nothing of the setup but the constants, which are elements.
--
--   no_setup        there is no setup line
--   IsUnsaid a      no fact is said, no replica and no session
--   setup_unsaid    so it is
--   elements_said   the elements are the constants
use Rattle.std.proofs.Common.{◌≡◌, ℕ, ◌==◌, Bool, true, false, cond, List, [], ◌∷◌, ◌++◌, map, filter, fold, refl, ◌∙◌, sym, subst, ap, append-nil}
use Rattle.std.specs.List.{flat_map, list_any}
use Rattle.std.proofs.lemmas.Bool.{or_from, or_parts}
use Rattle.std.proofs.lemmas.List.Folds.{list_any-append}
use Rattle.std.proofs.lemmas.Simd.{map-map}
use Rattle.ipa_spec.specs.declared.names.Name.{Name}
use Rattle.ipa_spec.specs.declared.operations.Effect.{Effect}
use Rattle.ipa_spec.specs.declared.operations.Operation.{Operation}
use Rattle.ipa_spec.specs.declared.specification.Specification.{Specification}
use Rattle.ipa_forms.specs.declared.forms.Form.{Form}
use Rattle.ipa_forms.specs.declared.forms.Form.TheVariants.{Sort, Const, Pred, Clause, Op, Need, Add, Del, Bound as BoundLine, Drops, Elem, Base, Replicas, Session, Do, Show}
use Rattle.ipa_reader.specs.Ordering.{is_setup}
use Rattle.ipa_names.specs.Declarations.{nothing_declared, with_declaration}
use Rattle.ipa_names.specs.Meaning.{sort_number, constant_of, specification_of}
use Rattle.ipa_reader.specs.Arrangements.{elements_at, nothing_arranged, with_arrangement}
use Rattle.ipa_reader.specs.Standings.{with_said, standing_of}
use Rattle.ipa_reader.specs.Soundness as said
use Rattle.ipa_reader.specs.Soundness.{IsSoundStanding}
use Rattle.ipa_names.specs.declared.declared.Declared.{Declared}
use Rattle.ipa_reader.specs.declared.standing.Arranged.{Arranged}
use Rattle.ipa_canonical.specs.Canonical.{predicate_name, args_form, const_form, pred_form, clause_form, names_of, need_form, effect_form, remove_form, operation_forms, bound_forms, bound_vars, forms_of}
use Rattle.ipa_canonical.specs.Alone.{constant_names}

-- no fact is said, no replica and no session
pub record IsUnsaid (a : Arranged) : Type 0 where
  pub facts : a.facts ≡ []
  pub replicas : a.replicas ≡ 1
  pub sessions : a.sessions ≡ []

kept : (d : Declared) (a : Arranged) (f : Form) → is_setup f ≡ false → IsUnsaid a → IsUnsaid (with_arrangement d a f)
kept d a (Sort n) h is = is
kept d a (Const c) h is = record { facts = is.facts; replicas = is.replicas; sessions = is.sessions }
kept d a (Pred n sorts rule) h is = is
kept d a (Clause n vars ls) h is = is
kept d a (Op n params) h is = is
kept d a (Need l) h is = is
kept d a (Add p args) h is = is
kept d a (Del p args) h is = is
kept d a (BoundLine n p vars counted most pick) h is = is
kept d a (Drops p args) h is = is
kept d a (Elem n elements) h is = cc
kept d a (Base p elements) h is = cc
kept d a (Replicas k) h is = cc
kept d a (Session k) h is = cc
kept d a (Do o elements) h is = cc
kept d a (Show p ps) h is = cc

all_kept : (lines : List Form) (d : Declared) (a : Arranged) → list_any is_setup lines ≡ false → IsUnsaid a → IsUnsaid (fold with_said (d, a) lines).1
all_kept [] d a h is = is
all_kept (f ∷ lines) d a h is =
    let parts = or_parts (is_setup f) (list_any is_setup lines) h in
    all_kept lines (with_declaration d f) (with_arrangement d a f) parts.1 (kept d a f parts.0 is)

both : (fs gs : List Form) → list_any is_setup fs ≡ false → list_any is_setup gs ≡ false → list_any is_setup (fs ++ gs) ≡ false
both fs gs h k = list_any-append is_setup fs gs ∙ or_from _ _ h k

mapped : {X : Type 0} (of : X → Form) → ((x : X) → is_setup (of x) ≡ false) → (xs : List X) → list_any is_setup (map of xs) ≡ false
mapped of each [] = refl
mapped of each (x ∷ xs) = or_from _ _ (each x) (mapped of each xs)

flattened : {X : Type 0} (of : X → List Form) → ((x : X) → list_any is_setup (of x) ≡ false) → (xs : List X) → list_any is_setup (flat_map of xs) ≡ false
flattened of each [] = refl
flattened of each (x ∷ xs) = both (of x) (flat_map of xs) (each x) (flattened of each xs)

either : (b : Bool) (f g : Form) → is_setup f ≡ false → is_setup g ≡ false → is_setup (cond b f g) ≡ false
either true f g h k = h
either false f g h k = k

effect_kept : (s : Specification) (own : Name) (vars : List Name) (e : Effect) → is_setup (effect_form s own vars e) ≡ false
effect_kept s own vars e = either e.add (Add (predicate_name s own e.predicate) (args_form s own vars e)) (Del (predicate_name s own e.predicate) (args_form s own vars e)) refl refl

operation_kept : (s : Specification) (o : Operation) → list_any is_setup (operation_forms s o) ≡ false
operation_kept s o = both (map (need_form s o.name (names_of o.params)) o.needs) (map (effect_form s o.name (names_of o.params)) o.effects)
    (mapped (need_form s o.name (names_of o.params)) (λ l. refl) o.needs) (mapped (effect_form s o.name (names_of o.params)) (effect_kept s o.name (names_of o.params)) o.effects)

pub no_setup : (s : Specification) → list_any is_setup (forms_of s) ≡ false
no_setup s =
    let constants = map (const_form s.sorts) s.constants in
    let sort_lines = map (λ name. Sort name) s.sorts in
    let predicates = map (pred_form s.sorts) s.predicates in
    let clauses = map (clause_form s) s.clauses in
    let operations = flat_map (operation_forms s) s.operations in
    let bounds = flat_map (bound_forms s) s.bounds in
    both sort_lines (constants ++ (predicates ++ (clauses ++ (operations ++ bounds)))) (mapped (λ name. Sort name) (λ name. refl) s.sorts)
    (both constants (predicates ++ (clauses ++ (operations ++ bounds))) (mapped (const_form s.sorts) (λ c. refl) s.constants)
    (both predicates (clauses ++ (operations ++ bounds)) (mapped (pred_form s.sorts) (λ p. refl) s.predicates)
    (both clauses (operations ++ bounds) (mapped (clause_form s) (λ c. refl) s.clauses)
    (both operations bounds (flattened (operation_forms s) (operation_kept s) s.operations)
    (flattened (bound_forms s) (λ b. mapped (remove_form s b.name (bound_vars s.predicates b)) (λ e. refl) b.removes) s.bounds)))))

pub setup_unsaid : (s : Specification) → IsUnsaid (standing_of (forms_of s)).arranged
setup_unsaid s = all_kept (forms_of s) nothing_declared nothing_arranged (no_setup s) (record { facts = refl; replicas = refl; sessions = refl })

filter_mapped : {X Y : Type 0} (test : Y → Bool) (of : X → Y) (xs : List X) → filter test (map of xs) ≡ map of (filter (λ x. test (of x)) xs)
filter_mapped test of [] = refl
filter_mapped test of (x ∷ xs) = step (test (of x)) (filter_mapped test of xs)
  where
    step : (b : Bool) → filter test (map of xs) ≡ map of (filter (λ y. test (of y)) xs) →
        cond b (of x ∷ filter test (map of xs)) (filter test (map of xs)) ≡ map of (cond b (x ∷ filter (λ y. test (of y)) xs) (filter (λ y. test (of y)) xs))
    step true e = ap (λ later. of x ∷ later) e
    step false e = e

-- the constants that are declared, by numbers
names_declared : (d : Declared) (n : ℕ) → constant_names (specification_of d) n ≡ said.constant_names d n
names_declared d n =
    ap (map (λ c. c.name)) (filter_mapped (λ c. c.sort == n) (constant_of d) d.constants)
    ∙ map-map (λ c. c.name) (constant_of d) (filter (λ c. sort_number d c.sort == n) d.constants)

pub elements_said : (s : Specification) → specification_of (standing_of (forms_of s)).declared ≡ s → IsSoundStanding (standing_of (forms_of s)) → (n : ℕ) → elements_at (standing_of (forms_of s)).arranged.elements n ≡ constant_names s n
elements_said s back sound n =
    let begun = sound.begun n in
    let d = (standing_of (forms_of s)).declared in
    begun.are ∙ ap (λ later. said.constant_names d n ++ later) (begun.none (no_setup s)) ∙ append-nil (said.constant_names d n)
    ∙ sym (names_declared d n) ∙ ap (λ x. constant_names x n) back
