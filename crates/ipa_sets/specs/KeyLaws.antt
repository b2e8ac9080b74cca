-- Laws of the keys that effects are filed under.
--
--   key_eq-same, key_eq-itself   the test of keys passes just on the same
--   key_cmp-eq                   and so does their order
--   add_key-fact                 the keys of the adds of two facts are the same where the facts are
--   adds-keyed                   a transaction adds a fact exactly where it has the key of its adds
--   takes-keyed                  one of its removes matches the fact exactly where it has a key of the removes that do
use Rattle.std.proofs.Common.{◌≡◌, ℕ, Bool, true, false, not, ◌&&◌, ◌||◌, cond, List, [], ◌∷◌, map, refl, ◌∙◌, ap, subst, Option, Some, None}
use Rattle.std.specs.Prelude.{◌==◌, slice_index}
use Rattle.std.specs.Bool.{beq}
use Rattle.std.specs.List.{list_any}
use Rattle.std.specs.Option.{option_eq, option_cmp, option_map_or}
use Rattle.std.specs.Ordering.{nat_cmp, bool_cmp, ordering_then, is_eq}
use Rattle.std.specs.Cmp.Lexicographic.{slice_cmp, pointwise, options_total, lists_total}
use Rattle.std.specs.Cmp.{IsTotalOrder, on_total, then_total, nat_cmp_total, bool_cmp_total, tied_itself}
use Rattle.std.specs.declared.cmp.Ordering.{Ordering}
use Rattle.std.specs.declared.cmp.Ordering.TheVariants.{Less, Equal, Greater}
use Rattle.std.proofs.lemmas.Bool.{and_parts, and_from, false≢true, eqb-true, eq-eqb}
use Rattle.std.proofs.Math.Bool.{or-false}
use Rattle.std.proofs.lemmas.Map.Lookups.{exact_unsigned}
use Rattle.ipa_spec.specs.Actions.{effects_of}
use Rattle.ipa_spec.specs.declared.operations.Effect.{Effect}
use Rattle.ipa_spec.specs.declared.specification.Specification.{Specification}
use Rattle.ipa_logic.specs.Facts.{fact_cmp}
use Rattle.ipa_logic.specs.FactLaws.{same_fact, fact_itself}
use Rattle.ipa_logic.specs.Touches.{stands_for, arg_at, fact_given, gives, takes, matches, some_takes}
use Rattle.ipa_logic.specs.declared.facts.Fact.{Fact}
use Rattle.ipa_history.specs.MemberLaws.{found, any_from, same_bool}
use Rattle.ipa_history.specs.Values.{adds_fact}
use Rattle.ipa_history.specs.declared.history.Tx.{Tx}
use Rattle.ipa_sets.specs.Keys.{pattern_cmp, key_cmp, key_eq, removed_pattern, add_key, key_of, remove_keys, has_key}
use Rattle.ipa_sets.specs.declared.keys.Key.{Key}
use Rattle.ipa_sets.specs.declared.patterns.Pattern.{Pattern}

-- places are the same where the test passes
same-place : (x y : Option ℕ) → option_eq (λ a b. a == b) x y ≡ true → x ≡ y
same-place None None h = refl
same-place None (Some b) h = absurd (false≢true h)
same-place (Some a) None h = absurd (false≢true h)
same-place (Some a) (Some b) h = ap (λ (n : ℕ). Some n) (eqb-true a b h)

place-itself : (x : Option ℕ) → option_eq (λ a b. a == b) x x ≡ true
place-itself None = refl
place-itself (Some a) = eq-eqb a a refl

same-places : (xs ys : List (Option ℕ)) → pointwise (option_eq (λ a b. a == b)) xs ys ≡ true → xs ≡ ys
same-places [] [] h = refl
same-places [] (y ∷ ys) h = absurd (false≢true h)
same-places (x ∷ xs) [] h = absurd (false≢true h)
same-places (x ∷ xs) (y ∷ ys) h =
    let parts = and_parts (option_eq (λ a b. a == b) x y) (pointwise (option_eq (λ a b. a == b)) xs ys) h in
    let head = same-place x y parts.0 in
    let tail = same-places xs ys parts.1 in
    λ i. head i ∷ tail i

places-itself : (xs : List (Option ℕ)) → pointwise (option_eq (λ a b. a == b)) xs xs ≡ true
places-itself [] = refl
places-itself (x ∷ xs) = and_from (option_eq (λ a b. a == b) x x) (pointwise (option_eq (λ a b. a == b)) xs xs)
    (place-itself x) (places-itself xs)

same-kind : (a b : Bool) → beq a b ≡ true → a ≡ b
same-kind true true h = refl
same-kind true false h = absurd (false≢true h)
same-kind false true h = absurd (false≢true h)
same-kind false false h = refl

kind-itself : (a : Bool) → beq a a ≡ true
kind-itself true = refl
kind-itself false = refl

-- the test of keys passes just on the same
pub key_eq-same : (k q : Key) → key_eq k q ≡ true → k ≡ q
key_eq-same k q h =
    let parts = and_parts (beq k.adds q.adds) ((k.pattern.predicate == q.pattern.predicate)
    && pointwise (option_eq (λ a b. a == b)) k.pattern.places q.pattern.places) h in
    let rest = and_parts (k.pattern.predicate == q.pattern.predicate)
    (pointwise (option_eq (λ a b. a == b)) k.pattern.places q.pattern.places) parts.1 in
    let adds = same-kind k.adds q.adds parts.0 in
    let predicate : k.pattern.predicate ≡ q.pattern.predicate =
    eqb-true k.pattern.predicate q.pattern.predicate rest.0 in
    let places = same-places k.pattern.places q.pattern.places rest.1 in
    λ i. record { adds = adds i; pattern = record { predicate = predicate i; places = places i } }

pub key_eq-itself : (k : Key) → key_eq k k ≡ true
key_eq-itself k = and_from (beq k.adds k.adds) ((k.pattern.predicate == k.pattern.predicate)
    && pointwise (option_eq (λ a b. a == b)) k.pattern.places k.pattern.places) (kind-itself k.adds)
    (and_from (k.pattern.predicate == k.pattern.predicate)
    (pointwise (option_eq (λ a b. a == b)) k.pattern.places k.pattern.places)
    (eq-eqb k.pattern.predicate k.pattern.predicate refl) (places-itself k.pattern.places))

-- both comparisons answer that their sides are equal
then-equal : (a b : Ordering) → is_eq (ordering_then a b) ≡ true → (a ≡ Equal) × (b ≡ Equal)
then-equal Less b h = absurd (false≢true h)
then-equal Equal Less h = absurd (false≢true h)
then-equal Equal Equal h = (refl, refl)
then-equal Equal Greater h = absurd (false≢true h)
then-equal Greater b h = absurd (false≢true h)

place-exact : (x y : Option ℕ) → option_cmp nat_cmp x y ≡ Equal → x ≡ y
place-exact None None h = refl
place-exact None (Some b) h = let e : Less ≡ Equal = h in absurd cc
place-exact (Some a) None h = let e : Greater ≡ Equal = h in absurd cc
place-exact (Some a) (Some b) h = ap (λ (n : ℕ). Some n) (exact_unsigned a b h)

places-exact : (xs ys : List (Option ℕ)) → slice_cmp (option_cmp nat_cmp) xs ys ≡ Equal → xs ≡ ys
places-exact [] [] h = refl
places-exact [] (y ∷ ys) h = let e : Less ≡ Equal = h in absurd cc
places-exact (x ∷ xs) [] h = let e : Greater ≡ Equal = h in absurd cc
places-exact (x ∷ xs) (y ∷ ys) h =
    let parts = then-equal (option_cmp nat_cmp x y) (slice_cmp (option_cmp nat_cmp) xs ys) (ap is_eq h) in
    let head = place-exact x y parts.0 in
    let tail = places-exact xs ys parts.1 in
    λ i. head i ∷ tail i

kind-exact : (a b : Bool) → bool_cmp a b ≡ Equal → a ≡ b
kind-exact true true h = refl
kind-exact true false h = let e : Greater ≡ Equal = h in absurd cc
kind-exact false true h = let e : Less ≡ Equal = h in absurd cc
kind-exact false false h = refl

key_cmp_total : IsTotalOrder key_cmp
key_cmp_total = then_total (on_total (λ (k : Key). k.adds) bool_cmp_total)
    (on_total (λ (k : Key). k.pattern) (then_total (on_total (λ (p : Pattern). p.predicate) nat_cmp_total)
    (on_total (λ (p : Pattern). p.places) (lists_total (options_total nat_cmp_total)))))

-- keys that compare equal are the same
pub key_cmp-same : (k q : Key) → is_eq (key_cmp k q) ≡ true → k ≡ q
key_cmp-same k q h =
    let parts = then-equal (bool_cmp k.adds q.adds) (pattern_cmp k.pattern q.pattern) h in
    let rest = then-equal (nat_cmp k.pattern.predicate q.pattern.predicate)
    (slice_cmp (option_cmp nat_cmp) k.pattern.places q.pattern.places) (ap is_eq parts.1) in
    let adds = kind-exact k.adds q.adds parts.0 in
    let predicate : k.pattern.predicate ≡ q.pattern.predicate =
    exact_unsigned k.pattern.predicate q.pattern.predicate rest.0 in
    let places = places-exact k.pattern.places q.pattern.places rest.1 in
    λ i. record { adds = adds i; pattern = record { predicate = predicate i; places = places i } }

pub key_cmp-itself : (k : Key) → is_eq (key_cmp k k) ≡ true
key_cmp-itself k = ap is_eq (tied_itself key_cmp_total k)

-- the order of keys and their test tell the same ones apart
pub key_cmp-eq : (k q : Key) → is_eq (key_cmp k q) ≡ key_eq k q
key_cmp-eq k q = same_bool (is_eq (key_cmp k q)) (key_eq k q)
    (λ h. subst (λ (x : Key). key_eq k x ≡ true) (key_cmp-same k q h) (key_eq-itself k))
    (λ h. subst (λ (x : Key). is_eq (key_cmp k x) ≡ true) (key_eq-same k q h) (key_cmp-itself k))

-- elements in places tell the same as elements
same-elements : (xs ys : List ℕ) → map (λ x. Some x) xs ≡ map (λ x. Some x) ys → xs ≡ ys
same-elements [] [] h = refl
same-elements [] (y ∷ ys) h = absurd cc
same-elements (x ∷ xs) [] h = absurd cc
same-elements (x ∷ xs) (y ∷ ys) h =
    let both : Some x ∷ map (λ x. Some x) xs ≡ Some y ∷ map (λ x. Some x) ys = h in
    let head : x ≡ y = cc in
    let tail : map (λ x. Some x) xs ≡ map (λ x. Some x) ys = cc in
    let rest = same-elements xs ys tail in
    λ i. head i ∷ rest i

-- the keys of the adds of two facts are the same where the facts are
pub add_key-fact : (f g : Fact) → is_eq (key_cmp (add_key f) (add_key g)) ≡ is_eq (fact_cmp f g)
add_key-fact f g = same_bool (is_eq (key_cmp (add_key f) (add_key g))) (is_eq (fact_cmp f g))
    (λ h.
    let same = key_cmp-same (add_key f) (add_key g) h in
    let predicate : f.predicate ≡ g.predicate = ap (λ (k : Key). k.pattern.predicate) same in
    let args : f.args ≡ g.args = same-elements f.args g.args (ap (λ (k : Key). k.pattern.places) same) in
    let facts : f ≡ g = (λ i. record { predicate = predicate i; args = args i }) in
    subst (λ (x : Fact). is_eq (fact_cmp f x) ≡ true) facts (fact_itself f))
    (λ h. subst (λ (x : Fact). is_eq (key_cmp (add_key f) (add_key x)) ≡ true) (same_fact f g h)
    (key_cmp-itself (add_key f)))

-- a test of one and one of the other list may be asked in either order
any-swap : {X Y : Type 0} (r : X → Y → Bool) (xs : List X) (ys : List Y) →
    list_any (λ y. list_any (λ x. r x y) xs) ys ≡ list_any (λ x. list_any (λ y. r x y) ys) xs
any-swap r xs ys = same_bool _ _
    (λ h.
    let g = found (λ y. list_any (λ x. r x y) xs) ys h in
    let k = found (λ x. r x g.one) xs g.passes in
    any_from (λ x. list_any (λ y. r x y) ys) xs k.one k.member (any_from (λ y. r k.one y) ys g.one g.member k.passes))
    (λ h.
    let g = found (λ x. list_any (λ y. r x y) ys) xs h in
    let k = found (λ y. r g.one y) ys g.passes in
    any_from (λ y. list_any (λ x. r x y) xs) ys k.one k.member (any_from (λ x. r x k.one) xs g.one g.member k.passes))

module _ (s : Specification) (f : Fact) (t : Tx) where
  -- an effect has the key of the fact's adds exactly where it gives the fact
  gives-keyed : (e : Effect) → is_eq (key_cmp (key_of s t.args e) (add_key f)) ≡ gives s t.args f e
  gives-keyed e = by_kind e.add
    where
      by_kind : (b : Bool) →
          is_eq (key_cmp (cond b (add_key (fact_given s t.args e))
          (record { adds = false; pattern = removed_pattern s t.args e })) (add_key f))
          ≡ (b && is_eq (fact_cmp (fact_given s t.args e) f))
      by_kind true = add_key-fact (fact_given s t.args e) f
      by_kind false = refl

  -- so a transaction adds the fact exactly where it has that key
  pub adds-keyed : has_key s (add_key f) t ≡ adds_fact s f t
  adds-keyed = ap (λ (p : Effect → Bool). list_any p (effects_of s t.action)) (λ i e. gives-keyed e i)

-- three steps that gather the choices of places
gather-last : (b x y m n r : Bool) →
    ((b && (x && (y && (m && true)))) || ((b && (x && (y && (n && true)))) || r)) ≡ ((b && (x && (y && (m || n)))) || r)
gather-last false x y m n r = refl
gather-last true false y m n r = refl
gather-last true true false m n r = refl
gather-last true true true true n r = refl
gather-last true true true false true r = refl
gather-last true true true false false r = refl

gather-middle : (b x m n w r : Bool) →
    ((b && (x && (m && w))) || ((b && (x && (n && w))) || r)) ≡ ((b && (x && ((m || n) && w))) || r)
gather-middle false x m n w r = refl
gather-middle true false m n w r = refl
gather-middle true true true true true r = refl
gather-middle true true true true false r = refl
gather-middle true true true false true r = refl
gather-middle true true true false false r = refl
gather-middle true true false n w r = refl

gather-first : (b m n v : Bool) → ((b && (m && v)) || ((b && (n && v)) || false)) ≡ (b && ((m || n) && v))
gather-first false m n v = refl
gather-first true true true true = refl
gather-first true true true false = refl
gather-first true true false true = refl
gather-first true true false false = refl
gather-first true false true true = refl
gather-first true false true false = refl
gather-first true false false v = refl

gathered : (b x y z : Bool) → (b && (x && (y && z))) ≡ (((b && x) && y) && z)
gathered false x y z = refl
gathered true false y z = refl
gathered true true y z = refl

-- an element matches in a place, or any does
either-place : (x : Option ℕ) (n : ℕ) → (option_eq (λ a b. a == b) x (Some n) || option_eq (λ a b. a == b) x None)
    ≡ option_map_or (λ m. m == n) x true
either-place None n = refl
either-place (Some m) n = or-false (m == n)

module _ (f : Fact) (p : ℕ) (x y z : Option ℕ) where
  abbrev choice : Option ℕ → Option ℕ → Option ℕ → Bool
  choice a b c = (p == f.predicate) && (option_eq (λ a b. a == b) x a && (option_eq (λ a b. a == b) y b
      && (option_eq (λ a b. a == b) z c && true)))

  abbrev first : Option ℕ
  first = Some (slice_index f.args 0)

  abbrev second : Option ℕ
  second = Some (slice_index f.args 1)

  abbrev third : Option ℕ
  third = Some (slice_index f.args 2)

  abbrev ends : Option ℕ → Option ℕ → Bool
  ends a b = (p == f.predicate) && (option_eq (λ a b. a == b) x a && (option_eq (λ a b. a == b) y b
      && (option_eq (λ a b. a == b) z third || option_eq (λ a b. a == b) z None)))

  abbrev middles : Option ℕ → Bool
  middles a = (p == f.predicate) && (option_eq (λ a b. a == b) x a
      && ((option_eq (λ a b. a == b) y second || option_eq (λ a b. a == b) y None)
      && (option_eq (λ a b. a == b) z third || option_eq (λ a b. a == b) z None)))

  by-ends : (a b : Option ℕ) (r : Bool) → (choice a b third || (choice a b None || r)) ≡ (ends a b || r)
  by-ends a b r = gather-last (p == f.predicate) (option_eq (λ a b. a == b) x a) (option_eq (λ a b. a == b) y b)
      (option_eq (λ a b. a == b) z third) (option_eq (λ a b. a == b) z None) r

  by-middles : (a : Option ℕ) (r : Bool) → (ends a second || (ends a None || r)) ≡ (middles a || r)
  by-middles a r = gather-middle (p == f.predicate) (option_eq (λ a b. a == b) x a)
      (option_eq (λ a b. a == b) y second) (option_eq (λ a b. a == b) y None)
      (option_eq (λ a b. a == b) z third || option_eq (λ a b. a == b) z None) r

  four : (a : Option ℕ) (r : Bool) →
      (choice a second third || (choice a second None || (choice a None third || (choice a None None || r))))
      ≡ (middles a || r)
  four a r = by-ends a second (choice a None third || (choice a None None || r))
      ∙ (ap (λ (b : Bool). ends a second || b) (by-ends a None r) ∙ by-middles a r)

  -- a choice of places fits exactly where each place does
  fits : (choice first second third || (choice first second None || (choice first None third || (choice first None None
      || (choice None second third ||
      (choice None second None || (choice None None third || (choice None None None || false))))))))
      ≡ ((((p == f.predicate) && option_map_or (λ m. m == slice_index f.args 0) x true)
      && option_map_or (λ m. m == slice_index f.args 1) y true) && option_map_or (λ m. m == slice_index f.args 2) z
      true)
  fits = four first (choice None second third ||
      (choice None second None || (choice None None third || (choice None None None || false))))
      ∙ (ap (λ (b : Bool). middles first || b) (four None false)
      ∙ (gather-first (p == f.predicate) (option_eq (λ a b. a == b) x first) (option_eq (λ a b. a == b) x None)
      ((option_eq (λ a b. a == b) y second || option_eq (λ a b. a == b) y None)
      && (option_eq (λ a b. a == b) z third || option_eq (λ a b. a == b) z None))
      ∙ (gathered (p == f.predicate) (option_eq (λ a b. a == b) x first || option_eq (λ a b. a == b) x None)
      (option_eq (λ a b. a == b) y second || option_eq (λ a b. a == b) y None)
      (option_eq (λ a b. a == b) z third || option_eq (λ a b. a == b) z None)
      ∙ (λ i. (((p == f.predicate) && either-place x (slice_index f.args 0) i)
      && either-place y (slice_index f.args 1) i) && either-place z (slice_index f.args 2) i))))

module _ (s : Specification) (f : Fact) (t : Tx) where
  -- the key of an effect that adds, or does not
  abbrev key_by : Effect → Bool → Key
  key_by e b = cond b (add_key (fact_given s t.args e)) (record { adds = false; pattern = removed_pattern s t.args e })

  -- an effect has one of the keys of the removes that match the fact exactly where it is a remove that does
  takes-one : (e : Effect) → list_any (λ k. is_eq (key_cmp (key_of s t.args e) k)) (remove_keys f) ≡ takes s t.args f e
  takes-one e = by_kind e.add
    where
      by_kind : (b : Bool) → list_any (λ k. is_eq (key_cmp (key_by e b) k))
          (remove_keys f) ≡ (not b && matches s t.args e f)
      by_kind true = refl
      by_kind false = ap (λ (p : Key → Bool). list_any p (remove_keys f)) (λ i k. key_cmp-eq (key_by e false) k i)
          ∙ fits f e.predicate (stands_for s t.args (arg_at e 0)) (stands_for s t.args (arg_at e 1))
          (stands_for s t.args (arg_at e 2))

  -- so one of a transaction's removes matches the fact exactly where it has one of these keys
  pub takes-keyed : list_any (λ k. has_key s k t) (remove_keys f) ≡ some_takes s (effects_of s t.action) t.args f
  takes-keyed = any-swap (λ (e : Effect) (k : Key). is_eq (key_cmp (key_of s t.args e) k)) (effects_of s t.action)
      (remove_keys f)
      ∙ ap (λ (p : Effect → Bool). list_any p (effects_of s t.action)) (λ i e. takes-one e i)
