-- What all conflicts of a specification tell of its actions and clauses.
--
--   Law s             conflicts on patterns are conflicts
--   All-at            what holds of all holds of the one in a place
--   found_at          where a test passes for one, it stands in a place
--   same_action-true, same_action-same   the test that two actions are the same
--   listed_conflict   an example is of a conflict
--   triples_more      the triples of one more example
--   clashes-from_report   the triples of all examples are those in conflict
--   told_on           whether two actions conflict on a clause, in this order
--   told_pair-first, told_pair-second       whether they do on some clause, in some order
--   told_clause-first, told_clause-second   whether they do on this clause, in some order
--   narrow_refused    no triple is too wide where none is
use Rattle.std.proofs.Common.{◌≡◌, ◌==◌, ℕ, Bool, true, false, ◌||◌, ◌&&◌, ◌+◌, ◌<◌, List, [], ◌∷◌, ◌++◌, map, take, length, get_or, Some, MatchBool, refl, sym, ap, ◌∙◌, subst, inl, inr, zero, suc}
use Rattle.std.specs.List.{All, list_any, slice_get}
use Rattle.std.proofs.lemmas.Bool.{and_parts, and_from, false≢true, eqb-true, eq-eqb}
use Rattle.std.proofs.lemmas.Option.{same_Some, slice_get_within, get_or_from_slice_get}
use Rattle.std.proofs.lemmas.List.{map_more}
use Rattle.std.proofs.lemmas.List.Elements.{All-get_or}
use Rattle.ipa_spec.specs.Actions.{IsAction}
use Rattle.ipa_spec.specs.FoundLaws.{list_any-false}
use Rattle.ipa_spec.specs.declared.specification.Specification.{Specification}
use Rattle.ipa_spec.specs.declared.clauses.Clause.{Clause}
use Rattle.ipa_spec.specs.declared.operations.Action.{Action}
use Rattle.ipa_spec.specs.declared.operations.Action.TheVariants.{Op, Drop}
use Rattle.ipa_logic.specs.Conflicts.{Conflict}
use Rattle.ipa_reduction.specs.Cases.{ConflictOn}
use Rattle.ipa_ground.specs.Enumeration.{IsListed}
use Rattle.ipa_ground.specs.ListLaws.{Listed-map}
use Rattle.ipa_pairs.specs.Width.{Triple, IsDeclared, IsNarrow}
use Rattle.ipa_pairs.specs.Triples.{triple}
use Rattle.ipa_pairs.specs.Examples.{IsReportedExample}
use Rattle.ipa_pairs.specs.Analyses.{triple_of, AreReported, IsAcceptFault}
use Rattle.ipa_pairs.specs.declared.analysis.Conflict.{Conflict as Example}
use Rattle.ipa_pairs.specs.declared.analysis.AcceptFault.{AcceptFault}
use Rattle.ipa_pairs.specs.declared.analysis.AcceptFault.TheVariants as refused
use Rattle.ipa_repair.specs.Candidates.{same_action, Clashes}
use Rattle.ipa_repair.specs.Showing.{clash, clash_of, IsClash, AreClashes, is_of, is_on}
use Rattle.ipa_repair.specs.Greedy.{pair, PairConflicts}
use Rattle.ipa_repair.specs.declared.clashes.Clash.{Clash}

-- what holds of all holds of the one in a place
pub All-at : {X : Type 0} (P : X → Type 0) (xs : List X) → All P xs → (k : ℕ) (x : X) → slice_get xs k ≡ Some x → P x
All-at P xs all k x e =
    subst P (get_or_from_slice_get xs k x x e) (All-get_or P xs k x (slice_get_within xs k x e) all)

-- an item for which the test passes
record FoundAt {X : Type 0} (p : X → Bool) (xs : List X) : Type 0 where
  place : ℕ
  item : X
  there : slice_get xs place ≡ Some item
  passes : p item ≡ true

found_at : {X : Type 0} (p : X → Bool) (xs : List X) → list_any p xs ≡ true → FoundAt p xs
found_at p [] h = cc
found_at p (x ∷ xs) h = step (p x) refl (found_at p xs) h
  where
    step : (b : Bool) → p x ≡ b → (list_any p xs ≡ true → FoundAt p xs) → (b || list_any p xs) ≡ true → FoundAt p (x ∷ xs)
    step true e rest h = record { place = 0; item = x; there = refl; passes = e }
    step false e rest h =
        let later = rest h in
        record { place = suc later.place; item = later.item; there = later.there; passes = later.passes }

pub same_action-true : (a b : Action) → same_action a b ≡ true → a ≡ b
same_action-true (Op m) (Op n) h = ap (λ k. Op k) (eqb-true m n h)
same_action-true (Drop m) (Drop n) h = ap (λ k. Drop k) (eqb-true m n h)
same_action-true (Op m) (Drop n) h = cc
same_action-true (Drop m) (Op n) h = cc

same_action-same : (a : Action) → same_action a a ≡ true
same_action-same (Op m) = eq-eqb m m refl
same_action-same (Drop m) = eq-eqb m m refl

-- two actions conflict on some clause
record SomeConflict (s : Specification) (left right : Action) : Type 0 where
  clause : ℕ
  conflict : Conflict s left right clause

shown_pair : (s : Specification) (cs : List Clash) → AreClashes s cs → (left right : Action) → list_any (is_of left right) cs ≡ true → SomeConflict s left right
shown_pair s cs a left right h =
    let f = found_at (is_of left right) cs h in
    let parts = and_parts (same_action f.item.left left) (same_action f.item.right right) f.passes in
    let same : f.item ≡ clash left right f.item.clause =
    λ i. clash (same_action-true f.item.left left parts.0 i) (same_action-true f.item.right right parts.1 i) f.item.clause in
    record { clause = f.item.clause; conflict = subst (IsClash s) same (a.each f.place f.item f.there) }

unshown_pair : (s : Specification) (cs : List Clash) → AreClashes s cs → (left right : Action) (k : ℕ) → list_any (is_of left right) cs ≡ false → Conflict s left right k → ⊥
unshown_pair s cs a left right k e h =
    let o = a.complete left right k h in
    let no = list_any-false (is_of left right) cs e o.place (clash left right k) o.there in
    let yes = and_from (same_action left left) (same_action right right) (same_action-same left) (same_action-same right) in
    false≢true (sym no ∙ yes)

-- what stands in a place of a mapped list
record MappedAt {X Y : Type 0} (f : X → Y) (xs : List X) (k : ℕ) (y : Y) : Type 0 where
  from : X
  there : slice_get xs k ≡ Some from
  is : f from ≡ y

mapped_at : {X Y : Type 0} (f : X → Y) (xs : List X) (k : ℕ) (y : Y) → slice_get (map f xs) k ≡ Some y → MappedAt f xs k y
mapped_at f [] k y e = cc
mapped_at f (x ∷ xs) zero y e = record { from = x; there = refl; is = same_Some (f x) y e }
mapped_at f (x ∷ xs) (suc k) y e =
    let m = mapped_at f xs k y e in
    record { from = m.from; there = m.there; is = m.is }

-- the triples of the examples so far, and of the next one
pub triples_more : (es : List Example) (cs next : List Clash) (x : Clash) (i : ℕ) (d : Example) → i < length es → next ≡ cs ++ x ∷ [] →
    x ≡ clash_of (get_or es i d) → cs ≡ map clash_of (take i es) → next ≡ map clash_of (take (i + 1) es)
triples_more es cs next x i d l e f h = e ∙ ((λ j. h j ++ f j ∷ []) ∙ sym (map_more clash_of es i d l))

-- conflicts on patterns are conflicts
abbrev pub Law : Specification → Type 0
Law s = (left right : Action) (k : ℕ) (c : Clause) (classes : List ℕ) → IsAction s left → IsAction s right →
    slice_get s.clauses k ≡ Some c → ConflictOn s left right c classes → Conflict s left right k

module _ (s : Specification) (law : Law s) where
  -- an example is of a conflict
  listed_conflict : (Q : Triple → Type 0) (es : List Example) → AreReported s Q es → ((t : Triple) → Q t → IsDeclared s t) →
      (place : ℕ) (e : Example) → slice_get es place ≡ Some e → Conflict s e.left e.right e.clause
  listed_conflict Q es a declared place e there =
      let of = All-at (λ x. IsReportedExample s x × Q (triple_of x)) es a.each place e there in
      let d = declared (triple_of e) of.1 in
      law e.left e.right e.clause of.0.clause of.0.classes d.left d.right of.0.declared
      (record { place = e.lost; after_left = e.after_left; after_right = e.after_right; conflict = of.0.first_on.example.shows })

  conflict_declared : (left right : Action) (k : ℕ) → Conflict s left right k → IsDeclared s (triple left right k)
  conflict_declared left right k h = record {
    left = h.left_declared;
    right = h.right_declared;
    clause = slice_get_within s.clauses k h.clause h.declared;
  }

  -- the triples of all examples are those in conflict
  pub clashes-from_report : (es : List Example) (cs : List Clash) → cs ≡ map clash_of es → AreReported s (IsDeclared s) es → AreClashes s cs
  clashes-from_report es cs is a = subst (AreClashes s) (sym is) (record {
    each = λ k c e.
        let m = mapped_at clash_of es k c e in
        subst (IsClash s) m.is (listed_conflict (IsDeclared s) es a (λ t d. d) k m.from m.there);
    complete = λ left right k h.
        let o = a.complete (triple left right k) (conflict_declared left right k h) h in
        subst (λ (t : Triple). IsListed (map clash_of es) (clash t.left t.right t.clause)) o.is (Listed-map clash_of es o.example o.listed);
  })

module _ (s : Specification) (cs : List Clash) (a : AreClashes s cs) where
  -- two actions conflict on a clause where a triple is of them
  pub told_on : (left right : Action) (k : ℕ) (b : Bool) → b ≡ list_any (is_on left right k) cs →
      MatchBool b (Conflict s left right k) (Conflict s left right k → ⊥)
  told_on left right k true e =
      let f = found_at (is_on left right k) cs (sym e) in
      let both = and_parts (is_of left right f.item) (f.item.clause == k) f.passes in
      let parts = and_parts (same_action f.item.left left) (same_action f.item.right right) both.0 in
      let same : f.item ≡ clash left right k =
      λ i. clash (same_action-true f.item.left left parts.0 i) (same_action-true f.item.right right parts.1 i)
      (eqb-true f.item.clause k both.1 i) in
      subst (IsClash s) same (a.each f.place f.item f.there)
  told_on left right k false e = λ h.
      let o = a.complete left right k h in
      let no = list_any-false (is_on left right k) cs (sym e) o.place (clash left right k) o.there in
      let yes =
      and_from (same_action left left && same_action right right) (k == k)
      (and_from (same_action left left) (same_action right right) (same_action-same left) (same_action-same right)) (eq-eqb k k refl) in
      false≢true (sym no ∙ yes)

  -- two actions conflict on some clause, in some order
  pub told_pair-first : (left right : Action) → list_any (is_of left right) cs ≡ true → PairConflicts s (pair left right)
  told_pair-first left right h = let some = shown_pair s cs a left right h in record { clause = some.clause; clashes = inl some.conflict }

  pub told_pair-second : (left right : Action) (b : Bool) → list_any (is_of left right) cs ≡ false → b ≡ list_any (is_of right left) cs →
      MatchBool b (PairConflicts s (pair left right)) (PairConflicts s (pair left right) → ⊥)
  told_pair-second left right true e f = let some = shown_pair s cs a right left (sym f) in record { clause = some.clause; clashes = inr some.conflict }
  told_pair-second left right false e f = λ h. elim h.clashes as (λ _. ⊥) [
    | inl forth ↦ unshown_pair s cs a left right h.clause e forth
    | inr back ↦ unshown_pair s cs a right left h.clause (sym f) back
  ]

-- the same on a clause
pub told_clause-first : (s : Specification) (left right : Action) (k : ℕ) → Conflict s left right k → Clashes s left right k
told_clause-first s left right k h = inl h

pub told_clause-second : (s : Specification) (left right : Action) (k : ℕ) (b : Bool) → (Conflict s left right k → ⊥) →
    MatchBool b (Conflict s right left k) (Conflict s right left k → ⊥) → MatchBool b (Clashes s left right k) (Clashes s left right k → ⊥)
told_clause-second s left right k true none h = inr h
told_clause-second s left right k false none h = λ c. elim c as (λ _. ⊥) [ inl forth ↦ none forth | inr back ↦ h back ]

-- no triple is too wide where none is
pub narrow_refused : (s next : Specification) (l r : Action) (k n : ℕ) (fault : AcceptFault) → fault ≡ refused.TooWide l r k n →
    next ≡ s → IsAcceptFault next fault → IsNarrow s (IsDeclared s) → ⊥
narrow_refused s next l r k n fault e same h narrow =
    let wide = subst (λ x. IsAcceptFault x (refused.TooWide l r k n)) same (subst (IsAcceptFault next) e h) in
    narrow.narrow (triple l r k) wide.in_question wide.too_wide
