-- From the first example on a pattern to the reported example.
--
--   reported, reported-drop   the first example on the first pattern that has one is the reported one
--   no-conflict, no-break     where all patterns are tried, there is none
use Rattle.std.proofs.Common.{◌≡◌, ℕ, List, [], ◌∷◌, Some, sym, subst, slice_get}
use Rattle.ipa_spec.specs.declared.specification.Specification.{Specification}
use Rattle.ipa_spec.specs.declared.bounds.Bound.{Bound}
use Rattle.ipa_spec.specs.declared.clauses.Clause.{Clause}
use Rattle.ipa_spec.specs.declared.operations.Action.{Action}
use Rattle.ipa_ground.specs.declared.patterns.Pattern.{Pattern}
use Rattle.ipa_reduction.specs.Cases.{constant_counts, triple_sorts, IsTriplePattern, ConflictOn, ConflictOnSome, drop_sorts, DropBreaksOn, DropBreaksOnSome}
use Rattle.ipa_pairs.specs.Width.{Triple}
use Rattle.ipa_pairs.specs.Analyses.{triple_of}
use Rattle.ipa_pairs.specs.Examples.{IsFirstExampleOn, IsReportedExample, IsFirstDropExampleOn, IsReportedDrop}
use Rattle.ipa_pairs.specs.Patterned.{classes_of}
use Rattle.ipa_pairs.specs.declared.analysis.Conflict.{Conflict as Example}
use Rattle.ipa_pairs.specs.declared.analysis.UnsafeDrop.{UnsafeDrop}
use Rattle.ipa_pairs.proofs.TriedLemmas.{Tried, IsFirstOf, tried-here, tried-before, tried-all}

-- an example of a triple that is the first on the first pattern that has one
pub reported : (s : Specification) (e : Example) (t : Triple) → triple_of e ≡ t → (c : Clause) → slice_get s.clauses t.clause ≡ Some c → (classes : List ℕ)
    → IsTriplePattern s t.left t.right c classes → IsFirstOf (ConflictOn s t.left t.right c) (constant_counts s) (triple_sorts s t.left t.right c) classes → IsFirstExampleOn s c classes e → IsReportedExample s e
reported s e t same = subst (λ (u : Triple). (c : Clause) → slice_get s.clauses u.clause ≡ Some c → (classes : List ℕ)
    → IsTriplePattern s u.left u.right c classes → IsFirstOf (ConflictOn s u.left u.right c) (constant_counts s) (triple_sorts s u.left u.right c) classes → IsFirstExampleOn s c classes e → IsReportedExample s e) same
    (λ c g classes is first h. record { clause = c; declared = g; classes = classes; is_pattern = is; first_pattern = first.first; first_on = h })

-- the example on the pattern that is next
pub reported-here : (s : Specification) (left right : Action) (number : ℕ) (c : Clause) (p : Pattern) (more : List Pattern) (e : Example) → slice_get s.clauses number ≡ Some c
    → Tried (ConflictOn s left right c) (constant_counts s) (triple_sorts s left right c) (p ∷ more) → IsFirstExampleOn s c (classes_of p) e → triple_of e ≡ record { left = left; right = right; clause = number } → IsReportedExample s e
reported-here s left right number c p more e g h first same =
    reported s e (record { left = left; right = right; clause = number }) same c g (classes_of p)
    (tried-here (ConflictOn s left right c) (constant_counts s) (triple_sorts s left right c) p more h).is_pattern
    (tried-before (ConflictOn s left right c) (constant_counts s) (triple_sorts s left right c) p more h) first

-- where all patterns are tried, the triple is in conflict on none
pub no-conflict : (s : Specification) (left right : Action) (c : Clause) (to_come : List Pattern) → Tried (ConflictOn s left right c) (constant_counts s) (triple_sorts s left right c) to_come → to_come ≡ [] → ConflictOnSome s left right c → ⊥
no-conflict s left right c to_come h e some =
    tried-all (ConflictOn s left right c) (constant_counts s) (triple_sorts s left right c) some.classes (subst (Tried (ConflictOn s left right c) (constant_counts s) (triple_sorts s left right c)) e h) some.is_pattern some.conflict

-- the same for a drop and a clause
pub reported-drop : (s : Specification) (e : UnsafeDrop) (n number : ℕ) → e.bound ≡ n → e.clause ≡ number → (b : Bound) (c : Clause) → slice_get s.bounds n ≡ Some b → slice_get s.clauses number ≡ Some c → (p : Pattern) (more : List Pattern)
    → Tried (DropBreaksOn s n b c) (constant_counts s) (drop_sorts s n c) (p ∷ more) → IsFirstDropExampleOn s b c (classes_of p) e → IsReportedDrop s e
reported-drop s e n number n_is number_is b c declared g p more h first =
    let tried : Tried (DropBreaksOn s e.bound b c) (constant_counts s) (drop_sorts s e.bound c) (p ∷ more) = subst (λ (m : ℕ). Tried (DropBreaksOn s m b c) (constant_counts s) (drop_sorts s m c) (p ∷ more)) (sym n_is) h in
    record {
      bound = b;
      bound_declared = subst (λ (m : ℕ). slice_get s.bounds m ≡ Some b) (sym n_is) declared;
      clause = c;
      clause_declared = subst (λ (m : ℕ). slice_get s.clauses m ≡ Some c) (sym number_is) g;
      classes = classes_of p;
      is_pattern = (tried-here (DropBreaksOn s e.bound b c) (constant_counts s) (drop_sorts s e.bound c) p more tried).is_pattern;
      first_pattern = (tried-before (DropBreaksOn s e.bound b c) (constant_counts s) (drop_sorts s e.bound c) p more tried).first;
      first_on = first;
    }

pub no-break : (s : Specification) (n : ℕ) (b : Bound) (c : Clause) (to_come : List Pattern) → Tried (DropBreaksOn s n b c) (constant_counts s) (drop_sorts s n c) to_come → to_come ≡ [] → DropBreaksOnSome s n b c → ⊥
no-break s n b c to_come h e some =
    tried-all (DropBreaksOn s n b c) (constant_counts s) (drop_sorts s n c) some.classes (subst (Tried (DropBreaksOn s n b c) (constant_counts s) (drop_sorts s n c)) e h) some.is_pattern some.breaks
