-- Lemmas on learning.
use Rattle.std.proofs.Common.{◌≡◌, ◌<◌, ◌++◌, ◌||◌, ◌∙◌, ℕ, List, [], ◌∷◌, Bool, true, Option, Some, None, All, length, refl, sym, ap, subst, inl, inr}
use Rattle.std.proofs.lemmas.Bool.{false≢true, and_parts, or_cases}
use Rattle.std.proofs.lemmas.List.Elements.{All-from_recursion}
use Rattle.std.specs.List.{slice_get, AllByRecursion}
use Rattle.ipa_sat.specs.declared.cnf.Lit.{Lit}
use Rattle.ipa_sat.specs.declared.trail.Taken.{Taken}
use Rattle.ipa_sat.specs.declared.explain.Learned.{Learned}
use Rattle.ipa_sat.specs.Formula.{Formula}
use Rattle.ipa_sat.specs.Trail.{Course, implied, known, EachStep, IsNew}
use Rattle.ipa_sat.specs.Refutation.{is_same}
use Rattle.ipa_sat.specs.Looking.{falsifies, is_false, are_false_but}
use Rattle.ipa_sat.specs.Explaining.{IsLearned}
use Rattle.ipa_sat.specs.Search.{IsReasoned}
use Rattle.ipa_sat.specs.Learning.{GrowsTo, Learns}
use Rattle.ipa_sat.proofs.Literals.{same_lit}
use Rattle.ipa_sat.proofs.Steps.{Gives, known_given}
use Rattle.ipa_sat.proofs.Soundness.{IsReasoned-push, IsReasoned-cut}
use Rattle.ipa_sat.proofs.Progressing.{room_left-jump}
use Rattle.ipa_sat.proofs.Grown.{slice_get-last, GrowsTo-one, IsReasoned-grown}

-- the literals of a clause that is false but for one are of the variables
pub in_range-false : (n : ℕ) (t : List Taken) (l : Lit) (c : List Lit) → EachStep (IsNew n) t → l.var < n → are_false_but t l c ≡ true → AllByRecursion (λ m. m.var < n) c
in_range-false n t l [] new k h = tt
in_range-false n t l (m ∷ c) new k h =
    let parts = and_parts (is_same l m || is_false t m) (are_false_but t l c) h in (
      elim (or_cases (is_same l m) (is_false t m) parts.0) [
        | inl e ↦ subst (λ (x : Lit). x.var < n) (same_lit l m e) k
        | inr d ↦ go (known t m.var) refl d
      ],
      in_range-false n t l c new k parts.1,
    )
  where
    go : (o : Option Bool) → known t m.var ≡ o → falsifies o m.positive ≡ true → m.var < n
    go None e k = absurd (false≢true k)
    go (Some x) e k = let g : Gives t m.var x = known_given t m.var x e in subst (λ (v : ℕ). v < n) g.var (new.each g.before g.step g.after g.place).in_range

-- a clause was learned
pub Learns-learned : (f g : Formula) (old now new : Course) (learned : Learned) (k : ℕ) → IsReasoned f old → IsLearned f.clauses old now learned
    → g ≡ record f { clauses = f.clauses ++ learned.clause.items ∷ [] } → k ≡ length f.clauses
    → new ≡ record now { steps = now.steps ++ implied learned.lit k ∷ [] } → Learns f g old new
Learns-learned f g old now new learned k r l e at ne =
    let w : GrowsTo f g = GrowsTo-one f g learned.clause.items e l.follows in
    let grown : IsReasoned g now = IsReasoned-grown f g now w (IsReasoned-cut f old now (l.decision ∷ l.rest) r l.vars l.steps) in
    let place : slice_get g.clauses k ≡ Some learned.clause.items = ap (λ (x : Formula). slice_get x.clauses k) e ∙ ap (λ (j : ℕ). slice_get (f.clauses ++ learned.clause.items ∷ []) j) at ∙ slice_get-last f.clauses learned.clause.items in record {
      grows = w;
      reasoned = subst (λ (x : Course). IsReasoned g x) (sym ne) (IsReasoned-push g now k learned.clause.items learned.lit grown place l.forced);
      less = rw (ne, l.steps) (room_left-jump f.vars now.steps l.decision l.rest (implied learned.lit k) l.decided refl);
    }

pub learned_range : (f : Formula) (old now : Course) (learned : Learned) → IsReasoned f old → IsLearned f.clauses old now learned → All (λ m. m.var < f.vars) learned.clause.items
learned_range f old now learned r l =
    subst (λ (n : ℕ). All (λ m. m.var < n) learned.clause.items) (l.vars ∙ r.sound.vars)
    (All-from_recursion (λ m. m.var < now.vars) learned.clause.items (in_range-false now.vars now.steps learned.lit learned.clause.items l.new l.in_range l.forced))
