-- Lemmas on a formula that grows: its clauses by their places, and the steps that they are.
use Rattle.std.proofs.Common.{◌≡◌, ◌<◌, ◌+◌, ◌++◌, ◌∙◌, ℕ, List, [], ◌∷◌, Bool, Some, All, length, suc, zero, drop, sym, ap, subst, arith, append_assoc, add-one}
use Rattle.std.proofs.lemmas.List.{map-append}
use Rattle.std.proofs.lemmas.List.Elements.{All-append, All-from_recursion}
use Rattle.std.specs.List.{slice_get}
use Rattle.ipa_sat.specs.declared.cnf.Lit.{Lit}
use Rattle.ipa_sat.specs.declared.refutation.Step.{Step}
use Rattle.ipa_sat.specs.Formula.{Formula, IsInRange, IsFalseAt}
use Rattle.ipa_sat.specs.Refutation.{clauses_of}
use Rattle.ipa_sat.proofs.Grown.{slice_get-front}
use Rattle.ipa_sat.proofs.Jumping.{drop_get}

slice_get-append_at : {X : Type 0} → (xs ys : List X) (j k : ℕ) → j ≡ length xs + k → slice_get (xs ++ ys) j ≡ slice_get ys k
slice_get-append_at [] ys j k e = ap (slice_get ys) (omega (arith, e))
slice_get-append_at (x ∷ xs) ys zero k e = absurd (omega (arith, e))
slice_get-append_at (x ∷ xs) ys (suc j) k e = slice_get-append_at xs ys j k (omega (arith, e))

-- a false clause among the first clauses, and among those behind them
pub IsFalseAt-front : (f : Formula) (ys : List (List Lit)) (a : List Bool) (k : ℕ) → IsFalseAt f a k → IsFalseAt (record { vars = f.vars; clauses = f.clauses ++ ys }) a k
IsFalseAt-front f ys a k h = record { clause = h.clause; at = slice_get-front f.clauses ys k h.clause h.at; fails = h.fails }

pub IsFalseAt-back : (f g : Formula) (a : List Bool) (n k : ℕ) → n ≡ length f.clauses → IsFalseAt g a k → IsFalseAt (record { vars = f.vars; clauses = f.clauses ++ g.clauses }) a (n + k)
IsFalseAt-back f g a n k e h = record {
  clause = h.clause;
  at = slice_get-append_at f.clauses g.clauses (n + k) k (ap (λ (i : ℕ). i + k) e) ∙ h.at;
  fails = h.fails;
}

-- the steps so far are the clauses from a place on up to another
pub record StepsSoFar (n : ℕ) (cs : List (List Lit)) (from at : ℕ) (steps : List Step) : Type 0 where
  pub parts : clauses_of steps ++ drop at cs ≡ drop from cs
  pub in_range : IsInRange n (clauses_of steps)

in_range-push : (n : ℕ) (steps : List Step) (s : Step) → IsInRange n (clauses_of steps) → All (λ l. l.var < n) s.lits → IsInRange n (clauses_of (steps ++ s ∷ []))
in_range-push n steps s h k =
    subst (λ (u : List (List Lit)). IsInRange n u) (sym (map-append (λ (x : Step). x.lits) steps (s ∷ [])))
    (All-append (λ c. All (λ l. l.var < n) c) (clauses_of steps) (s.lits ∷ []) h (All-from_recursion (λ c. All (λ l. l.var < n) c) (s.lits ∷ []) (k, tt)))

pub StepsSoFar-more : (n : ℕ) (cs : List (List Lit)) (from at : ℕ) (steps new : List Step) (s : Step) (c : List Lit) → StepsSoFar n cs from at steps
    → slice_get cs at ≡ Some c → s.lits ≡ c → All (λ l. l.var < n) c → new ≡ steps ++ s ∷ [] → StepsSoFar n cs from (at + 1) new
StepsSoFar-more n cs from at steps new s c w e is h more =
    subst (λ (u : List Step). StepsSoFar n cs from (at + 1) u) (sym more) (record {
      parts = ap (λ (u : List (List Lit)). u ++ drop (at + 1) cs) (map-append (λ (x : Step). x.lits) steps (s ∷ []))
          ∙ append_assoc (clauses_of steps) (s.lits ∷ []) (drop (at + 1) cs)
          ∙ ap (λ (x : List Lit). clauses_of steps ++ x ∷ drop (at + 1) cs) is
          ∙ ap (λ (k : ℕ). clauses_of steps ++ c ∷ drop k cs) (add-one at)
          ∙ ap (λ (u : List (List Lit)). clauses_of steps ++ u) (sym (drop_get cs at c e))
          ∙ w.parts;
      in_range = in_range-push n steps s w.in_range (subst (λ (x : List Lit). All (λ l. l.var < n) x) (sym is) h);
    })
