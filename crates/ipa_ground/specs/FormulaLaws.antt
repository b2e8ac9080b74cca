-- Formulas with one clause more.
--
--   with_clause f lits   the formula f with one clause more
--   satisfies-more       what satisfies f and makes the clause true satisfies both together
--   satisfies-less, satisfies-last   and the other way round
use Rattle.std.proofs.Common.{◌≡◌, Bool, true, List, [], ◌∷◌, ◌++◌, length, refl, subst, arith}
use Rattle.std.proofs.lemmas.List.{get_or_append_left, get_or_push, length_push}
use Rattle.std.proofs.lemmas.List.Elements.{All-push}
use Rattle.ipa_sat.specs.Formula.{Formula, Satisfies, clause_true}
use Rattle.ipa_sat.specs.declared.cnf.Lit.{Lit}

-- a formula with one clause more
abbrev pub with_clause : Formula → List Lit → Formula
with_clause f lits = record f { clauses = f.clauses ++ lits ∷ [] }

-- what satisfies a formula and one clause more satisfies both, and the other way round
pub satisfies-more : (f : Formula) (lits : List Lit) (a : List Bool) → Satisfies f a → clause_true a lits ≡ true → Satisfies (with_clause f lits) a
satisfies-more f lits a h t = record { total = h.total; clauses = All-push (λ c. clause_true a c ≡ true) f.clauses lits h.clauses t }

pub satisfies-less : (f : Formula) (lits : List Lit) (a : List Bool) → Satisfies (with_clause f lits) a → Satisfies f a
satisfies-less f lits a h = record {
  total = h.total;
  clauses = λ k d l. subst (λ (c : List Lit). clause_true a c ≡ true) (get_or_append_left f.clauses (lits ∷ []) d k l) (h.clauses k d (omega (arith, length_push f.clauses lits)));
}

pub satisfies-last : (f : Formula) (lits : List Lit) (a : List Bool) → Satisfies (with_clause f lits) a → clause_true a lits ≡ true
satisfies-last f lits a h =
    subst (λ (c : List Lit). clause_true a c ≡ true) (get_or_push f.clauses lits [] (length f.clauses) refl) (h.clauses (length f.clauses) [] (omega (arith, length_push f.clauses lits)))
