-- Lemmas on sound courses: what satisfies the formula and keeps the decided literals has every value that the
-- steps give, so what a clause says under these values follows.
use Rattle.std.proofs.Common.{◌≡◌, ◌++◌, ◌||◌, ◌∙◌, ℕ, List, [], ◌∷◌, Bool, true, false, not, Some, refl, sym, ap, subst, append_assoc}
use Rattle.std.proofs.lemmas.Bool.{false≢true, and_parts}
use Rattle.std.proofs.lemmas.List.Folds.{list_all-append}
use Rattle.std.proofs.lemmas.List.{append-nil}
use Rattle.std.proofs.lemmas.Option.{slice_get_within, get_or_from_slice_get}
use Rattle.std.specs.List.{slice_get}
use Rattle.ipa_sat.specs.declared.cnf.Lit.{Lit}
use Rattle.ipa_sat.specs.declared.trail.Taken.{Taken}
use Rattle.ipa_sat.specs.Formula.{Formula, Satisfies, value, literal_true, clause_true}
use Rattle.ipa_sat.specs.Trail.{Course, implied, EachStep, AgreesWith}
use Rattle.ipa_sat.specs.Looking.{are_false_but}
use Rattle.ipa_sat.specs.Explaining.{HasReason}
use Rattle.ipa_sat.specs.Search.{keeps_step, keeps, Entails, IsStep, IsSound, IsReasoned, Follows}
use Rattle.ipa_sat.proofs.Steps.{EachStep-none, EachStep-push, EachStep-prefix, Gives, known_given}
use Rattle.ipa_sat.proofs.Looking.{true_sign, forced_true}

-- what keeps the decided literals keeps those of a front, and the next one
pub keeps_front : (b : List Bool) (t before rest : List Taken) → t ≡ before ++ rest → keeps b t ≡ true → keeps b before ≡ true
keeps_front b t before rest e h = (and_parts (keeps b before) (keeps b rest) (sym (list_all-append (keeps_step b) before rest) ∙ ap (keeps b) (sym e) ∙ h)).0

pub keeps_next : (b : List Bool) (t before : List Taken) (s : Taken) (after : List Taken) → t ≡ before ++ s ∷ after → keeps b t ≡ true → keeps_step b s ≡ true
keeps_next b t before s after e h = (and_parts (keeps_step b s) (keeps b after) ((and_parts (keeps b before) (keeps b (s ∷ after)) (sym (list_all-append (keeps_step b) before (s ∷ after)) ∙ ap (keeps b) (sym e) ∙ h)).1)).0

-- a step's literal is true where the decided ones up to it are
step_holds : (f : Formula) (before : List Taken) (l : Lit) (d : Bool) (b : List Bool) → Satisfies f b → (d ≡ false → Entails f before l) → keeps b before ≡ true → (not d || literal_true b l) ≡ true → literal_true b l ≡ true
step_holds f before l true b s e k h = h
step_holds f before l false b s e k h = (e refl).holds b s k

-- whatever satisfies the formula and keeps the decided literals has each value that the steps give
pub agrees : (f : Formula) (t : List Taken) (b : List Bool) → EachStep (IsStep f) t → Satisfies f b → keeps b t ≡ true → AgreesWith t b
agrees f t b sound s k = record {
  at = λ v x h.
      let g : Gives t v x = known_given t v x h in
      let step : IsStep f g.before g.step = sound.each g.before g.step g.after g.place in
      let holds : literal_true b g.step.lit ≡ true = step_holds f g.before g.step.lit g.step.decided b s step.entailed
      (keeps_front b t g.before (g.step ∷ g.after) g.place k) (keeps_next b t g.before g.step g.after g.place k) in
      ap (value b) (sym g.var) ∙ true_sign g.step.lit.positive (value b g.step.lit.var) holds ∙ g.sign;
}

-- what satisfies more clauses satisfies the first of them, each by its place
pub clause_at : (f : Formula) (b : List Bool) → Satisfies f b → (k : ℕ) (c : List Lit) → slice_get f.clauses k ≡ Some c → clause_true b c ≡ true
clause_at f b s k c e = rw (get_or_from_slice_get f.clauses k c c e) at (s.clauses k c (slice_get_within f.clauses k c e))

-- a clause's only open literal is entailed
Entails-unit : (f : Formula) (course : Course) (k : ℕ) (c : List Lit) (l : Lit) → IsSound f course → slice_get f.clauses k ≡ Some c → are_false_but course.steps l c ≡ true → Entails f course.steps l
Entails-unit f course k c l sound e h = record { holds = λ b s kept. forced_true course.steps b l c (agrees f course.steps b sound.steps s kept) h (clause_at f b s k c e) }

-- such a literal is taken, and the clause is the reason
pub IsReasoned-push : (f : Formula) (course : Course) (k : ℕ) (c : List Lit) (l : Lit) → IsReasoned f course → slice_get f.clauses k ≡ Some c → are_false_but course.steps l c ≡ true → IsReasoned f (record course { steps = course.steps ++ implied l k ∷ [] })
IsReasoned-push f course k c l r e h = record {
  sound = record {
    vars = r.sound.vars;
    steps = EachStep-push (IsStep f) course.steps (implied l k) r.sound.steps (record { choice = λ d. absurd (false≢true d); entailed = λ d. Entails-unit f course k c l r.sound e h });
  };
  reasons = EachStep-push (HasReason f.clauses) course.steps (implied l k) r.reasons (record { reason = λ d. record { clause = c; place = e; rest = h } });
}

-- fewer steps
pub IsReasoned-cut : (f : Formula) (old now : Course) (rest : List Taken) → IsReasoned f old → now.vars ≡ old.vars → old.steps ≡ now.steps ++ rest → IsReasoned f now
IsReasoned-cut f old now rest r v e = record {
  sound = record { vars = v ∙ r.sound.vars; steps = EachStep-prefix (IsStep f) now.steps rest (subst (λ (t : List Taken). EachStep (IsStep f) t) e r.sound.steps) };
  reasons = EachStep-prefix (HasReason f.clauses) now.steps rest (subst (λ (t : List Taken). EachStep (HasReason f.clauses) t) e r.reasons);
}

-- no step at all
pub IsReasoned-none : (f : Formula) → IsReasoned f (record { vars = f.vars; steps = [] })
IsReasoned-none f = record { sound = record { vars = refl; steps = EachStep-none (IsStep f) }; reasons = EachStep-none (HasReason f.clauses) }

-- nothing has changed
pub Follows-refl : (f : Formula) (course : Course) → IsReasoned f course → Follows f course course
Follows-refl f course r = record { rest = []; steps = sym (append-nil course.steps); reasoned = r }

-- one step after another
pub Follows-trans : (f : Formula) (a b c : Course) → Follows f a b → Follows f b c → Follows f a c
Follows-trans f a b c p q = record {
  rest = p.rest ++ q.rest;
  steps = q.steps ∙ ap (λ u. u ++ q.rest) p.steps ∙ append_assoc a.steps p.rest q.rest;
  reasoned = q.reasoned;
}

-- a clause's only open literal is taken
pub Follows-unit : (f : Formula) (course : Course) (k : ℕ) (c : List Lit) (l : Lit) → IsReasoned f course → slice_get f.clauses k ≡ Some c → are_false_but course.steps l c ≡ true → Follows f course (record course { steps = course.steps ++ implied l k ∷ [] })
Follows-unit f course k c l r e h = record { rest = implied l k ∷ []; steps = refl; reasoned = IsReasoned-push f course k c l r e h }
