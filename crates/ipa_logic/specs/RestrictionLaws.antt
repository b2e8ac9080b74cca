-- A conflict in a large universe is one in each smaller universe that is embedded with the same arguments and values.
--
--   makes_true-embed, makes_false-embed   what an action makes of a literal is kept
--   StandsAfter-embed                     a state that an action could have left restricts to one
--   IsConflictAt-embed                    the law, for a conflict with all its parts
--   plain_application-embed               the facts after an action are kept
--   IsDroppable-embed, broken-embed       the law, for a drop that breaks a clause
use Rattle.std.proofs.Common.{◌≡◌, ℕ, ◌<◌, ◌≤◌, Bool, not, ◌&&◌, ◌||◌, List, [], length, refl, sym, ◌∙◌, ap, subst, arith, Option, Some, slice_get}
use Rattle.std.specs.Prelude.{slice_index}
use Rattle.std.specs.Option.{option_map_or}
use Rattle.std.specs.List.{list_any}
use Rattle.std.specs.Ordering.{is_eq}
use Rattle.std.proofs.lemmas.List.{length-map}
use Rattle.ipa_spec.specs.Actions.{effects_of, needs_of, sorts_of, sorts_of_vars, drop_effect, drop_effects}
use Rattle.ipa_spec.specs.Fits.{AtomFits, LiteralFits, EffectFits, IsFit}
use Rattle.ipa_spec.specs.declared.specification.Specification.{Specification}
use Rattle.ipa_spec.specs.declared.predicates.Predicate.{Predicate}
use Rattle.ipa_spec.specs.declared.clauses.Atom.{Atom}
use Rattle.ipa_spec.specs.declared.clauses.Literal.{Literal}
use Rattle.ipa_spec.specs.declared.clauses.Literal.TheVariants.{Holds, Fails, Same, Differ}
use Rattle.ipa_spec.specs.declared.clauses.Clause.{Clause}
use Rattle.ipa_spec.specs.declared.operations.Action.{Action}
use Rattle.ipa_spec.specs.declared.operations.Action.TheVariants.{Drop}
use Rattle.ipa_spec.specs.declared.bounds.Bound.{Bound}
use Rattle.ipa_logic.specs.Facts.{Universe, size_of, IsFact, IsState, fact_cmp, has}
use Rattle.ipa_logic.specs.Truth.{fact_of, literal_true, instance_true, IsOver}
use Rattle.ipa_logic.specs.Touches.{adds, removes, plain_application, makes_true, makes_false, touches_need, wins, loses}
use Rattle.ipa_logic.specs.Conflicts.{StandsAfter, is_true_comparison, denies, is_denied_by, is_undecided, falsifies_some, makes_winner_true, can_be_falsified, is_lost, IsConflictAt}
use Rattle.ipa_logic.specs.Acceptance.{IsDroppable, drop_fact}
use Rattle.ipa_logic.specs.FitLaws.{list_any-same, list_all-same, IsFact-fact_of, IsWhole, IsWhole-drop_effect, IsFact-fact_given, three-at, three-past}
use Rattle.ipa_logic.specs.Renaming.{Embeds, embed_values, embed_place, embed_fact, IsRestriction}
use Rattle.ipa_logic.specs.RenamingLaws as renaming
use Rattle.ipa_logic.specs.declared.facts.Fact.{Fact}

module _ (s : Specification) (small large : Universe) (e : ℕ → ℕ → ℕ) (embeds : Embeds s small large e) where
  module _ (fit : IsFit s) (action : Action) (args : List ℕ) (over : IsOver small (sorts_of s action) args)
      (vars values : List ℕ) (short : length vars ≤ 4) (valued : IsOver small vars values) where
    adds_atom : (a : Atom) → AtomFits s vars a → adds s action args (fact_of s values a) ≡ adds s action (embed_values e (sorts_of s action) args) (fact_of s (embed_values e vars values) a)
    adds_atom a f =
        renaming.adds-embed s small large e embeds fit action args over (fact_of s values a) (IsFact-fact_of s small vars values a embeds.sizes f valued)
        ∙ ap (adds s action (embed_values e (sorts_of s action) args)) (sym (renaming.fact_of-embed s small large e embeds vars values a short f))

    removes_atom : (a : Atom) → AtomFits s vars a → removes s action args (fact_of s values a) ≡ removes s action (embed_values e (sorts_of s action) args) (fact_of s (embed_values e vars values) a)
    removes_atom a f =
        renaming.removes-embed s small large e embeds fit action args over (fact_of s values a) (IsFact-fact_of s small vars values a embeds.sizes f valued)
        ∙ ap (removes s action (embed_values e (sorts_of s action) args)) (sym (renaming.fact_of-embed s small large e embeds vars values a short f))

    -- what an action makes of a literal is kept
    pub makes_true-embed : (l : Literal) → LiteralFits s vars l → makes_true s action args values l ≡ makes_true s action (embed_values e (sorts_of s action) args) (embed_values e vars values) l
    makes_true-embed (Holds a) f = adds_atom a f
    makes_true-embed (Fails a) f = removes_atom a f
    makes_true-embed (Same v w) f = refl
    makes_true-embed (Differ v w) f = refl

    pub makes_false-embed : (l : Literal) → LiteralFits s vars l → makes_false s action args values l ≡ makes_false s action (embed_values e (sorts_of s action) args) (embed_values e vars values) l
    makes_false-embed (Holds a) f = removes_atom a f
    makes_false-embed (Fails a) f = adds_atom a f
    makes_false-embed (Same v w) f = refl
    makes_false-embed (Differ v w) f = refl

    module _ (literals : List Literal) (each : (k : ℕ) (l : Literal) → slice_get literals k ≡ Some l → LiteralFits s vars l) where
      pub falsifies_some-embed : falsifies_some s action args values literals ≡ falsifies_some s action (embed_values e (sorts_of s action) args) (embed_values e vars values) literals
      falsifies_some-embed = list_any-same (makes_false s action args values) (makes_false s action (embed_values e (sorts_of s action) args) (embed_values e vars values)) literals
          (λ k l at. makes_false-embed l (each k l at))

      pub makes_winner_true-embed : makes_winner_true s action args values literals ≡ makes_winner_true s action (embed_values e (sorts_of s action) args) (embed_values e vars values) literals
      makes_winner_true-embed = list_any-same (λ l. wins s l && makes_true s action args values l) (λ l. wins s l && makes_true s action (embed_values e (sorts_of s action) args) (embed_values e vars values) l) literals
          (λ k l at. ap (λ (b : Bool). wins s l && b) (makes_true-embed l (each k l at)))

  module _ (vars values : List ℕ) (short : length vars ≤ 4) (valued : IsOver small vars values)
      (literals : List Literal) (fit : (k : ℕ) (l : Literal) → slice_get literals k ≡ Some l → LiteralFits s vars l) where
    comparison-embed : (l : Literal) → LiteralFits s vars l → is_true_comparison s values l ≡ is_true_comparison s (embed_values e vars values) l
    comparison-embed (Holds a) f = refl
    comparison-embed (Fails a) f = refl
    comparison-embed (Same v w) f = renaming.same_value-embed s small large e embeds vars values v w short f valued
    comparison-embed (Differ v w) f = ap not (renaming.same_value-embed s small large e embeds vars values v w short f valued)

    denies-embed : (a : Atom) → AtomFits s vars a → (l : Literal) → LiteralFits s vars l → denies s values a l ≡ denies s (embed_values e vars values) a l
    denies-embed a f (Holds b) g = refl
    denies-embed a f (Fails b) g =
        renaming.same_fact-embed s small large e embeds (fact_of s values a) (fact_of s values b) (IsFact-fact_of s small vars values a embeds.sizes f valued) (IsFact-fact_of s small vars values b embeds.sizes g valued)
        ∙ (ap (λ (x : Fact). is_eq (fact_cmp x (embed_fact e s (fact_of s values b)))) (sym (renaming.fact_of-embed s small large e embeds vars values a short f))
        ∙ ap (λ (x : Fact). is_eq (fact_cmp (fact_of s (embed_values e vars values) a) x)) (sym (renaming.fact_of-embed s small large e embeds vars values b short g)))
    denies-embed a f (Same v w) g = refl
    denies-embed a f (Differ v w) g = refl

    is_denied_by-embed : (l : Literal) → LiteralFits s vars l → is_denied_by s values literals l ≡ is_denied_by s (embed_values e vars values) literals l
    is_denied_by-embed (Holds a) f = list_any-same (denies s values a) (denies s (embed_values e vars values) a) literals (λ k l at. denies-embed a f l (fit k l at))
    is_denied_by-embed (Fails a) f = refl
    is_denied_by-embed (Same v w) f = refl
    is_denied_by-embed (Differ v w) f = refl

    pub is_undecided-embed : is_undecided s values literals ≡ is_undecided s (embed_values e vars values) literals
    is_undecided-embed =
        ap (λ (b : Bool). not b && not (list_any (is_denied_by s values literals) literals))
        (list_any-same (is_true_comparison s values) (is_true_comparison s (embed_values e vars values)) literals (λ k l at. comparison-embed l (fit k l at)))
        ∙ ap (λ (b : Bool). not (list_any (is_true_comparison s (embed_values e vars values)) literals) && not b)
        (list_any-same (is_denied_by s values literals) (is_denied_by s (embed_values e vars values) literals) literals (λ k l at. is_denied_by-embed l (fit k l at)))

  -- an embedded fact is one of the large universe
  pub IsFact-embed_fact : (f : Fact) → ((n : ℕ) (p : Predicate) → slice_get s.predicates n ≡ Some p → p.arity ≤ 3) → IsFact s small f → IsFact s large (embed_fact e s f)
  IsFact-embed_fact f short is = subst (λ (g : Fact). IsFact s large g) (sym (renaming.embed_fact-declared s small large e embeds f is.predicate is.declared)) (record {
    predicate = is.predicate;
    declared = is.declared;
    elements = λ k h. subst (λ (x : ℕ). x < size_of large (slice_index is.predicate.sorts k))
        (sym (three-at (embed_place e is.predicate f) k (let a : is.predicate.arity ≤ 3 = short f.predicate is.predicate is.declared in omega arith) ∙ renaming.embed_place-within s small large e embeds is.predicate f k h))
        (embeds.inside (slice_index is.predicate.sorts k) (slice_index f.args k) (is.elements k h));
    unused = λ k h. three-past (embed_place e is.predicate f) is.predicate.arity k (λ j past. renaming.embed_place-past s small large e embeds is.predicate f j past) h;
    width = refl;
  })

  -- a state that an action could have left restricts to one
  pub StandsAfter-embed : (fit : IsFit s) (action : Action) (args : List ℕ) (t u : Fact → Bool) → IsOver small (sorts_of s action) args → IsRestriction s small e t u
      → StandsAfter s large action (embed_values e (sorts_of s action) args) u → StandsAfter s small action args t
  StandsAfter-embed fit action args t u over restriction stands = record {
    added = λ f is h. restriction.tells f is ∙ stands.added (embed_fact e s f) (IsFact-embed_fact f fit.arities is)
        (sym (renaming.adds-embed s small large e embeds fit action args over f is) ∙ h);
    removed = λ f is h. restriction.tells f is ∙ stands.removed (embed_fact e s f) (IsFact-embed_fact f fit.arities is)
        (sym (renaming.removes-embed s small large e embeds fit action args over f is) ∙ h);
    needed = list_all-same (λ l. touches_need s action args l || literal_true s t args l)
        (λ l. touches_need s action (embed_values e (sorts_of s action) args) l || literal_true s u (embed_values e (sorts_of s action) args) l) (needs_of s action)
        (λ k l at. need l (fit.needs action k l at)) ∙ stands.needed;
  }
    where
      need : (l : Literal) → LiteralFits s (sorts_of s action) l
          → (touches_need s action args l || literal_true s t args l)
          ≡ (touches_need s action (embed_values e (sorts_of s action) args) l || literal_true s u (embed_values e (sorts_of s action) args) l)
      need l f =
          ap (λ (b : Bool). (b || makes_false s action args args l) || literal_true s t args l)
          (makes_true-embed fit action args over (sorts_of s action) args (fit.argument_count action) over l f)
          ∙ (ap (λ (b : Bool). (makes_true s action (embed_values e (sorts_of s action) args) (embed_values e (sorts_of s action) args) l || b) || literal_true s t args l)
          (makes_false-embed fit action args over (sorts_of s action) args (fit.argument_count action) over l f)
          ∙ ap (λ (b : Bool). touches_need s action (embed_values e (sorts_of s action) args) l || b)
          (renaming.literal_true-embed s small large e embeds t u restriction (sorts_of s action) args l (fit.argument_count action) f over))

  -- the law: a conflict with these arguments, values and states over the large universe is one over the small universe
  pub IsConflictAt-embed : (fit : IsFit s) (left right : Action) (k : ℕ) (c : Clause) → slice_get s.clauses k ≡ Some c
      → (left_args right_args values : List ℕ) → IsOver small (sorts_of s left) left_args → IsOver small (sorts_of s right) right_args → IsOver small (sorts_of_vars c.vars) values
      → (place : ℕ) (after_left after_right small_left small_right : List Fact)
      → IsState s small small_left → IsState s small small_right
      → IsRestriction s small e (has small_left) (has after_left) → IsRestriction s small e (has small_right) (has after_right)
      → IsConflictAt s left right c large (embed_values e (sorts_of s left) left_args) (embed_values e (sorts_of s right) right_args) (embed_values e (sorts_of_vars c.vars) values) place after_left after_right
      → IsConflictAt s left right c small left_args right_args values place small_left small_right
  IsConflictAt-embed fit left right k c g left_args right_args values over_left over_right over place after_left after_right small_left small_right state_left state_right restrict_left restrict_right h = record {
    sizes = embeds.sizes;
    left_arguments = over_left;
    right_arguments = over_right;
    clause_values = over;
    left_state = state_left;
    right_state = state_right;
    left_keeps = renaming.Keeps-embed s small large e embeds (has small_left) (has after_left) fit restrict_left h.left_keeps;
    right_keeps = renaming.Keeps-embed s small large e embeds (has small_right) (has after_right) fit restrict_right h.right_keeps;
    left_stands = StandsAfter-embed fit left left_args (has small_left) (has after_left) over_left restrict_left h.left_stands;
    right_stands = StandsAfter-embed fit right right_args (has small_right) (has after_right) over_right restrict_right h.right_stands;
    undecided = is_undecided-embed (sorts_of_vars c.vars) values short over c.literals fits ∙ h.undecided;
    left_falsifies = falsifies_some-embed fit left left_args over_left (sorts_of_vars c.vars) values short over c.literals fits ∙ h.left_falsifies;
    right_falsifies = falsifies_some-embed fit right right_args over_right (sorts_of_vars c.vars) values short over c.literals fits ∙ h.right_falsifies;
    left_spares = makes_winner_true-embed fit left left_args over_left (sorts_of_vars c.vars) values short over c.literals fits ∙ h.left_spares;
    right_spares = makes_winner_true-embed fit right right_args over_right (sorts_of_vars c.vars) values short over c.literals fits ∙ h.right_spares;
    lost = h.lost;
    lost_at = h.lost_at;
    loss = loss ∙ h.loss;
  }
    where
      short : length (sorts_of_vars c.vars) ≤ 4
      short = rw (length-map c.vars (λ v. v.sort)) (fit.variable_count k c g)

      fits : (j : ℕ) (l : Literal) → slice_get c.literals j ≡ Some l → LiteralFits s (sorts_of_vars c.vars) l
      fits j l at = fit.literals k j c l g at

      loss : is_lost s right right_args values (has small_left) (has small_right) h.lost
          ≡ is_lost s right (embed_values e (sorts_of s right) right_args) (embed_values e (sorts_of_vars c.vars) values) (has after_left) (has after_right) h.lost
      loss =
          ap (λ (b : Bool). ((b && not (makes_true s right right_args values h.lost)) && can_be_falsified s h.lost) && (not (loses s h.lost) || not (literal_true s (has small_right) values h.lost)))
          (renaming.literal_true-embed s small large e embeds (has small_left) (has after_left) restrict_left (sorts_of_vars c.vars) values h.lost short (fits place h.lost h.lost_at) over)
          ∙ (ap (λ (b : Bool). ((literal_true s (has after_left) (embed_values e (sorts_of_vars c.vars) values) h.lost && not b) && can_be_falsified s h.lost) && (not (loses s h.lost) || not (literal_true s (has small_right) values h.lost)))
          (makes_true-embed fit right right_args over_right (sorts_of_vars c.vars) values short over h.lost (fits place h.lost h.lost_at))
          ∙ ap (λ (b : Bool). ((literal_true s (has after_left) (embed_values e (sorts_of_vars c.vars) values) h.lost && not (makes_true s right (embed_values e (sorts_of s right) right_args) (embed_values e (sorts_of_vars c.vars) values) h.lost)) && can_be_falsified s h.lost) && (not (loses s h.lost) || not b))
          (renaming.literal_true-embed s small large e embeds (has small_right) (has after_right) restrict_right (sorts_of_vars c.vars) values h.lost short (fits place h.lost h.lost_at) over))

  -- the facts after an action are kept
  pub plain_application-embed : (fit : IsFit s) (action : Action) (args : List ℕ) (t u : Fact → Bool) → IsOver small (sorts_of s action) args → IsRestriction s small e t u
      → IsRestriction s small e (plain_application s action args t) (plain_application s action (embed_values e (sorts_of s action) args) u)
  plain_application-embed fit action args t u over restriction = record {
    tells = λ f is.
        ap (λ (b : Bool). b || (t f && not (removes s action args f)))
        (renaming.adds-embed s small large e embeds fit action args over f is)
        ∙ (ap (λ (b : Bool). adds s action (embed_values e (sorts_of s action) args) (embed_fact e s f) || (b && not (removes s action args f))) (restriction.tells f is)
        ∙ ap (λ (b : Bool). adds s action (embed_values e (sorts_of s action) args) (embed_fact e s f) || (u (embed_fact e s f) && not b))
        (renaming.removes-embed s small large e embeds fit action args over f is));
  }

  -- a state in which a drop may be due restricts to one
  pub IsDroppable-embed : (fit : IsFit s) (b : Bound) (n : ℕ) (args : List ℕ) (before small_before : List Fact) → IsOver small (sorts_of s (Drop n)) args
      → IsState s small small_before → IsRestriction s small e (has small_before) (has before)
      → IsDroppable s b n large (embed_values e (sorts_of s (Drop n)) args) before → IsDroppable s b n small args small_before
  IsDroppable-embed fit b n args before small_before over state restriction h = record {
    declared = h.declared;
    sizes = embeds.sizes;
    arguments = over;
    state = state;
    keeps = renaming.Keeps-embed s small large e embeds (has small_before) (has before) fit restriction h.keeps;
    holds = restriction.tells (drop_fact s b args) (IsFact-fact_given s small (sorts_of s (Drop n)) args (drop_effect s.predicates b) fits embeds.sizes whole over)
        ∙ (ap (has before) (sym (renaming.fact_given-embed s small large e embeds (sorts_of s (Drop n)) args (fit.argument_count (Drop n)) over (drop_effect s.predicates b) fits whole)) ∙ h.holds);
  }
    where
      first : slice_get (effects_of s (Drop n)) 0 ≡ Some (drop_effect s.predicates b)
      first = ap (λ (o : Option Bound). slice_get (option_map_or (drop_effects s.predicates) o []) 0) h.declared

      fits : EffectFits s (sorts_of s (Drop n)) (drop_effect s.predicates b)
      fits = fit.effects (Drop n) 0 (drop_effect s.predicates b) first

      whole : IsWhole (drop_effect s.predicates b) fits
      whole = IsWhole-drop_effect s (sorts_of s (Drop n)) b fits

  -- an instance that is broken after an action is broken
  pub instance_true-embed : (fit : IsFit s) (k : ℕ) (c : Clause) → slice_get s.clauses k ≡ Some c → (values : List ℕ) → IsOver small (sorts_of_vars c.vars) values
      → (t u : Fact → Bool) → IsRestriction s small e t u → instance_true s t values c ≡ instance_true s u (embed_values e (sorts_of_vars c.vars) values) c
  instance_true-embed fit k c g values over t u restriction = list_any-same (literal_true s t values) (literal_true s u (embed_values e (sorts_of_vars c.vars) values)) c.literals
      (λ j l at. renaming.literal_true-embed s small large e embeds t u restriction (sorts_of_vars c.vars) values l (rw (length-map c.vars (λ v. v.sort)) (fit.variable_count k c g)) (fit.literals k j c l g at) over)
