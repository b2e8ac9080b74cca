-- The lines of a canonical text.
--
--   IsPrintable f      the form has the members and numbers that its line needs
--   printable          so have all forms of a specification
--   said               the line of such a form says it
--   lines              the lines of a text of such forms
use Rattle.std.proofs.Common.{◌≡◌, ℕ, zero, suc, ◌≤◌, ◌&&◌, Bool, true, false, not, cond, leb, List, [], ◌∷◌, ◌++◌, map, Some, None, refl, ap, subst, ◌∙◌, arith}
use Rattle.std.specs.List.{AllByRecursion, filter, flat_map, slice_get}
use Rattle.std.specs.Str.Lines.{strip_carriage_return}
use Rattle.std.proofs.lemmas.Bool.{and_parts, leb-true, not-false}
use Rattle.std.proofs.lemmas.Option.{same_Some}
use Rattle.std.proofs.lemmas.List.{length-map}
use Rattle.std.proofs.lemmas.List.Folds.{flat_map-map}
use Rattle.ipa_spec.specs.Limits.{size_outside, IsFaultless}
use Rattle.ipa_spec.specs.FaultlessFits.{limits_of-faultless, not_found}
use Rattle.ipa_spec.specs.declared.predicates.Predicate.{Predicate}
use Rattle.ipa_spec.specs.declared.operations.Effect.{Effect}
use Rattle.ipa_spec.specs.declared.bounds.Bound.{Bound}
use Rattle.ipa_spec.specs.declared.names.Name.{Name}
use Rattle.ipa_spec.specs.declared.specification.Specification.{Specification}
use Rattle.ipa_text.specs.Lines.{has_content}
use Rattle.ipa_text.specs.Spellings.{ended, HasNoLineFeed}
use Rattle.ipa_text.specs.Tokens.{IsCutInto}
use Rattle.ipa_text.specs.declared.tokens.Token.{Token}
use Rattle.ipa_forms.specs.Forms.{HasForm, HasMembers, says_exists}
use Rattle.ipa_forms.specs.Layout.{line_of, text_of, HasNumbers}
use Rattle.ipa_forms.specs.declared.forms.Form.{Form}
use Rattle.ipa_forms.specs.declared.forms.Form.TheVariants.{Sort, Add, Del}
use Rattle.ipa_canonical.specs.Canonical.{const_form, predicate_name, args_form, pred_form, clause_form, need_form, effect_form, remove_form, literal_form, names_of, operation_forms, bound_forms, bound_vars, forms_of}
use Rattle.ipa_canonical.specs.Sentences.{HasLiterals, IsSaidBy}
use Rattle.ipa_canonical.proofs.PlainLemmas.{plain}

pub record IsPrintable (f : Form) : Type 0 where
  pub members : HasMembers f
  pub numbers : HasNumbers f

-- the same of each of some forms
abbrev pub ArePrintable : List Form → Type 0
ArePrintable fs = AllByRecursion IsPrintable fs

-- what reading back gives of a form, and no more than is used here
abbrev pub ReadsBack : Type 0
ReadsBack = (f : Form) → HasMembers f → HasNumbers f → (ts : List Token) × IsCutInto (line_of f) ts × HasForm (line_of f) ts f

pub said : ReadsBack → (f : Form) → IsPrintable f → IsSaidBy (line_of f) f
said back f h =
    let there = back f h.members h.numbers in
    record { tokens = there.0; cut = there.1; plain = ap says_exists there.2.words_are ∙ plain f; form_is = there.2 }

pub each_said : ReadsBack → (fs : List Form) → ArePrintable fs → AllByRecursion (λ f. IsSaidBy (line_of f) f) fs
each_said back [] h = tt
each_said back (f ∷ fs) h = (said back f h.0, each_said back fs h.1)

pub ended_lines : (fs : List Form) → ended (map line_of fs) ≡ flat_map text_of fs
ended_lines fs = flat_map-map (λ t. t ++ 10 ∷ []) line_of fs

pub no_line_feeds : ((f : Form) → HasMembers f → HasNumbers f → HasNoLineFeed (line_of f)) → (fs : List Form) → ArePrintable fs → AllByRecursion HasNoLineFeed (map line_of fs)
no_line_feeds none [] h = tt
no_line_feeds none (f ∷ fs) h = (none f h.0.members h.0.numbers, no_line_feeds none fs h.1)

kept : (b : Bool) (text line : List ℕ) (later : List (List ℕ)) → b ≡ true → text ≡ line → cond b (text ∷ later) later ≡ line ∷ later
kept true text line later e h = ap (λ t. t ∷ later) h
kept false text line later e h = cc

-- no line is blank or a comment, and none ends with a carriage return
pub all_kept : ((f : Form) → HasMembers f → HasNumbers f → strip_carriage_return (line_of f) ≡ line_of f) → ((f : Form) → has_content (line_of f) ≡ true) → (fs : List Form) → ArePrintable fs → filter has_content (map strip_carriage_return (map line_of fs)) ≡ map line_of fs
all_kept no_return content [] h = refl
all_kept no_return content (f ∷ fs) h =
    let same = no_return f h.0.members h.0.numbers in
    kept (has_content (strip_carriage_return (line_of f))) (strip_carriage_return (line_of f)) (line_of f) (filter has_content (map strip_carriage_return (map line_of fs))) (ap has_content same ∙ content f) same
    ∙ ap (λ later. line_of f ∷ later) (all_kept no_return content fs h.1)

both : (fs gs : List Form) → ArePrintable fs → ArePrintable gs → ArePrintable (fs ++ gs)
both [] gs h k = k
both (f ∷ fs) gs h k = (h.0, both fs gs h.1 k)

mapped : {X : Type 0} (of : X → Form) (xs : List X) → ((n : ℕ) (x : X) → slice_get xs n ≡ Some x → IsPrintable (of x)) → ArePrintable (map of xs)
mapped of [] h = tt
mapped of (x ∷ xs) h = (h 0 x refl, mapped of xs (λ n y e. h (suc n) y e))

flattened : {X : Type 0} (of : X → List Form) (xs : List X) → ((n : ℕ) (x : X) → slice_get xs n ≡ Some x → ArePrintable (of x)) → ArePrintable (flat_map of xs)
flattened of [] h = tt
flattened of (x ∷ xs) h = both (of x) (flat_map of xs) (h 0 x refl) (flattened of xs (λ n y e. h (suc n) y e))

either_printable : (b : Bool) (f g : Form) → IsPrintable f → IsPrintable g → IsPrintable (cond b f g)
either_printable true f g h k = h
either_printable false f g h k = k

effect_printable : (s : Specification) (own : Name) (vars : List Name) (e : Effect) → IsPrintable (effect_form s own vars e)
effect_printable s own vars e = either_printable e.add (Add (predicate_name s own e.predicate) (args_form s own vars e)) (Del (predicate_name s own e.predicate) (args_form s own vars e)) (record { members = tt; numbers = tt }) (record { members = tt; numbers = tt })

most_below : (bs : List Bound) → size_outside (map (λ b. b.most) bs) ≡ None → (n : ℕ) (b : Bound) → slice_get bs n ≡ Some b → b.most ≤ 65535
most_below [] h n b e = cc
most_below (c ∷ bs) h zero b e =
    let here = not-false (leb 1 c.most && leb c.most 65535) (not_found (not (leb 1 c.most && leb c.most 65535)) _ c.most _ h).head in
    subst (λ x. x.most ≤ 65535) (same_Some _ _ e) (leb-true c.most 65535 (and_parts (leb 1 c.most) (leb c.most 65535) here).1)
most_below (c ∷ bs) h (suc n) b e = most_below bs (not_found (not (leb 1 c.most && leb c.most 65535)) _ c.most _ h).rest n b e

pub printable : (s : Specification) → IsFaultless s → HasLiterals s → ArePrintable (forms_of s)
printable s h literals =
    both _ _ (mapped (λ name. Sort name) s.sorts (λ n name e. record { members = tt; numbers = tt }))
    (both _ _ (mapped (const_form s.sorts) s.constants (λ n c e. record { members = tt; numbers = tt }))
    (both _ _ (mapped (pred_form s.sorts) s.predicates (λ n p e. record { members = tt; numbers = tt }))
    (both _ _ (mapped (clause_form s) s.clauses (λ n c e. record { members = omega (arith, literals.each n c e, length-map c.literals (literal_form s c.name (names_of c.vars))); numbers = tt }))
    (both _ _ (flattened (operation_forms s) s.operations (λ n o e. (
      record { members = tt; numbers = tt },
      both _ _ (mapped (need_form s o.name (names_of o.params)) o.needs (λ k l is. record { members = tt; numbers = tt }))
          (mapped (effect_form s o.name (names_of o.params)) o.effects (λ k effect is. effect_printable s o.name (names_of o.params) effect)),
    )))
    (flattened (bound_forms s) s.bounds (λ n b e. (
      record { members = tt; numbers = omega (arith, most_below s.bounds (limits_of-faultless s h 11 _ refl) n b e) },
      mapped (remove_form s b.name (bound_vars s.predicates b)) b.removes (λ k effect is. record { members = tt; numbers = tt }),
    )))))))
