-- What the specification of a document has.
--
--   shaped         its lists of places have three places
--   has_literals   its clauses have literals
use Rattle.std.proofs.Common.{◌≡◌, ℕ, ◌<◌, List, [], ◌∷◌, length, map, fold, Some, refl, sym, ap, subst, ◌∙◌, arith}
use Rattle.std.specs.List.{slice_get, AllByRecursion}
use Rattle.std.proofs.lemmas.List.{length-map}
use Rattle.ipa_spec.specs.FoundLaws.{map_at}
use Rattle.ipa_spec.specs.declared.clauses.Literal.{Literal}
use Rattle.ipa_spec.specs.declared.operations.Effect.{Effect}
use Rattle.ipa_text.specs.declared.numbering.Line.{Line}
use Rattle.ipa_forms.specs.Forms.{HasMembers}
use Rattle.ipa_forms.specs.declared.forms.Typed.{Typed}
use Rattle.ipa_forms.specs.declared.forms.LiteralForm.{LiteralForm}
use Rattle.ipa_forms.specs.declared.forms.LiteralForm.TheVariants.{Holds, Fails, Same, Differ}
use Rattle.ipa_forms.specs.declared.forms.Form.{Form}
use Rattle.ipa_forms.specs.declared.forms.Form.TheVariants as line
use Rattle.ipa_names.specs.Declarations.{nothing_declared, with_declaration}
use Rattle.ipa_reader.specs.Arrangements.{nothing_arranged}
use Rattle.ipa_names.specs.Scopes.{bound_variables}
use Rattle.ipa_names.specs.Meaning.{predicate_of, literal_of, clause_of, effect_of, operation_of, three_names, bound_of, specification_of}
use Rattle.ipa_reader.specs.Standings.{standing_of}
use Rattle.ipa_names.specs.Soundness.{EachOf}
use Rattle.ipa_reader.specs.Documents.{SayEach}
use Rattle.ipa_canonical.specs.Shapes.{LiteralShaped, IsShaped}
use Rattle.ipa_names.specs.declared.declared.ClauseLine.{ClauseLine}
use Rattle.ipa_names.specs.declared.declared.EffectLine.{EffectLine}
use Rattle.ipa_names.specs.declared.declared.Declared.{Declared}
use Rattle.ipa_spec.specs.declared.names.Name.{Name}
use Rattle.ipa_canonical.specs.Sentences.{HasLiterals}
use Rattle.ipa_names.specs.ListLaws.{each_push}
use Rattle.ipa_canonical.proofs.DeclaredBack.{said-declared}

literal_shaped : (d : Declared) (scope : List Typed) (l : LiteralForm) → LiteralShaped (literal_of d scope l)
literal_shaped d scope (Holds a) = refl
literal_shaped d scope (Fails a) = refl
literal_shaped d scope (Same v w) = tt
literal_shaped d scope (Differ v w) = tt

literals_shaped : (d : Declared) (scope : List Typed) (ls : List LiteralForm) (all : List Literal) → map (literal_of d scope) ls ≡ all → (k : ℕ) (l : Literal) → slice_get all k ≡ Some l → LiteralShaped l
literals_shaped d scope ls all same k l e =
    let at = map_at (literal_of d scope) ls k l (ap (λ xs. slice_get xs k) same ∙ e) in
    subst LiteralShaped at.2 (literal_shaped d scope at.0)

effects_shaped : (d : Declared) (scope : List Typed) (es : List EffectLine) (all : List Effect) → map (effect_of d scope) es ≡ all → (k : ℕ) (e : Effect) → slice_get all k ≡ Some e → length e.args ≡ 3
effects_shaped d scope es all same k effect e =
    let at = map_at (effect_of d scope) es k effect (ap (λ xs. slice_get xs k) same ∙ e) in
    subst (λ x. length x.args ≡ 3) at.2 refl

three_are : (own : Name) (names : List Name) → length (three_names own names) ≡ 3
three_are own [] = refl
three_are own (n ∷ names) = refl

pub shaped : (d : Declared) → IsShaped (specification_of d)
shaped d = record {
  predicates = λ n p e. let at = map_at (predicate_of d) d.predicates n p e in subst (λ x. length x.sorts ≡ 3) at.2 refl;
  literals = λ n k c l e is. let at = map_at (clause_of d) d.clauses n c e in literals_shaped d at.0.vars at.0.literals c.literals (ap (λ x. x.literals) at.2) k l is;
  needs = λ n k o l e is. let at = map_at (operation_of d) d.operations n o e in literals_shaped d at.0.params at.0.needs o.needs (ap (λ x. x.needs) at.2) k l is;
  effects = λ n k o effect e is. let at = map_at (operation_of d) d.operations n o e in effects_shaped d at.0.params at.0.effects o.effects (ap (λ x. x.effects) at.2) k effect is;
  vars = λ n b e. let at = map_at (bound_of d) d.bounds n b e in subst (λ x. length x.vars ≡ 3) at.2 (three_are at.0.name at.0.vars);
  removes = λ n k b effect e is. let at = map_at (bound_of d) d.bounds n b e in effects_shaped d (bound_variables d at.0) at.0.removes b.removes (ap (λ x. x.removes) at.2) k effect is;
}

abbrev HaveLiterals : List ClauseLine → Type 0
HaveLiterals cs = EachOf (λ c. 0 < length c.literals) cs

one_more : (d : Declared) (f : Form) → HasMembers f → HaveLiterals d.clauses → HaveLiterals (with_declaration d f).clauses
one_more d (line.Sort n) m h = h
one_more d (line.Const c) m h = h
one_more d (line.Pred n sorts rule) m h = h
one_more d (line.Clause n vars ls) m h = each_push d.clauses (record { name = n; vars = vars; literals = ls }) h m
one_more d (line.Op n params) m h = h
one_more d (line.Need l) m h = h
one_more d (line.Add p args) m h = h
one_more d (line.Del p args) m h = h
one_more d (line.Bound n p vars counted most pick) m h = h
one_more d (line.Drops p args) m h = h
one_more d (line.Elem n elements) m h = h
one_more d (line.Base p elements) m h = h
one_more d (line.Replicas k) m h = h
one_more d (line.Session k) m h = h
one_more d (line.Do o elements) m h = h
one_more d (line.Show p ps) m h = h

all_have : (lines : List Form) (d : Declared) → AllByRecursion HasMembers lines → HaveLiterals d.clauses → HaveLiterals (fold with_declaration d lines).clauses
all_have [] d m h = h
all_have (f ∷ lines) d m h = all_have lines (with_declaration d f) m.1 (one_more d f m.0 h)

pub members_said : (bytes : List ℕ) (lines : List Line) (forms : List Form) → SayEach bytes lines forms → AllByRecursion HasMembers forms
members_said bytes [] [] h = tt
members_said bytes [] (f ∷ forms) h = absurd h
members_said bytes (l ∷ lines) [] h = absurd h
members_said bytes (l ∷ lines) (f ∷ forms) h = (h.0.form_is.members, members_said bytes lines forms h.1)

pub has_literals : (forms : List Form) → AllByRecursion HasMembers forms → HasLiterals (specification_of (standing_of forms).declared)
has_literals forms m =
    let all = all_have forms nothing_declared m (record { at = λ k c e. cc }) in
    let here : HaveLiterals (standing_of forms).declared.clauses = subst (λ d. HaveLiterals d.clauses) (sym (said-declared forms nothing_declared nothing_arranged)) all in
    record {
      each = λ n c e.
          let at = map_at (clause_of (standing_of forms).declared) (standing_of forms).declared.clauses n c e in
          let some = here.at n at.0 at.1 in
          subst (λ x. 0 < length x.literals) at.2 (omega (arith, some, length-map at.0.literals (literal_of (standing_of forms).declared at.0.vars)));
    }
