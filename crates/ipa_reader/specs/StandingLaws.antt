-- What stands behind one more line.
--
--   standing_of-push    what stands behind it follows from what stands before it
--   accepted_push       it is accepted where it is not refused given the lines before it
use Rattle.std.proofs.Common.{◌≡◌, ◌≤◌, Bool, true, false, not, cond, ◌||◌, List, [], ◌∷◌, ◌++◌, length, take, reverse, Option, Some, None, refl, sym, ap, subst, ◌∙◌, arith, inl, inr}
use Rattle.std.specs.List.{list_any, find}
use Rattle.std.specs.Option.{option_map_or}
use Rattle.std.proofs.lemmas.List.{reverse-append, take-append-le, take_all}
use Rattle.std.proofs.lemmas.List.Sums.{fold-append}
use Rattle.std.proofs.lemmas.List.Folds.{list_any-append}
use Rattle.ipa_reader.specs.Ordering.{is_setup, is_operation, is_operation_part, is_bound, is_bound_part, is_replicas, is_session, last_but, place_of, next_place}
use Rattle.ipa_reader.specs.Standings.{with_said, said_of, standing_of, next_standing}
use Rattle.ipa_names.specs.Declarations.{nothing_declared}
use Rattle.ipa_reader.specs.Arrangements.{nothing_arranged}
use Rattle.ipa_reader.specs.Refusals.{refusal_at}
use Rattle.ipa_reader.specs.Documents.{AreAccepted}
use Rattle.ipa_forms.specs.declared.forms.Form.{Form}
use Rattle.ipa_names.specs.ListLaws.{at_push}

or_false : (a b : Bool) → (a || (b || false)) ≡ (a || b)
or_false true b = refl
or_false false true = refl
or_false false false = refl

any_more : (test : Form → Bool) (lines : List Form) (line : Form) →
    list_any test (lines ++ line ∷ []) ≡ (list_any test lines || test line)
any_more test lines line = list_any-append test lines (line ∷ []) ∙ or_false (list_any test lines) (test line)

-- the last line but those that are skipped, with one more line
last_more : (skipped wanted : Form → Bool) (lines : List Form) (line : Form) → option_map_or wanted (last_but skipped (lines ++ line ∷ [])) false ≡ cond (skipped line) (option_map_or wanted (last_but skipped lines) false) (wanted line)
last_more skipped wanted lines line =
    ap (λ turned. option_map_or wanted (find (λ l. not (skipped l)) turned) false) (reverse-append lines (line ∷ [])) ∙ by_cases (skipped line) (find (λ l. not (skipped l)) (reverse lines))
  where
    by_cases : (b : Bool) (later : Option Form) → option_map_or wanted (cond (not b) (Some line) later) false ≡ cond b (option_map_or wanted later false) (wanted line)
    by_cases true later = refl
    by_cases false later = refl

place_of-push : (lines : List Form) (line : Form) → place_of (lines ++ line ∷ []) ≡ next_place (place_of lines) line
place_of-push lines line = λ i. record {
  after_setup = any_more is_setup lines line i;
  after_operation = last_more is_operation_part is_operation lines line i;
  after_bound = last_more is_bound_part is_bound lines line i;
  after_replicas = any_more is_replicas lines line i;
  after_session = any_more is_session lines line i;
}

pub standing_of-push : (lines : List Form) (line : Form) →
    standing_of (lines ++ line ∷ []) ≡ next_standing (standing_of lines) line
standing_of-push lines line =
    let said : said_of (lines ++ line ∷ []) ≡ with_said (said_of lines) line = fold-append with_said (nothing_declared, nothing_arranged) lines (line ∷ []) in
    λ i. record { place = place_of-push lines line i; declared = (said i).0; arranged = (said i).1 }

pub accepted_push : (lines : List Form) (line : Form) → AreAccepted lines → refusal_at (standing_of lines) line ≡ None →
    AreAccepted (lines ++ line ∷ [])
accepted_push lines line h e = record {
  each = λ k form is. elim (at_push lines line k form is) [
    | inl g ↦
        let short : k ≤ length lines = omega (arith, g.0) in
        let same : take k (lines ++ line ∷ []) ≡ take k lines = take-append-le k lines (line ∷ []) short in
        subst (λ before. refusal_at (standing_of before) form ≡ None) (sym same) (h.each k form g.1)
    | inr g ↦
        let short : k ≤ length lines = omega (arith, g.0) in
        let same : take k (lines ++ line ∷ []) ≡ lines = take-append-le k lines (line ∷ []) short ∙ take_all k lines (omega (arith, g.0)) in
        subst (λ before. refusal_at (standing_of before) form ≡ None) (sym same) (subst (λ f. refusal_at (standing_of lines) f ≡ None) g.1 e)
  ];
}
