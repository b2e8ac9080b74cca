-- A specification has one analysis, or one first triple that is too wide.
--
--   one-report, one-drop-report   there is one list of reported examples, and one of reported drops
--   one-wide                      there is one first triple that is too wide, with its count
use Rattle.std.proofs.Common.{◌≡◌, ℕ, List, refl, sym, ap, ◌∙◌, subst, Some, slice_get}
use Rattle.std.specs.Ordering.{nat_cmp}
use Rattle.std.specs.Cmp.Lexicographic.{slice_cmp}
use Rattle.std.specs.declared.cmp.Ordering.{Ordering}
use Rattle.std.proofs.lemmas.Cmp.{on_total, nat_list_cmp_total}
use Rattle.std.proofs.lemmas.List.Elements.{recursion_from_All}
use Rattle.std.proofs.lemmas.Option.{same_Some}
use Rattle.ipa_spec.specs.Actions.{IsAction}
use Rattle.ipa_spec.specs.declared.specification.Specification.{Specification}
use Rattle.ipa_spec.specs.declared.bounds.Bound.{Bound}
use Rattle.ipa_spec.specs.declared.clauses.Clause.{Clause}
use Rattle.ipa_spec.specs.declared.operations.Action.{Action}
use Rattle.ipa_logic.specs.Conflicts.{Conflict}
use Rattle.ipa_logic.specs.Acceptance.{DropBreaks}
use Rattle.ipa_ground.specs.Enumeration.{AreShort, IsListed}
use Rattle.ipa_ground.specs.ListLaws.{each_listed}
use Rattle.ipa_reduction.specs.Cases.{ConflictOn, DropBreaksOn}
use Rattle.ipa_pairs.specs.Width.{Triple, IsDeclared, IsTooWide, IsFirstTooWide, triple_key, pattern_count}
use Rattle.ipa_pairs.specs.Examples.{IsReportedExample, IsReportedDrop}
use Rattle.ipa_pairs.specs.Analyses.{AreReported, AreReportedDrops, triple_of, drop_key, drop_cmp}
use Rattle.ipa_pairs.specs.Collecting.{bound_clause_of}
use Rattle.ipa_pairs.specs.declared.analysis.Conflict.{Conflict as Example}
use Rattle.ipa_pairs.specs.declared.analysis.UnsafeDrop.{UnsafeDrop}
use Rattle.ipa_pairs.proofs.EarlierLemmas.{same-rising}
use Rattle.ipa_pairs.proofs.OneExampleLemmas.{same-pattern, reported-as, one-example}
use Rattle.ipa_pairs.proofs.OneDropLemmas.{drop-reported-as, one-drop}
use Rattle.ipa_pairs.proofs.OrderLemmas.{same_action}

-- examples are ordered by left, right and clause
abbrev example_cmp : Specification → Example → Example → Ordering
example_cmp s d e = slice_cmp nat_cmp (triple_key s (triple_of d)) (triple_key s (triple_of e))

module _ (s : Specification) (short : AreShort s.predicates) where
  -- two reported examples of a triple are the same
  pub same-example : (d e : Example) → IsReportedExample s d → IsReportedExample s e → triple_of d ≡ triple_of e → d ≡ e
  same-example d e h k same = one-example s short (triple_of e) k.clause d e (reported-as s d h (triple_of e) same k.clause k.declared) (reported-as s e k (triple_of e) refl k.clause k.declared)

  -- two reported examples of a drop and a clause are the same
  pub same-drop : (d e : UnsafeDrop) → IsReportedDrop s d → IsReportedDrop s e → d.bound ≡ e.bound → d.clause ≡ e.clause → d ≡ e
  same-drop d e h k bound clause = one-drop s short (bound_clause_of e) k.bound k.clause d e
      (drop-reported-as s d h (bound_clause_of e) (λ i. record { bound = bound i; clause = clause i }) k.bound k.clause k.bound_declared k.clause_declared)
      (drop-reported-as s e k (bound_clause_of e) refl k.bound k.clause k.bound_declared k.clause_declared)

  module _ (law : (left right : Action) (k : ℕ) (c : Clause) (classes : List ℕ) → IsAction s left → IsAction s right → slice_get s.clauses k ≡ Some c → ConflictOn s left right c classes → Conflict s left right k)
      (InQuestion : Triple → Type 0) (declared : (t : Triple) → InQuestion t → IsAction s t.left × IsAction s t.right) where
    -- an example of the one list is one of the other
    example-moved : (es fs : List Example) → AreReported s InQuestion es → AreReported s InQuestion fs → (e : Example) → IsListed es e → IsListed fs e
    example-moved es fs h k e l =
        let here = each_listed (λ e. IsReportedExample s e × InQuestion (triple_of e)) es (recursion_from_All (λ e. IsReportedExample s e × InQuestion (triple_of e)) es h.each) e l in
        let actions = declared (triple_of e) here.1 in
        let conflict : Conflict s e.left e.right e.clause = law e.left e.right e.clause here.0.clause here.0.classes actions.0 actions.1 here.0.declared
        (record { place = e.lost; after_left = e.after_left; after_right = e.after_right; conflict = here.0.first_on.example.shows }) in
        let found = k.complete (triple_of e) here.1 conflict in
        let there = each_listed (λ e. IsReportedExample s e × InQuestion (triple_of e)) fs (recursion_from_All (λ e. IsReportedExample s e × InQuestion (triple_of e)) fs k.each) found.example found.listed in
        subst (IsListed fs) (same-example found.example e there.0 here.0 found.is) found.listed

    -- there is one list of reported examples
    pub one-report : (es fs : List Example) → AreReported s InQuestion es → AreReported s InQuestion fs → es ≡ fs
    one-report es fs h k = same-rising (example_cmp s) (on_total (λ (e : Example). triple_key s (triple_of e)) nat_list_cmp_total) es fs h.rising k.rising (example-moved es fs h k) (example-moved fs es k h)

  module _ (law : (n k : ℕ) (b : Bound) (c : Clause) (classes : List ℕ) → slice_get s.clauses k ≡ Some c → DropBreaksOn s n b c classes → DropBreaks s n k) where
    drop-moved : (es fs : List UnsafeDrop) → AreReportedDrops s es → AreReportedDrops s fs → (e : UnsafeDrop) → IsListed es e → IsListed fs e
    drop-moved es fs h k e l =
        let here = each_listed (IsReportedDrop s) es (recursion_from_All (IsReportedDrop s) es h.each) e l in
        let found = k.complete e.bound e.clause (law e.bound e.clause here.bound here.clause here.classes here.clause_declared (record { before = e.before; break = here.first_on.example.shows })) in
        let there = each_listed (IsReportedDrop s) fs (recursion_from_All (IsReportedDrop s) fs k.each) found.example found.listed in
        subst (IsListed fs) (same-drop found.example e there here found.bound_is found.clause_is) found.listed

    -- there is one list of reported drops
    pub one-drop-report : (es fs : List UnsafeDrop) → AreReportedDrops s es → AreReportedDrops s fs → es ≡ fs
    one-drop-report es fs h k = same-rising drop_cmp (on_total drop_key nat_list_cmp_total) es fs h.rising k.rising (drop-moved es fs h k) (drop-moved fs es k h)

module _ (s : Specification) where
  -- triples with the same key are the same
  same-triple : (t u : Triple) → IsDeclared s t → IsDeclared s u → triple_key s t ≡ triple_key s u → t ≡ u
  same-triple t u h k e =
      let left : t.left ≡ u.left = same_action s t.left u.left h.left k.left cc in
      let right : t.right ≡ u.right = same_action s t.right u.right h.right k.right cc in
      let clause : t.clause ≡ u.clause = cc in
      λ i. record { left = left i; right = right i; clause = clause i }

  same-count : (left right : Action) (k m n : ℕ) (h j : IsTooWide s left right k) → m ≡ pattern_count s left right h.clause → n ≡ pattern_count s left right j.clause → m ≡ n
  same-count left right k m n h j p q = p ∙ (ap (pattern_count s left right) (same_Some h.clause j.clause (sym h.declared ∙ j.declared)) ∙ sym q)

  -- there is one first triple that is too wide, with one count
  pub one-wide : (t u : Triple) (m n : ℕ) → IsFirstTooWide s (IsDeclared s) t m → IsFirstTooWide s (IsDeclared s) u n → (t ≡ u) × (m ≡ n)
  one-wide t u m n h k =
      let same : t ≡ u = same-triple t u h.in_question k.in_question (same-pattern (triple_key s t) (triple_key s u)
      (λ before. k.first t h.in_question before h.too_wide) (λ behind. h.first u k.in_question behind k.too_wide)) in
      let other : IsFirstTooWide s (IsDeclared s) t n = subst (λ (x : Triple). IsFirstTooWide s (IsDeclared s) x n) (sym same) k in
      (same, same-count t.left t.right t.clause m n h.too_wide other.too_wide h.counted other.counted)
