-- What is arranged keeps its limits with one more line that is not refused.
--
--   within_more           more names of a sort that may have them
--   request_count-push, request_count-last   the number of requests
--   within_elements       the elements behind the line
--   apart_elements        and none of them stands twice in its sort
--   placed_push, placed_last   the sessions are at replicas
--   names_replica         a session that is not refused names one of the replicas
use Rattle.std.proofs.Common.{◌≡◌, ℕ, ◌+◌, ◌<◌, ◌≤◌, Bool, true, false, ◌||◌, ◌==◌, ltb, List, [], ◌∷◌, ◌++◌, length, Option, Some, None, refl, sym, ap, subst, ◌∙◌, zero, suc, arith}
use Rattle.std.specs.Option.{IfSome, option_map_or}
use Rattle.std.proofs.lemmas.Bool.{or_parts, ltb-false, false≢true}
use Rattle.std.proofs.lemmas.List.{length-append}
use Rattle.std.proofs.lemmas.List.Sums.{sum_by-append}
use Rattle.ipa_spec.specs.Faults.{has_repeat}
use Rattle.ipa_spec.specs.declared.names.Name.{Name}
use Rattle.ipa_logic.specs.declared.facts.Request.{Request}
use Rattle.ipa_names.specs.Naming.{number_in, with_last}
use Rattle.ipa_reader.specs.Arrangements.{elements_at, elements_of, with_more, with_elements, with_request}
use Rattle.ipa_reader.specs.Refusals.{request_count}
use Rattle.ipa_names.specs.Soundness.{EachOf}
use Rattle.ipa_reader.specs.Soundness.{IsWithinElements, AreApart, ArePlaced}
use Rattle.ipa_names.specs.declared.declared.Declared.{Declared}
use Rattle.ipa_reader.specs.declared.sessions.SessionWork.{SessionWork}
use Rattle.ipa_names.specs.ListLaws.{each_push, each_last}
use Rattle.ipa_names.specs.NumberLaws.{number_within}

pub within_more : (n : ℕ) (names : List Name) (es : List (List Name)) → ((m : ℕ) → length (elements_at es m) ≤ 256) → length (elements_at es n) + length names ≤ 256 → (m : ℕ) → length (elements_at (with_more n names es) m) ≤ 256
within_more zero names [] h new zero = omega arith
within_more zero names [] h new (suc m) = omega arith
within_more zero names (own ∷ others) h new zero = omega (arith, length-append own names)
within_more zero names (own ∷ others) h new (suc m) = h (suc m)
within_more (suc n) names [] h new zero = omega arith
within_more (suc n) names [] h new (suc m) = within_more n names [] h new m
within_more (suc n) names (own ∷ others) h new zero = h zero
within_more (suc n) names (own ∷ others) h new (suc m) = within_more n names others (λ k. h (suc k)) new m

within_found : (names : List Name) (es : List (List Name)) (found : Option ℕ) → IsWithinElements es → length (option_map_or (elements_at es) found []) + length names ≤ 256 → IsWithinElements (option_map_or (λ n. with_more n names es) found es)
within_found names es None h new = h
within_found names es (Some n) h new = record { each = within_more n names es h.each new }

pub within_elements : (d : Declared) (es : List (List Name)) (sort : Name) (names : List Name) → IsWithinElements es → length (elements_of d es sort) + length names ≤ 256 → IsWithinElements (with_elements d es sort names)
within_elements d es sort names h new = within_found names es (number_in d.sorts sort) h new

apart_more : (n : ℕ) (names : List Name) (es : List (List Name)) → ((m : ℕ) → has_repeat (λ name. name) (elements_at es m) ≡ false) → has_repeat (λ name. name) (elements_at es n ++ names) ≡ false → (m : ℕ) → has_repeat (λ name. name) (elements_at (with_more n names es) m) ≡ false
apart_more zero names [] h new zero = new
apart_more zero names [] h new (suc m) = refl
apart_more zero names (own ∷ others) h new zero = new
apart_more zero names (own ∷ others) h new (suc m) = h (suc m)
apart_more (suc n) names [] h new zero = refl
apart_more (suc n) names [] h new (suc m) = apart_more n names [] h new m
apart_more (suc n) names (own ∷ others) h new zero = h zero
apart_more (suc n) names (own ∷ others) h new (suc m) = apart_more n names others (λ k. h (suc k)) new m

length_more : (most n : ℕ) (names : List Name) (es : List (List Name)) → n < most → length es ≤ most → length (with_more n names es) ≤ most
length_more zero n names es less short = absurd (omega (arith, less))
length_more (suc most) zero names [] less short = omega arith
length_more (suc most) zero names (own ∷ others) less short = short
length_more (suc most) (suc n) names [] less short =
    let later = length_more most n names [] (omega (arith, less)) (omega arith) in
    omega (arith, later)
length_more (suc most) (suc n) names (own ∷ others) less short =
    let later = length_more most n names others (omega (arith, less)) (omega (arith, short)) in
    omega (arith, later)

apart_found : (names : List Name) (es : List (List Name)) (most : ℕ) (found : Option ℕ) → AreApart es → most ≤ 8 → IfSome found (λ n. n < most) → has_repeat (λ name. name) (option_map_or (elements_at es) found [] ++ names) ≡ false → AreApart (option_map_or (λ n. with_more n names es) found es)
apart_found names es most None h few within new = h
apart_found names es most (Some n) h few within new = record { lists = length_more 8 n names es (omega (arith, few, within)) h.lists; each = apart_more n names es h.each new }

pub apart_elements : (d : Declared) (es : List (List Name)) (sort : Name) (names : List Name) → AreApart es → length d.sorts ≤ 8 → has_repeat (λ name. name) (elements_of d es sort ++ names) ≡ false → AreApart (with_elements d es sort names)
apart_elements d es sort names h few new = apart_found names es (length d.sorts) (number_in d.sorts sort) h few (number_within d.sorts sort) new

pub placed_push : (replicas : ℕ) (sessions : List SessionWork) (work : SessionWork) (before : Bool) → ArePlaced replicas sessions before → work.replica < replicas → ArePlaced replicas (sessions ++ work ∷ []) (before || true)
placed_push replicas sessions work before h at = record {
  at_replicas = each_push sessions work h.at_replicas at;
  none = λ e. absurd (false≢true (sym e ∙ or_true before));
}
  where
    or_true : (b : Bool) → (b || true) ≡ true
    or_true true = refl
    or_true false = refl

-- a list with its last item changed has none where there was none
last_none : {X : Type 0} (change : X → X) (xs : List X) → xs ≡ [] → with_last change xs ≡ []
last_none change xs e = subst (λ ys. with_last change ys ≡ []) (sym e) refl

pub placed_last : (replicas : ℕ) (sessions : List SessionWork) (asked : Request) (before : Bool) → ArePlaced replicas sessions before → ArePlaced replicas (with_last (with_request asked) sessions) (before || false)
placed_last replicas sessions asked before h = record {
  at_replicas = each_last (with_request asked) sessions h.at_replicas (λ work last at. at);
  none = λ e. last_none (with_request asked) sessions (h.none (or_parts before false e).0);
}

pub placed_more : (replicas : ℕ) (sessions : List SessionWork) (before : Bool) → ArePlaced replicas sessions before → ArePlaced replicas sessions (before || false)
placed_more replicas sessions before h = record { at_replicas = h.at_replicas; none = λ e. h.none (or_parts before false e).0 }

-- there may be other replicas where there are no sessions
pub placed_none : (replicas now : ℕ) (sessions : List SessionWork) (before : Bool) → ArePlaced replicas sessions before → before ≡ false → ArePlaced now sessions (before || false)
placed_none replicas now sessions before h e =
    let empty : sessions ≡ [] = h.none e in
    record {
      at_replicas = subst (EachOf (λ work. work.replica < now)) (sym empty) (record { at = λ k x f. cc });
      none = λ f. empty;
    }

pub request_count-push : (sessions : List SessionWork) (work : SessionWork) → work.requests ≡ [] → request_count (sessions ++ work ∷ []) ≡ request_count sessions
request_count-push sessions work none =
    let whole = sum_by-append (λ w. length w.requests) sessions (work ∷ []) in
    omega (arith, whole, ap length none)

pub request_count-last : (asked : Request) (sessions : List SessionWork) → request_count (with_last (with_request asked) sessions) ≤ request_count sessions + 1
request_count-last asked [] = omega arith
request_count-last asked (w ∷ []) = omega (arith, length-append w.requests (asked ∷ []))
request_count-last asked (w ∷ v ∷ ws) =
    let one = sum_by-append (λ x. length x.requests) (w ∷ []) (with_last (with_request asked) (v ∷ ws)) in
    let other = sum_by-append (λ x. length x.requests) (w ∷ []) (v ∷ ws) in
    omega (arith, one, other, request_count-last asked (v ∷ ws))

-- a number that is neither 0 nor above the number of replicas
pub names_replica : (number replicas : ℕ) → ((number == 0) || ltb replicas number) ≡ false → (0 < number) × (number ≤ replicas)
names_replica zero replicas h = cc
names_replica (suc number) replicas h =
    let parts = or_parts (suc number == 0) (ltb replicas (suc number)) h in
    (omega arith, ltb-false replicas (suc number) parts.1)
