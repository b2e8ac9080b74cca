-- Variables looked up by name.
--
--   looked_up       a name that is looked up, with names compared by their bytes
--   indexed_none    nothing is indexed where there are no variables
--   next_new        a variable whose name is new goes last
--   next_again      one whose name is there changes nothing
use Rattle.std.proofs.Common.{◌≡◌, ℕ, ◌+◌, ◌<◌, Bool, true, false, cond, List, [], ◌∷◌, ◌++◌, length, take, get_or, Option, Some, None, Bor, refl, sym, ap, subst, ◌∙◌}
use Rattle.std.specs.List.{find}
use Rattle.std.specs.Map.{lookup}
use Rattle.std.specs.Option.{option_map, option_copied, is_some}
use Rattle.std.specs.Str.{bytes_eq}
use Rattle.std.proofs.lemmas.List.{take_more}
use Rattle.indexmap.specs.IndexMap.{insert_entry}
use Rattle.ipa_spec.specs.Faults.{same_name}
use Rattle.ipa_spec.specs.declared.names.Name.{Name}
use Rattle.ipa_forms.specs.declared.forms.Typed.{Typed}
use Rattle.ipa_names.specs.Scopes.{sort_of_variable, AreIndexed}
use Rattle.ipa_spec.specs.NameLaws.{same_bytes}

-- the first of two, or the other
abbrev first_of : Option Name → Option Name → Option Name
first_of (Some x) y = Some x
first_of None y = y

nothing : (f : Option Name) → f ≡ first_of f None
nothing (Some x) = refl
nothing None = refl

lookup-push : (test : Name → Bool) (es : List (Name × Name)) (k s : Name) → lookup test (es ++ (k, s) ∷ []) ≡ first_of (lookup test es) (cond (test k) (Some s) None)
lookup-push test [] k s = refl
lookup-push test (e ∷ es) k s = step (test e.0) (lookup test es) (lookup test (es ++ (k, s) ∷ [])) (lookup-push test es k s)
  where
    step : (b : Bool) (old new : Option Name) → new ≡ first_of old (cond (test k) (Some s) None) → cond b (Some e.1) new ≡ first_of (cond b (Some e.1) old) (cond (test k) (Some s) None)
    step true old new h = refl
    step false old new h = h

sort-push : (vars : List Typed) (v : Typed) (name : Name) → sort_of_variable (vars ++ v ∷ []) name ≡ first_of (sort_of_variable vars name) (cond (same_name v.name name) (Some v.sort) None)
sort-push [] v name = last (same_name v.name name)
  where
    last : (b : Bool) → option_map (λ (w : Typed). w.sort) (cond b (Some v) None) ≡ cond b (Some v.sort) None
    last true = refl
    last false = refl
sort-push (w ∷ vars) v name = step (same_name w.name name) (find (λ x. same_name x.name name) vars) (find (λ x. same_name x.name name) (vars ++ v ∷ [])) (sort-push vars v name)
  where
    step : (b : Bool) (old new : Option Typed) → option_map (λ (x : Typed). x.sort) new ≡ first_of (option_map (λ (x : Typed). x.sort) old) (cond (same_name v.name name) (Some v.sort) None)
        → option_map (λ (x : Typed). x.sort) (cond b (Some w) new) ≡ first_of (option_map (λ (x : Typed). x.sort) (cond b (Some w) old)) (cond (same_name v.name name) (Some v.sort) None)
    step true old new h = refl
    step false old new h = h

-- names of the same bytes have the same sort
sort-same : (vars : List Typed) (one other : Name) → same_name one other ≡ true → sort_of_variable vars one ≡ sort_of_variable vars other
sort-same vars one other h = ap (λ bytes. option_map (λ (v : Typed). v.sort) (find (λ v. bytes_eq (take v.name.len v.name.bytes) bytes) vars)) (same_bytes one other h)

pub indexed_none : AreIndexed [] []
indexed_none = record { sorts = λ name. refl }

one_more : (vars : List Typed) (n : ℕ) (v : Typed) → n < length vars → v ≡ get_or vars n v → take (n + 1) vars ≡ take n vars ++ v ∷ []
one_more vars n v within at = take_more vars n v within ∙ ap (λ x. take n vars ++ x ∷ []) (sym at)

-- what a look-up answers where there is nothing, and where there is something
unfound : (got : Option (Bor Name)) (found : Option Name) → option_copied got ≡ found → is_some got ≡ false → found ≡ None
unfound None found e h = sym e
unfound (Some x) found e h = cc

there : (got : Option (Bor Name)) (found : Option Name) → option_copied got ≡ found → is_some got ≡ true → (sort : Name) × (found ≡ Some sort)
there None found e h = cc
there (Some x) found e h = (x.now, sym e)

module _ {eq : Name → Name → Bool} (agrees : (one other : Name) → eq one other ≡ same_name other one) where
  pub looked_up : (name : Name) (es : List (Name × Name)) → lookup (eq name) es ≡ lookup (λ other. same_name other name) es
  looked_up name [] = refl
  looked_up name (e ∷ es) = λ i. cond (agrees name e.0 i) (Some e.1) (looked_up name es i)

  inserted : (es : List (Name × Name)) (k s : Name) → lookup (eq k) es ≡ None → insert_entry eq es k s ≡ es ++ (k, s) ∷ []
  inserted [] k s h = refl
  inserted (e ∷ es) k s h = step (eq k e.0) h (inserted es k s)
    where
      step : (b : Bool) → cond b (Some e.1) (lookup (eq k) es) ≡ None → (lookup (eq k) es ≡ None → insert_entry eq es k s ≡ es ++ (k, s) ∷ []) → cond b ((e.0, s) ∷ es) (e ∷ insert_entry eq es k s) ≡ e ∷ es ++ (k, s) ∷ []
      step true g rest = cc
      step false g rest = ap (λ l. e ∷ l) (rest g)

  indexed_new : (vars : List Typed) (es new : List (Name × Name)) (v : Typed) → AreIndexed vars es → lookup (eq v.name) es ≡ None → new ≡ insert_entry eq es v.name v.sort → AreIndexed (vars ++ v ∷ []) new
  indexed_new vars es new v h none is = record {
    sorts = λ name.
        ap (lookup (λ other. same_name other name)) (is ∙ inserted es v.name v.sort none)
        ∙ lookup-push (λ other. same_name other name) es v.name v.sort
        ∙ ap (λ found. first_of found (cond (same_name v.name name) (Some v.sort) None)) (h.sorts name)
        ∙ sym (sort-push vars v name);
  }

  indexed_again : (vars : List Typed) (es : List (Name × Name)) (v : Typed) (sort : Name) → AreIndexed vars es → lookup (eq v.name) es ≡ Some sort → AreIndexed (vars ++ v ∷ []) es
  indexed_again vars es v sort h found = record {
    sorts = λ name. h.sorts name ∙ stays name (same_name v.name name) refl ∙ sym (sort-push vars v name);
  }
    where
      own : sort_of_variable vars v.name ≡ Some sort
      own = sym (h.sorts v.name) ∙ sym (looked_up v.name es) ∙ found

      stays : (name : Name) (b : Bool) → same_name v.name name ≡ b → sort_of_variable vars name ≡ first_of (sort_of_variable vars name) (cond (same_name v.name name) (Some v.sort) None)
      stays name true e = subst (λ f. f ≡ first_of f (cond (same_name v.name name) (Some v.sort) None)) (sym own ∙ sort-same vars v.name name e) refl
      stays name false e = subst (λ b. sort_of_variable vars name ≡ first_of (sort_of_variable vars name) (cond b (Some v.sort) None)) (sym e) (nothing (sort_of_variable vars name))

  -- the variable in a place, whose name is new, or there already
  pub next_new : (vars : List Typed) (n : ℕ) (v : Typed) (es new : List (Name × Name)) (got : Option (Bor Name)) → n < length vars → v ≡ get_or vars n v → AreIndexed (take n vars) es → option_copied got ≡ lookup (eq v.name) es → is_some got ≡ false → new ≡ insert_entry eq es v.name v.sort → AreIndexed (take (n + 1) vars) new
  next_new vars n v es new got within at h found none is =
      subst (λ vs. AreIndexed vs new) (sym (one_more vars n v within at)) (indexed_new (take n vars) es new v h (unfound got (lookup (eq v.name) es) found none) is)

  pub next_again : (vars : List Typed) (n : ℕ) (v : Typed) (es : List (Name × Name)) (got : Option (Bor Name)) → n < length vars → v ≡ get_or vars n v → AreIndexed (take n vars) es → option_copied got ≡ lookup (eq v.name) es → is_some got ≡ true → AreIndexed (take (n + 1) vars) es
  next_again vars n v es got within at h found some =
      let sort = there got (lookup (eq v.name) es) found some in
      subst (λ vs. AreIndexed vs es) (sym (one_more vars n v within at)) (indexed_again (take n vars) es v sort.0 h sort.1)
