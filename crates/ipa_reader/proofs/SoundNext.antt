-- What stands behind a line that is not refused is sound, where what stands before it is.
--
--   sound_next       so it is
--   names_new        a `const` or `elem` line that is not refused names elements that are new in their sort
use Rattle.std.proofs.Common.{◌≡◌, ℕ, ◌+◌, ◌<◌, ◌≤◌, true, false, ◌||◌, List, [], ◌∷◌, ◌++◌, length, map, None, refl, sym, subst, ◌∙◌, ◌-◌, arith, not, ◌==◌, Option, Some}
use Rattle.std.proofs.lemmas.Bool.{or_parts, eqb-true, not-false}
use Rattle.std.specs.Option.{option_map}
use Rattle.std.proofs.lemmas.List.{length-append}
use Rattle.ipa_spec.specs.Faults.{has_repeat}
use Rattle.ipa_spec.specs.declared.names.Name.{Name}
use Rattle.ipa_reader.specs.Arrangements.{elements_of, fact_said, do_said, show_said, with_request, with_arrangement}
use Rattle.ipa_names.specs.Naming.{is_among}
use Rattle.ipa_names.specs.Declarations.{with_declaration}
use Rattle.ipa_reader.specs.Standings.{next_standing}
use Rattle.ipa_names.specs.Flaws.{use_has, arity_named, declaration_has, sort_has, specification_line_has}
use Rattle.ipa_reader.specs.Ordering.{is_setup, is_session}
use Rattle.ipa_reader.specs.Refusals.{elements_have, line_has, request_count, refusal_at}
use Rattle.ipa_reader.specs.RefusalLaws.{plain}
use Rattle.ipa_reader.specs.Soundness.{constant_names, IsWithinElements, AreApart, ArePlaced, IsBegun, IsFittingSaid, IsSoundStanding, NamesNew}
use Rattle.ipa_names.specs.declared.flaws.Flaw.TheVariants.{Arity, UnknownName, Duplicate}
use Rattle.ipa_reader.specs.declared.sessions.SessionWork.{SessionWork}
use Rattle.ipa_forms.specs.declared.forms.Typed.{Typed}
use Rattle.ipa_forms.specs.declared.forms.Form.{Form}
use Rattle.ipa_forms.specs.declared.forms.Form.TheVariants.{Sort, Const, Pred, Clause, Op, Need, Add, Del, Bound, Drops, Elem, Base, Replicas, Session, Do, Show}
use Rattle.ipa_reader.specs.declared.standing.Standing.{Standing}
use Rattle.ipa_names.specs.ListLaws.{length-with_last}
use Rattle.ipa_reader.proofs.Unrefused.{Unrefused, unrefused, setup_kept, replicas_kept}
use Rattle.ipa_names.specs.SoundLaws.{as_many, sound_declared}
use Rattle.ipa_names.specs.GrowthLaws.{known_use}
use Rattle.ipa_names.specs.Scopes.{predicate_named, operation_named}
use Rattle.ipa_names.specs.declared.declared.PredicateLine.{PredicateLine}
use Rattle.ipa_names.specs.declared.declared.OperationLines.{OperationLines}
use Rattle.ipa_names.specs.declared.declared.Declared.{Declared}
use Rattle.ipa_reader.proofs.SoundConstants.{begun_next, names_sorted, begun_constant, begun_elements, constant_room, constant_new}
use Rattle.ipa_reader.proofs.SaidFits.{sizes_grown, fact_fits, do_fits, show_fits}
use Rattle.ipa_reader.proofs.SaidMore.{said_nothing, said_more, said_elements, said_fact, said_session, said_request}
use Rattle.ipa_reader.proofs.SoundArranged.{within_elements, apart_elements, placed_push, placed_last, placed_more, placed_none, request_count-push, request_count-last, names_replica}

-- a line that arranges nothing
unchanged : (s : Standing) (line : Form) → IsSoundStanding s → Unrefused s line → is_setup line ≡ false → with_arrangement s.declared s.arranged line ≡ s.arranged → is_session line ≡ false → ((n : ℕ) → constant_names (with_declaration s.declared line) n ≡ constant_names s.declared n) → s.place.after_setup ≡ false → IsSoundStanding (next_standing s line)
unchanged s line h u spec same other names first = record {
  declared = sound_declared s.declared line h.declared (record { flawless = λ flaw. sym ((plain s line spec).flaws flaw) ∙ u.flawless flaw; limits = u.limits });
  elements = subst (λ a. IsWithinElements a.elements) (sym same) h.elements;
  apart = subst (λ a. AreApart a.elements) (sym same) h.apart;
  begun = λ n. subst (λ a. IsBegun (with_declaration s.declared line) a.elements (s.place.after_setup || is_setup line) n) (sym same) (begun_next s.declared (with_declaration s.declared line) s.arranged.elements s.place.after_setup (is_setup line) n (names n) (h.begun n));
  said = subst (λ a. IsFittingSaid (with_declaration s.declared line) a (s.place.after_setup || is_setup line)) (sym same) (said_nothing (with_declaration s.declared line) s.arranged (s.place.after_setup || is_setup line) (h.said.no_fact first) (h.said.no_session first));
  some_replica = subst (λ a. 0 < a.replicas) (sym same) h.some_replica;
  replicas = subst (λ a. a.replicas ≤ 8) (sym same) h.replicas;
  sessions = subst (λ a. length a.sessions ≤ 16) (sym same) h.sessions;
  placed = subst (λ a. ArePlaced a.replicas a.sessions (s.place.after_session || is_session line)) (sym same) (subst (λ b. ArePlaced s.arranged.replicas s.arranged.sessions (s.place.after_session || b)) (sym other) (placed_more s.arranged.replicas s.arranged.sessions s.place.after_session h.placed));
  requests = subst (λ a. request_count a.sessions ≤ 16384) (sym same) h.requests;
}

-- elements of which none stands twice
element_flaw : (s : Standing) (sort : Name) (names : List Name) → line_has Duplicate s (Elem sort names) ≡ false → has_repeat (λ name. name) (elements_of s.declared s.arranged.elements sort ++ names) ≡ false
unfolding line_has
element_flaw s sort names h = (or_parts (sort_has Duplicate s.declared sort) (elements_have Duplicate (elements_of s.declared s.arranged.elements sort) names) h).1

-- a constant of a new name and a declared sort
constant_flaw : (s : Standing) (c : Typed) → Unrefused s (Const c) → (is_among (map (λ k. k.name) s.declared.constants) c.name ≡ false) × (sort_has UnknownName s.declared c.sort ≡ false)
unfolding specification_line_has
constant_flaw s c u =
    let new = sym ((plain s (Const c) refl).flaws Duplicate) ∙ u.flawless Duplicate in
    let known = sym ((plain s (Const c) refl).flaws UnknownName) ∙ u.flawless UnknownName in (
      (or_parts (declaration_has Duplicate (map (λ k. k.name) s.declared.constants) c.name) (sort_has Duplicate s.declared c.sort) new).0,
      (or_parts (declaration_has UnknownName (map (λ k. k.name) s.declared.constants) c.name) (sort_has UnknownName s.declared c.sort) known).1,
    )

-- what a `base` or `show` line uses is declared, with as many places
used_predicate : (d : Declared) (predicate : Name) (given : ℕ) → use_has UnknownName (arity_named d predicate) given ≡ false → use_has Arity (arity_named d predicate) given ≡ false → (p : PredicateLine) × (predicate_named d predicate ≡ Some p) × (length p.sorts ≡ given)
used_predicate d predicate given known many =
    let p = known_use (predicate_named d predicate) given known in
    (p.0, p.1, as_many (predicate_named d predicate) p.0 given p.1 many)

base_flaw : (s : Standing) (predicate : Name) (names : List Name) → Unrefused s (Base predicate names) → (p : PredicateLine) × (predicate_named s.declared predicate ≡ Some p) × (length p.sorts ≡ length names)
unfolding line_has
base_flaw s predicate names u = used_predicate s.declared predicate (length names) (u.flawless UnknownName) (u.flawless Arity)

show_flaw : (s : Standing) (predicate : Name) (places : List (Option Name)) → Unrefused s (Show predicate places) → (p : PredicateLine) × (predicate_named s.declared predicate ≡ Some p) × (length p.sorts ≡ length places)
unfolding line_has
show_flaw s predicate places u = used_predicate s.declared predicate (length places) (u.flawless UnknownName) (u.flawless Arity)

-- what a `do` line uses is declared, with as many parameters
used_operation : (found : Option OperationLines) (given : ℕ) → use_has UnknownName (option_map (λ o. length o.params) found) given ≡ false → use_has Arity (option_map (λ o. length o.params) found) given ≡ false → (o : OperationLines) × (found ≡ Some o) × (length o.params ≡ given)
used_operation None given known many = cc
used_operation (Some o) given known many = (o, refl, eqb-true (length o.params) given (not-false (length o.params == given) many))

do_flaw : (s : Standing) (operation : Name) (names : List Name) → Unrefused s (Do operation names) → (o : OperationLines) × (operation_named s.declared operation ≡ Some o) × (length o.params ≡ length names)
unfolding line_has
do_flaw s operation names u = used_operation (operation_named s.declared operation) (length names) (u.flawless UnknownName) (u.flawless Arity)

next : (s : Standing) (line : Form) → IsSoundStanding s → Unrefused s line → IsSoundStanding (next_standing s line)
next s (Sort name) h u = unchanged s (Sort name) h u refl refl refl (λ n. names_sorted s.declared name n h.declared) u.ordered
next s (Const c) h u =
    let parts = constant_flaw s c u in
    record {
      declared = sound_declared s.declared (Const c) h.declared (record { flawless = λ flaw. sym ((plain s (Const c) refl).flaws flaw) ∙ u.flawless flaw; limits = u.limits });
      elements = within_elements s.declared s.arranged.elements c.sort (c.name ∷ []) h.elements (constant_room s.declared s.arranged.elements h.declared c.sort s.place.after_setup parts.1 u.ordered h.begun);
      apart = apart_elements s.declared s.arranged.elements c.sort (c.name ∷ []) h.apart h.declared.sorts.count (constant_new s.declared s.arranged.elements h.declared c s.place.after_setup h.apart parts.1 parts.0 u.ordered h.begun);
      begun = λ n. begun_constant s.declared s.arranged.elements h.declared c s.place.after_setup false n parts.1 u.ordered (h.begun n);
      said = said_nothing (with_declaration s.declared (Const c)) (with_arrangement s.declared s.arranged (Const c)) (s.place.after_setup || false) (h.said.no_fact u.ordered) (h.said.no_session u.ordered);
      some_replica = h.some_replica;
      replicas = h.replicas;
      sessions = h.sessions;
      placed = placed_more s.arranged.replicas s.arranged.sessions s.place.after_session h.placed;
      requests = h.requests;
    }
next s (Pred name sorts rule) h u = unchanged s (Pred name sorts rule) h u refl refl refl (λ n. refl) u.ordered
next s (Clause name vars literals) h u = unchanged s (Clause name vars literals) h u refl refl refl (λ n. refl) u.ordered
next s (Op name params) h u = unchanged s (Op name params) h u refl refl refl (λ n. refl) u.ordered
next s (Need literal) h u = unchanged s (Need literal) h u refl refl refl (λ n. refl) (or_parts s.place.after_setup (not s.place.after_operation) u.ordered).0
next s (Add predicate args) h u = unchanged s (Add predicate args) h u refl refl refl (λ n. refl) (or_parts s.place.after_setup (not s.place.after_operation) u.ordered).0
next s (Del predicate args) h u = unchanged s (Del predicate args) h u refl refl refl (λ n. refl) (or_parts s.place.after_setup (not s.place.after_operation) u.ordered).0
next s (Bound name predicate vars counted most pick) h u = unchanged s (Bound name predicate vars counted most pick) h u refl refl refl (λ n. refl) u.ordered
next s (Drops predicate args) h u = unchanged s (Drops predicate args) h u refl refl refl (λ n. refl) (or_parts s.place.after_setup (not s.place.after_bound) u.ordered).0
next s (Elem sort names) h u = record {
  declared = h.declared;
  elements = within_elements s.declared s.arranged.elements sort names h.elements (setup_kept 14 256 (length (elements_of s.declared s.arranged.elements sort) + length names) u.setup_limit);
  apart = apart_elements s.declared s.arranged.elements sort names h.apart h.declared.sorts.count (element_flaw s sort names (u.flawless Duplicate));
  begun = λ n. begun_elements s.declared s.arranged.elements h.declared sort names s.place.after_setup n (h.begun n);
  said = said_elements s.declared s.arranged sort names s.place.after_setup (sizes_grown s.declared s.arranged.elements sort names h.apart.lists (apart_elements s.declared s.arranged.elements sort names h.apart h.declared.sorts.count (element_flaw s sort names (u.flawless Duplicate))).lists) h.said;
  some_replica = h.some_replica;
  replicas = h.replicas;
  sessions = h.sessions;
  placed = placed_more s.arranged.replicas s.arranged.sessions s.place.after_session h.placed;
  requests = h.requests;
}
next s (Base predicate elements) h u =
    let known = base_flaw s predicate elements u in
    record {
      declared = h.declared;
      elements = h.elements;
      apart = h.apart;
      begun = λ n. begun_next s.declared s.declared s.arranged.elements s.place.after_setup true n refl (h.begun n);
      said = said_fact s.declared s.arranged (fact_said s.declared s.arranged.elements predicate elements) s.place.after_setup (fact_fits s h.declared h.apart.lists predicate elements known.0 known.1 known.2 u.missing) h.said;
      some_replica = h.some_replica;
      replicas = h.replicas;
      sessions = h.sessions;
      placed = placed_more s.arranged.replicas s.arranged.sessions s.place.after_session h.placed;
      requests = h.requests;
    }
next s (Replicas number) h u =
    let kept = replicas_kept number u.setup_limit in
    let before = (or_parts s.place.after_replicas s.place.after_session u.ordered).1 in
    record {
      declared = h.declared;
      elements = h.elements;
      apart = h.apart;
      begun = λ n. begun_next s.declared s.declared s.arranged.elements s.place.after_setup true n refl (h.begun n);
      said = said_more s.declared s.arranged s.place.after_setup h.said number;
      some_replica = omega (arith, kept.0);
      replicas = kept.1;
      sessions = h.sessions;
      placed = placed_none s.arranged.replicas number s.arranged.sessions s.place.after_session h.placed before;
      requests = h.requests;
    }
next s (Session number) h u =
    let kept = setup_kept 16 16 (length s.arranged.sessions + 1) u.setup_limit in
    let work : SessionWork = record { replica = number - 1; requests = [] } in
    let named = names_replica number s.arranged.replicas u.missing in
    record {
      declared = h.declared;
      elements = h.elements;
      apart = h.apart;
      begun = λ n. begun_next s.declared s.declared s.arranged.elements s.place.after_setup true n refl (h.begun n);
      said = said_session s.declared s.arranged work s.place.after_setup refl h.said;
      some_replica = h.some_replica;
      replicas = h.replicas;
      sessions = omega (arith, kept, length-append s.arranged.sessions (work ∷ []));
      placed = placed_push s.arranged.replicas s.arranged.sessions work s.place.after_session h.placed (omega (arith, named));
      requests = omega (arith, h.requests, request_count-push s.arranged.sessions work refl);
    }
next s (Do operation elements) h u =
    let known = do_flaw s operation elements u in
    let asked = do_said s.declared s.arranged.elements operation elements in
    let kept = setup_kept 17 16384 (request_count s.arranged.sessions + 1) u.setup_limit in
    record {
      declared = h.declared;
      elements = h.elements;
      apart = h.apart;
      begun = λ n. begun_next s.declared s.declared s.arranged.elements s.place.after_setup true n refl (h.begun n);
      said = said_request s.declared s.arranged asked s.place.after_setup (do_fits s h.declared h.apart.lists operation elements known.0 known.1 known.2 u.missing) h.said;
      some_replica = h.some_replica;
      replicas = h.replicas;
      sessions = omega (arith, h.sessions, length-with_last (with_request asked) s.arranged.sessions);
      placed = placed_last s.arranged.replicas s.arranged.sessions asked s.place.after_session h.placed;
      requests = omega (arith, kept, request_count-last asked s.arranged.sessions);
    }
next s (Show predicate places) h u =
    let known = show_flaw s predicate places u in
    let asked = show_said s.declared s.arranged.elements predicate places in
    let kept = setup_kept 17 16384 (request_count s.arranged.sessions + 1) u.setup_limit in
    record {
      declared = h.declared;
      elements = h.elements;
      apart = h.apart;
      begun = λ n. begun_next s.declared s.declared s.arranged.elements s.place.after_setup true n refl (h.begun n);
      said = said_request s.declared s.arranged asked s.place.after_setup (show_fits s h.declared h.apart.lists predicate places known.0 known.1 known.2 u.missing) h.said;
      some_replica = h.some_replica;
      replicas = h.replicas;
      sessions = omega (arith, h.sessions, length-with_last (with_request asked) s.arranged.sessions);
      placed = placed_last s.arranged.replicas s.arranged.sessions asked s.place.after_session h.placed;
      requests = omega (arith, kept, request_count-last asked s.arranged.sessions);
    }

pub sound_next : (s : Standing) (line : Form) → IsSoundStanding s → refusal_at s line ≡ None → IsSoundStanding (next_standing s line)
sound_next s line h e = next s line h (unrefused s line e)

-- a `const` or `elem` line that is not refused names elements that are new in their sort
pub names_new : (s : Standing) (line : Form) → IsSoundStanding s → refusal_at s line ≡ None → NamesNew s.declared s.arranged line
names_new s (Const c) h e =
    let u = unrefused s (Const c) e in
    let parts = constant_flaw s c u in
    constant_new s.declared s.arranged.elements h.declared c s.place.after_setup h.apart parts.1 parts.0 u.ordered h.begun
names_new s (Elem sort names) h e = element_flaw s sort names ((unrefused s (Elem sort names) e).flawless Duplicate)
names_new s (Sort name) h e = tt
names_new s (Pred name sorts rule) h e = tt
names_new s (Clause name vars literals) h e = tt
names_new s (Op name params) h e = tt
names_new s (Need literal) h e = tt
names_new s (Add predicate args) h e = tt
names_new s (Del predicate args) h e = tt
names_new s (Bound name predicate vars counted most pick) h e = tt
names_new s (Drops predicate args) h e = tt
names_new s (Base predicate elements) h e = tt
names_new s (Replicas number) h e = tt
names_new s (Session number) h e = tt
names_new s (Do operation elements) h e = tt
names_new s (Show predicate places) h e = tt
