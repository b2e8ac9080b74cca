-- What becomes of a canonical text that is read again.
--
--   Printed s     what is known of the text
--   says_each     its lines say the forms of the specification
--   kept_back     where it reads as a document, no clause is broken without facts, where the constants are all elements
--   read_back     it reads as one, where none is
--   read_or_refused   it reads as one, or is refused at its last line
--   that_refusal  it is refused for nothing else
use Rattle.std.proofs.Common.{◌≡◌, ℕ, ◌≤◌, ◌⊎◌, inl, inr, List, [], ◌∷◌, length, map, refl, sym, ap, subst, ◌∙◌, arith}
use Rattle.std.specs.List.{AllByRecursion}
use Rattle.std.specs.List.Sorted.{IsStrictlySortedBy}
use Rattle.ipa_spec.specs.Actions.{sorts_of_vars}
use Rattle.ipa_spec.specs.Fits.{IsFit}
use Rattle.ipa_spec.specs.declared.names.Name.{Name}
use Rattle.ipa_spec.specs.declared.specification.Specification.{Specification}
use Rattle.ipa_text.specs.Lines.{line_text, lines_of, last_line}
use Rattle.ipa_text.specs.declared.numbering.Line.{Line}
use Rattle.ipa_logic.specs.Facts.{has, IsStateOf}
use Rattle.ipa_logic.specs.Truth.{Keeps, IsFirstBroken}
use Rattle.ipa_logic.specs.declared.facts.Broken.{Broken}
use Rattle.ipa_forms.specs.Layout.{line_of}
use Rattle.ipa_forms.specs.declared.forms.Form.{Form}
use Rattle.ipa_canonical.specs.Canonical.{canonical_text, forms_of}
use Rattle.ipa_canonical.specs.Sentences.{IsSaidBy}
use Rattle.ipa_names.specs.Meaning.{specification_of}
use Rattle.ipa_reader.specs.Arrangements.{elements_at}
use Rattle.ipa_logic.specs.declared.facts.Fact.{Fact}
use Rattle.ipa_reader.specs.Fitting.{IsFitting}
use Rattle.ipa_reader.specs.Soundness.{IsSoundStanding}
use Rattle.ipa_reader.specs.Setups.{size_list, IsSetup, IsRefusedAtEnd, IsNamed, IsKept, element_names, instance_count, greatest_instance_count}
use Rattle.ipa_reader.specs.Standings.{standing_of}
use Rattle.ipa_reader.specs.Documents.{Says, SayEach, AreAccepted, ReadsAs, IsRefused}
use Rattle.ipa_reader.specs.Documents.IsRefused.{at_end}
use Rattle.ipa_canonical.specs.Alone.{constant_names, constants_alone}
use Rattle.ipa_canonical.specs.Rereading.{is_no_fact, constant_lists, IsReadBack, IsRefusedBack, IsThatRefusal}
use Rattle.ipa_reader.specs.declared.document.Document.{Document}
use Rattle.ipa_reader.specs.declared.document.Setup.{Setup}
use Rattle.ipa_reader.specs.declared.standing.Standing.{Standing}
use Rattle.ipa_reader.specs.declared.refusals.DocKind.{DocKind}
use Rattle.ipa_reader.specs.declared.refusals.DocKind.TheVariants.{BaseClause}
use Rattle.ipa_canonical.proofs.SetupUnsaid.{IsUnsaid, setup_unsaid, elements_said}
use Rattle.ipa_canonical.proofs.FirstBroken.{Breaks, keeps_or_breaks}
use Rattle.ipa_canonical.proofs.AcceptedAlone.{names_alone, sizes_alone, few_variables, few_instances, kept_alone}

says : (text line : List ℕ) (f : Form) → text ≡ line → IsSaidBy line f → Says text f
says text line f e h =
    let here : IsSaidBy text f = subst (λ t. IsSaidBy t f) (sym e) h in
    record { tokens = here.tokens; cut = here.cut; plain = here.plain; form_is = here.form_is }

pub says_each : (bytes : List ℕ) (lines : List Line) (fs : List Form) → map (line_text bytes) lines ≡ map line_of fs → AllByRecursion (λ f. IsSaidBy (line_of f) f) fs → SayEach bytes lines fs
says_each bytes [] [] e h = tt
says_each bytes [] (f ∷ fs) e h = absurd (cc)
says_each bytes (l ∷ lines) [] e h = absurd (cc)
says_each bytes (l ∷ lines) (f ∷ fs) e h =
    let head : line_text bytes l ≡ line_of f = cc in
    let tail : map (line_text bytes) lines ≡ map line_of fs = cc in
    (says (line_text bytes l) (line_of f) f head h.0, says_each bytes lines fs tail h.1)

no_facts : IsStateOf (has []) []
unfolding IsStrictlySortedBy
no_facts = record { rising = tt; facts = λ f. refl }

pub record Printed (s : Specification) : Type 0 where
  pub said : SayEach (canonical_text s) (lines_of (canonical_text s)) (forms_of s)
  pub accepted : AreAccepted (forms_of s)
  pub sound : IsSoundStanding (standing_of (forms_of s))
  pub fitting : (base : List Fact) → IsStateOf (has (standing_of (forms_of s)).arranged.facts) base → IsFitting (specification_of (standing_of (forms_of s)).declared) (size_list (standing_of (forms_of s)).arranged.elements) (standing_of (forms_of s)).arranged.elements base (standing_of (forms_of s)).arranged.sessions
  pub back : specification_of (standing_of (forms_of s)).declared ≡ s
  pub fit : IsFit s

module _ (s : Specification) (printed : Printed s) where
  abbrev standing : Standing
  standing = standing_of (forms_of s)

  abbrev elements : List (List Name)
  elements = standing.arranged.elements

  unsaid : IsUnsaid standing.arranged
  unsaid = setup_unsaid s

  constants : (n : ℕ) → elements_at elements n ≡ constant_names s n
  constants = elements_said s printed.back printed.sound

  sizes : size_list elements ≡ constants_alone s
  sizes = sizes_alone s printed.fit elements constants

  setup_alone : IsSetup (size_list elements) elements 1 []
  setup_alone = record {
    lists = printed.sound.apart.lists;
    counts = refl;
    apart = printed.sound.apart.each;
    sort_sizes = printed.sound.elements.each;
    some_replica = omega arith;
    replica_count = omega arith;
    session_count = omega arith;
    session_replicas = λ n work e. cc;
    requests = omega arith;
  }

  kept_here : Keeps s (constants_alone s) is_no_fact → IsKept s (size_list elements) []
  kept_here keeps = subst (λ all. IsKept s all []) (sym sizes) (kept_alone s printed.fit keeps)

  said_facts : IsStateOf (has standing.arranged.facts) []
  said_facts = subst (λ facts. IsStateOf (has facts) []) (sym unsaid.facts) no_facts

  fits_here : IsFitting s (size_list elements) elements [] []
  fits_here = subst (λ sessions. IsFitting s (size_list elements) elements [] sessions) unsaid.sessions
      (subst (λ x. IsFitting x (size_list elements) elements [] standing.arranged.sessions) printed.back (printed.fitting [] said_facts))

  -- the document that has the specification alone
  abbrev document_alone : Keeps s (constants_alone s) is_no_fact → Document
  document_alone keeps =
      let setup : Setup = record { universe = record { sizes = size_list elements }; elements = elements; base = []; replicas = 1; sessions = []; fits = setup_alone } in
      record { spec = s; setup = setup; kept = kept_here keeps; fitting = fits_here }

  pub read_back : Keeps s (constants_alone s) is_no_fact → IsReadBack s
  read_back keeps = record {
    document = document_alone keeps;
    reads = record {
      forms = forms_of s;
      said = printed.said;
      accepted = printed.accepted;
      document_is = record {
        spec = sym printed.back;
        elements = refl;
        universe = refl;
        base = said_facts;
        replicas = sym unsaid.replicas;
        sessions = sym unsaid.sessions;
      };
      kept = kept_here keeps;
    };
    alone = record { spec = refl; elements = constants; base = no_facts; replicas = refl; sessions = refl };
  }

  refused_back : Breaks s (constants_alone s) is_no_fact → IsRefusedBack s
  refused_back breaks =
      let broken : Broken = record { clause = breaks.number; values = breaks.values } in
      let name = breaks.first.clause.name in
      let sorts = sorts_of_vars breaks.first.clause.vars in
      let names = element_names (constant_lists s) sorts breaks.values in
      let named : IsNamed s (constant_lists s) broken name names = record { clause = breaks.first.clause; declared = breaks.first.declared; name_is = refl; names_are = refl } in
      let here : IsNamed s elements broken name names = record { clause = breaks.first.clause; declared = breaks.first.declared; name_is = refl; names_are = sym (names_alone s printed.fit elements constants sorts breaks.values) } in
      let few = subst (λ all. instance_count s all ≤ greatest_instance_count) (sym sizes) (few_instances s printed.fit) in
      let first = subst (λ all. IsFirstBroken s all is_no_fact breaks.number breaks.values) (sym sizes) breaks.first in
      let refused : IsRefusedAtEnd s elements [] (BaseClause broken name names) = (few, first, here) in
      record {
        broken = broken;
        first = breaks.first;
        name = name;
        names = names;
        named = named;
        refused = at_end (record {
          forms = forms_of s;
          said = printed.said;
          accepted = printed.accepted;
          state = [];
          base = said_facts;
          number_is = refl;
          refused = subst (λ x. IsRefusedAtEnd x elements [] (BaseClause broken name names)) (sym printed.back) refused;
        });
      }

  -- a document that has the specification alone keeps its clauses
  pub kept_back : IsReadBack s → Keeps s (constants_alone s) is_no_fact
  kept_back h =
      let d = h.document in
      let all : d.setup.universe.sizes ≡ constants_alone s =
      h.reads.document_is.universe ∙ sym (ap size_list h.reads.document_is.elements) ∙ sizes_alone s printed.fit d.setup.elements h.alone.elements in
      let facts : has d.setup.base ≡ is_no_fact = λ i f. h.alone.base.facts f i in
      subst (λ t. Keeps s (constants_alone s) t) facts
      (subst (λ universe. Keeps s universe (has d.setup.base)) all
      (subst (λ x. Keeps x d.setup.universe.sizes (has d.setup.base)) h.alone.spec h.reads.kept.clauses))

  pub read_or_refused : IsReadBack s ⊎ IsRefusedBack s
  read_or_refused = elim (keeps_or_breaks s (constants_alone s) is_no_fact (few_variables s printed.fit)) [ inl keeps ↦ inl (read_back keeps) | inr breaks ↦ inr (refused_back breaks) ]

  -- a text that reads as a document is not refused, and a refused one is refused in one way
  pub that_refusal : ((bytes : List ℕ) (line other : ℕ) (kind another : DocKind) → IsRefused bytes line kind → IsRefused bytes other another → (line ≡ other) × (kind ≡ another)) → ((bytes : List ℕ) (document : Document) (line : ℕ) (kind : DocKind) → ReadsAs bytes document → IsRefused bytes line kind → ⊥) →
      (line : ℕ) (kind : DocKind) → IsRefused (canonical_text s) line kind → IsThatRefusal s line kind
  that_refusal one apart line kind refused = elim read_or_refused [
    | inl read ↦ absurd (apart (canonical_text s) read.document line kind read.reads refused)
    | inr back ↦
        let same = one (canonical_text s) line (last_line (canonical_text s)) kind (BaseClause back.broken back.name back.names) refused back.refused in
        record { back = back; line_is = same.0; kind_is = same.1 }
  ]
