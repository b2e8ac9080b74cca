-- The end of a document.
--
--   finished      the document that stands behind all lines
--   refused_end   the refusal of its base
--   setup_fits    what its setup keeps
--   setup_fitting that it fits the specification
use Rattle.std.proofs.Common.{◌≡◌, ℕ, List, sym, ap, subst, ◌∙◌}
use Rattle.ipa_text.specs.Lines.{lines_of, last_line}
use Rattle.ipa_spec.specs.declared.names.Name.{Name}
use Rattle.ipa_spec.specs.declared.specification.Specification.{Specification}
use Rattle.ipa_logic.specs.declared.facts.Fact.{Fact}
use Rattle.ipa_names.specs.Meaning.{specification_of}
use Rattle.ipa_logic.specs.Facts.{has, IsStateOf}
use Rattle.ipa_reader.specs.Setups.{size_list, IsSetup, IsRefusedAtEnd, IsKept}
use Rattle.ipa_reader.specs.Fitting.{IsFitting}
use Rattle.ipa_reader.specs.Soundness.{IsSoundStanding}
use Rattle.ipa_reader.specs.Documents.{ReadsAs, IsRefused}
use Rattle.ipa_reader.specs.Documents.IsRefused.{at_end}
use Rattle.ipa_reader.specs.Readings.{IsReadUpTo}
use Rattle.ipa_reader.specs.declared.document.Document.{Document}
use Rattle.ipa_reader.specs.declared.refusals.DocKind.{DocKind}
use Rattle.ipa_reader.specs.declared.standing.Standing.{Standing}
use Rattle.ipa_reader.proofs.SoundFitting.{fitting}

-- a document made of what stands behind all lines
pub record IsMadeOf (s : Standing) (document : Document) : Type 0 where
  pub spec : document.spec ≡ specification_of s.declared
  pub elements : document.setup.elements ≡ s.arranged.elements
  pub universe : document.setup.universe.sizes ≡ size_list s.arranged.elements
  pub base : IsStateOf (has s.arranged.facts) document.setup.base
  pub replicas : document.setup.replicas ≡ s.arranged.replicas
  pub sessions : document.setup.sessions ≡ s.arranged.sessions

pub finished : (bytes : List ℕ) (s : Standing) (document : Document) → IsReadUpTo bytes (lines_of bytes) s → IsMadeOf s document → IsKept document.spec (size_list s.arranged.elements) document.setup.base → ReadsAs bytes document
finished bytes s document h m kept = record {
  forms = h.forms;
  said = h.said;
  accepted = h.accepted;
  document_is = record {
    spec = m.spec ∙ ap (λ t. specification_of t.declared) h.standing_is;
    elements = m.elements ∙ ap (λ t. t.arranged.elements) h.standing_is;
    universe = m.universe ∙ ap (λ t. size_list t.arranged.elements) h.standing_is;
    base = subst (λ t. IsStateOf (has t.arranged.facts) document.setup.base) h.standing_is m.base;
    replicas = m.replicas ∙ ap (λ t. t.arranged.replicas) h.standing_is;
    sessions = m.sessions ∙ ap (λ t. t.arranged.sessions) h.standing_is;
  };
  kept = subst (λ sizes. IsKept document.spec sizes document.setup.base) (sym m.universe) kept;
}

pub refused_end : (bytes : List ℕ) (s : Standing) (spec : Specification) (state : List Fact) (number : ℕ) (kind : DocKind) → IsReadUpTo bytes (lines_of bytes) s → spec ≡ specification_of s.declared → IsStateOf (has s.arranged.facts) state → number ≡ last_line bytes → IsRefusedAtEnd spec s.arranged.elements state kind → IsRefused bytes number kind
refused_end bytes s spec state number kind h same base is refused = at_end (record {
  forms = h.forms;
  said = h.said;
  accepted = h.accepted;
  state = state;
  base = subst (λ t. IsStateOf (has t.arranged.facts) state) h.standing_is base;
  number_is = sym is;
  refused = subst (λ t. IsRefusedAtEnd (specification_of t.declared) t.arranged.elements state kind) h.standing_is (subst (λ x. IsRefusedAtEnd x s.arranged.elements state kind) same refused);
})

pub setup_fits : (s : Standing) (sizes : List ℕ) → IsSoundStanding s → sizes ≡ size_list s.arranged.elements → IsSetup sizes s.arranged.elements s.arranged.replicas s.arranged.sessions
setup_fits s sizes h e = record {
  lists = h.apart.lists;
  counts = e;
  apart = h.apart.each;
  sort_sizes = h.elements.each;
  some_replica = h.some_replica;
  replica_count = h.replicas;
  session_count = h.sessions;
  session_replicas = h.placed.at_replicas.at;
  requests = h.requests;
}

pub setup_fitting : (s : Standing) (spec : Specification) (sizes : List ℕ) (elements : List (List Name)) (base : List Fact) → IsSoundStanding s → spec ≡ specification_of s.declared → sizes ≡ size_list s.arranged.elements → elements ≡ s.arranged.elements → IsStateOf (has s.arranged.facts) base → IsFitting spec sizes elements base s.arranged.sessions
setup_fitting s spec sizes elements base h named e same state =
    subst (λ es. IsFitting spec sizes es base s.arranged.sessions) (sym same)
    (subst (λ all. IsFitting spec all s.arranged.elements base s.arranged.sessions) (sym e)
    (subst (λ x. IsFitting x (size_list s.arranged.elements) s.arranged.elements base s.arranged.sessions) (sym named) (fitting s base h state)))
