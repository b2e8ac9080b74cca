-- The specification of a document has no fault.
--
--   sound_standing      what stands behind accepted lines is sound
--   document_faultless  so the specification that they declare has no fault
use Rattle.std.proofs.Common.{◌≡◌, ℕ, List, [], ◌∷◌, ◌++◌, length, take, None, refl, sym, ap, subst, ◌∙◌, append_assoc, append-nil, arith}
use Rattle.std.proofs.lemmas.List.{take-append-le, take_all}
use Rattle.ipa_spec.specs.Limits.{fault_of, IsFaultless}
use Rattle.ipa_spec.specs.declared.names.Name.{Name}
use Rattle.ipa_forms.specs.declared.forms.Form.{Form}
use Rattle.ipa_names.specs.Declarations.{nothing_declared}
use Rattle.ipa_reader.specs.Standings.{standing_of}
use Rattle.ipa_reader.specs.Refusals.{refusal_at}
use Rattle.ipa_names.specs.ListLaws.{at_seam}
use Rattle.ipa_names.specs.Meaning.{specification_of}
use Rattle.ipa_names.specs.Soundness.{AreSoundParts, IsSound}
use Rattle.ipa_reader.specs.Soundness.{IsSoundStanding}
use Rattle.ipa_reader.specs.Documents.{AreAccepted, ReadsAs}
use Rattle.ipa_names.specs.declared.declared.Declared.{Declared}
use Rattle.ipa_reader.specs.declared.document.Document.{Document}
use Rattle.ipa_reader.specs.StandingLaws.{standing_of-push}
use Rattle.ipa_reader.proofs.SoundNext.{sound_next}
use Rattle.ipa_reader.specs.declared.standing.Standing.{Standing}

no_parts : {X : Type 0} (name_of : X → Name) (most : ℕ) (P : X → Type 0) → AreSoundParts name_of most P []
no_parts name_of most P = record { count = omega arith; apart = refl; each = record { at = λ k x e. cc } }

sound_nothing : IsSound nothing_declared
sound_nothing = record { sorts = no_parts _ 8 _; constants = no_parts _ 32 _; constant_most = λ sort. omega arith; predicates = no_parts _ 32 _; clauses = no_parts _ 32 _; operations = no_parts _ 32 _; bounds = no_parts _ 8 _ }

sound_first : IsSoundStanding (standing_of [])
sound_first = record {
  declared = sound_nothing;
  elements = record { each = λ n. omega arith };
  apart = record { lists = omega arith; each = λ n. refl };
  begun = λ n. record { later = []; are = refl; none = λ e. refl };
  said = record { facts = record { at = λ k x e. cc }; requests = record { at = λ k x e. cc }; no_fact = λ e. refl; no_session = λ e. refl };
  some_replica = omega arith;
  replicas = omega arith;
  sessions = omega arith;
  placed = record { at_replicas = record { at = λ k work e. cc }; none = λ e. refl };
  requests = omega arith;
}

sound_behind : (before lines : List Form) → AreAccepted (before ++ lines) → IsSoundStanding (standing_of before) → IsSoundStanding (standing_of (before ++ lines))
sound_behind before [] h sound = subst (λ all. IsSoundStanding (standing_of all)) (sym (append-nil before)) sound
sound_behind before (line ∷ lines) h sound =
    let first : take (length before) (before ++ line ∷ lines) ≡ before = take-append-le (length before) before (line ∷ lines) (omega arith) ∙ take_all (length before) before (omega arith) in
    let here : refusal_at (standing_of before) line ≡ None = subst (λ all. refusal_at (standing_of all) line ≡ None) first (h.each (length before) line (at_seam before lines line)) in
    let next : IsSoundStanding (standing_of (before ++ line ∷ [])) = subst IsSoundStanding (sym (standing_of-push before line)) (sound_next (standing_of before) line sound here) in
    let joined = append_assoc before (line ∷ []) lines in
    subst (λ all. IsSoundStanding (standing_of all)) joined (sound_behind (before ++ line ∷ []) lines (subst AreAccepted (sym joined) h) next)

pub sound_standing : (forms : List Form) → AreAccepted forms → IsSoundStanding (standing_of forms)
sound_standing forms h = sound_behind [] forms h sound_first

pub document_faultless : ((d : Declared) → IsSound d → fault_of (specification_of d) ≡ None) → (bytes : List ℕ) (document : Document) → ReadsAs bytes document → IsFaultless document.spec
document_faultless faultless bytes document reads = record {
  none = ap fault_of reads.document_is.spec ∙ faultless (standing_of reads.forms).declared (sound_standing reads.forms reads.accepted).declared;
}
