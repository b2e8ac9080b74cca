-- Lines that are not refused, one after the other.
--
--   stand operation bound d a   what stands before a line where d is declared and a is arranged, before any setup line: behind an operation or not, and behind a bound or not
--   no_refusal                a specification line that has no flaw, passes no limit and is in order is not refused
--   Chain s lines             none of the lines is refused, where s stands before the first
--   Onward d lines            so it is where d is declared, behind whichever line and whatever is arranged
--   accepted_all              so none of the lines of a text is refused
--   each_line, each_chunk     the lines of the parts of one kind
use Rattle.std.proofs.Common.{◌≡◌, Bool, false, List, [], ◌∷◌, ◌++◌, map, Option, None, refl, sym, subst, ◌∙◌, append_assoc, append-nil}
use Rattle.std.specs.List.{flat_map}
use Rattle.std.specs.Option.{option_map}
use Rattle.ipa_spec.specs.declared.faults.SpecFault.{SpecFault}
use Rattle.ipa_spec.specs.declared.faults.SpecFault.TheVariants as fault
use Rattle.ipa_forms.specs.declared.forms.Form.{Form}
use Rattle.ipa_reader.specs.Ordering.{is_setup, is_out_of_order}
use Rattle.ipa_names.specs.Declarations.{nothing_declared}
use Rattle.ipa_reader.specs.Arrangements.{nothing_arranged}
use Rattle.ipa_reader.specs.Standings.{standing_of, next_standing}
use Rattle.ipa_names.specs.Flaws.{specification_line_has}
use Rattle.ipa_names.specs.Counts.{limit_passed}
use Rattle.ipa_names.specs.CountLaws.{there_none, no_fault}
use Rattle.ipa_reader.specs.Refusals.{line_has, spec_fault_at, is_missing, setup_limit_at, first_kind, kind_if, refusal_at}
use Rattle.ipa_reader.specs.Documents.{AreAccepted}
use Rattle.ipa_names.specs.declared.flaws.Flaw.{Flaw}
use Rattle.ipa_names.specs.declared.flaws.Flaw.TheVariants.{Arity, SortMismatch, UnknownName, Duplicate, WildAdd, FreeVariable}
use Rattle.ipa_names.specs.declared.declared.Declared.{Declared}
use Rattle.ipa_reader.specs.declared.order.Place.{Place}
use Rattle.ipa_reader.specs.declared.standing.Arranged.{Arranged}
use Rattle.ipa_reader.specs.declared.standing.Standing.{Standing}
use Rattle.ipa_reader.specs.declared.refusals.DocKind.{DocKind}
use Rattle.ipa_reader.specs.declared.refusals.DocKind.TheVariants as kind
use Rattle.ipa_reader.specs.RefusalLaws.{plain}
use Rattle.ipa_reader.specs.StandingLaws.{standing_of-push, accepted_push}

abbrev pub place : Bool → Bool → Place
place operation bound = record { after_setup = false; after_operation = operation; after_bound = bound; after_replicas = false; after_session = false }

abbrev pub stand : Bool → Bool → Declared → Arranged → Standing
stand operation bound d a = record { place = place operation bound; declared = d; arranged = a }

pub record IsUnrefused (s : Standing) (line : Form) : Type 0 where
  pub none : refusal_at s line ≡ None

no_kind : (o : Option DocKind) (rest : List (Option DocKind)) → o ≡ None → first_kind rest ≡ None → first_kind (o ∷ rest) ≡ None
no_kind o rest e later = subst (λ x. first_kind (x ∷ rest) ≡ None) (sym e) later

not_kind : (found : Bool) (means : DocKind) → found ≡ false → kind_if found means ≡ None
not_kind found means e = subst (λ b. kind_if b means ≡ None) (sym e) refl

no_spec : (found : Option SpecFault) → found ≡ None → option_map (λ f. kind.Spec f) found ≡ None
no_spec found e = subst (λ o. option_map (λ f. kind.Spec f) o ≡ None) (sym e) refl

spec_none : (s : Standing) (line : Form) → ((flaw : Flaw) → line_has flaw s line ≡ false) → limit_passed s.declared line ≡ None → spec_fault_at s line ≡ None
spec_none s line flaws limit =
    there_none _ _ (no_fault (line_has Arity s line) fault.Arity (flaws Arity)) (
    there_none _ _ (no_fault (line_has SortMismatch s line) fault.SortMismatch (flaws SortMismatch)) (
    there_none _ _ (no_fault (line_has UnknownName s line) fault.UnknownName (flaws UnknownName)) (
    there_none _ _ (no_fault (line_has Duplicate s line) fault.Duplicate (flaws Duplicate)) (
    there_none _ _ (no_fault (line_has WildAdd s line) fault.WildAdd (flaws WildAdd)) (
    there_none _ _ (no_fault (line_has FreeVariable s line) fault.FreeVariable (flaws FreeVariable)) (
    there_none (limit_passed s.declared line) [] limit refl))))))

pub no_refusal : (s : Standing) (line : Form) → is_setup line ≡ false → ((flaw : Flaw) → specification_line_has flaw s.declared line ≡ false) → limit_passed s.declared line ≡ None → is_out_of_order s.place line ≡ false → IsUnrefused s line
no_refusal s line spec flaws limit order =
    let p = plain s line spec in
    record {
      none =
          no_kind _ _ (no_spec (spec_fault_at s line) (spec_none s line (λ flaw. p.flaws flaw ∙ flaws flaw) limit)) (
          no_kind _ _ (not_kind (is_out_of_order s.place line) kind.Order order) (
          no_kind _ _ (not_kind (is_missing s line) kind.UnknownElement p.missing) (
          no_kind (setup_limit_at s line) [] p.setup refl)));
    }

abbrev pub Chain : Standing → List Form → Type 0
Chain s [] = Unit {0}
Chain s (line ∷ lines) = IsUnrefused s line × Chain (next_standing s line) lines

abbrev pub Onward : Declared → List Form → Type 0
Onward d lines = (operation bound : Bool) (a : Arranged) → Chain (stand operation bound d a) lines

accepted_chain : (before lines : List Form) → AreAccepted before → Chain (standing_of before) lines → AreAccepted (before ++ lines)
accepted_chain before [] h c = subst AreAccepted (sym (append-nil before)) h
accepted_chain before (line ∷ lines) h c =
    let next : Chain (standing_of (before ++ line ∷ [])) lines = subst (λ s. Chain s lines) (sym (standing_of-push before line)) c.1 in
    subst AreAccepted (append_assoc before (line ∷ []) lines) (accepted_chain (before ++ line ∷ []) lines (accepted_push before line h c.0.none) next)

pub accepted_all : (lines : List Form) → Onward nothing_declared lines → AreAccepted lines
accepted_all lines c = accepted_chain [] lines (record { each = λ k form e. cc }) (c false false nothing_arranged)

-- Go done lines: the lines go on where these parts are done
module _ {X : Type 0} (Go : List X → List Form → Type 0) (all : List X) where
  pub each_line : (form : X → Form) → ((before later : List X) (x : X) (rest : List Form) → all ≡ before ++ x ∷ later → Go (before ++ x ∷ []) rest → Go before (form x ∷ rest)) →
      (done todo : List X) → all ≡ done ++ todo → (rest : List Form) → Go all rest → Go done (map form todo ++ rest)
  each_line form step done [] e rest go = subst (λ xs. Go xs rest) (e ∙ append-nil done) go
  each_line form step done (x ∷ todo) e rest go =
      step done todo x (map form todo ++ rest) e (each_line form step (done ++ x ∷ []) todo (e ∙ sym (append_assoc done (x ∷ []) todo)) rest go)

  pub each_chunk : (chunk : X → List Form) → ((before later : List X) (x : X) (rest : List Form) → all ≡ before ++ x ∷ later → Go (before ++ x ∷ []) rest → Go before (chunk x ++ rest)) →
      (done todo : List X) → all ≡ done ++ todo → (rest : List Form) → Go all rest → Go done (flat_map chunk todo ++ rest)
  each_chunk chunk step done [] e rest go = subst (λ xs. Go xs rest) (e ∙ append-nil done) go
  each_chunk chunk step done (x ∷ todo) e rest go =
      let later = step done todo x (flat_map chunk todo ++ rest) e (each_chunk chunk step (done ++ x ∷ []) todo (e ∙ sym (append_assoc done (x ∷ []) todo)) rest go) in
      subst (Go done) (sym (append_assoc (chunk x) (flat_map chunk todo) rest)) later
