-- What is known of a line that is not refused.
--
--   Unrefused s line     it has no flaw, passes no limit, and names what is there
--   unrefused            so it is where there is no refusal
--   setup_kept, replicas_kept   a limit that isn't passed
use Rattle.std.proofs.Common.{◌≡◌, ℕ, ◌≤◌, Bool, true, false, cond, ◌&&◌, leb, List, [], ◌∷◌, Option, Some, None, refl, sym, zero, suc}
use Rattle.std.specs.List.{slice_get}
use Rattle.std.specs.Option.{option_map}
use Rattle.std.proofs.lemmas.Bool.{ltb-false, leb-true, and_parts}
use Rattle.std.proofs.lemmas.Option.{same_Some}
use Rattle.ipa_spec.specs.Limits.{first_there}
use Rattle.ipa_spec.specs.FaultlessFits.{none_there, fault_if-None}
use Rattle.ipa_spec.specs.declared.faults.SpecFault.{SpecFault}
use Rattle.ipa_spec.specs.declared.faults.SpecFault.TheVariants as fault
use Rattle.ipa_names.specs.Counts.{limits_passed}
use Rattle.ipa_reader.specs.Ordering.{is_out_of_order}
use Rattle.ipa_reader.specs.Refusals.{line_has, faults_at, is_missing, setup_limit_at, setup_above, replicas_outside, first_kind, kind_if, refusals_at, refusal_at}
use Rattle.ipa_names.specs.declared.flaws.Flaw.{Flaw}
use Rattle.ipa_names.specs.declared.flaws.Flaw.TheVariants.{Arity, SortMismatch, UnknownName, Duplicate, WildAdd, FreeVariable}
use Rattle.ipa_forms.specs.declared.forms.Form.{Form}
use Rattle.ipa_reader.specs.declared.refusals.DocKind.{DocKind}
use Rattle.ipa_reader.specs.declared.refusals.DocKind.TheVariants as kind
use Rattle.ipa_reader.specs.declared.standing.Standing.{Standing}

pub record Unrefused (s : Standing) (line : Form) : Type 0 where
  pub flawless : (flaw : Flaw) → line_has flaw s line ≡ false
  pub limits : (n : ℕ) (o : Option SpecFault) → slice_get (limits_passed s.declared line) n ≡ Some o → o ≡ None
  pub ordered : is_out_of_order s.place line ≡ false
  pub missing : is_missing s line ≡ false
  pub setup_limit : setup_limit_at s line ≡ None

no_kind : (options : List (Option DocKind)) → first_kind options ≡ None → (n : ℕ) (o : Option DocKind) → slice_get options n ≡ Some o → o ≡ None
no_kind [] h n o e = cc
no_kind (None ∷ rest) h zero o e = sym (same_Some _ _ e)
no_kind (None ∷ rest) h (suc n) o e = no_kind rest h n o e
no_kind (Some found ∷ rest) h n o e = cc

kind_if-None : (found : Bool) (named : DocKind) → kind_if found named ≡ None → found ≡ false
kind_if-None false named h = refl
kind_if-None true named h = cc

spec-None : (found : Option SpecFault) → option_map (λ f. kind.Spec f) found ≡ None → found ≡ None
spec-None None h = refl
spec-None (Some f) h = cc

flawless_of : (s : Standing) (line : Form) → first_there (faults_at s line) ≡ None → (flaw : Flaw) → line_has flaw s line ≡ false
flawless_of s line h Arity = fault_if-None _ fault.Arity (none_there (faults_at s line) h 0 _ refl)
flawless_of s line h SortMismatch = fault_if-None _ fault.SortMismatch (none_there (faults_at s line) h 1 _ refl)
flawless_of s line h UnknownName = fault_if-None _ fault.UnknownName (none_there (faults_at s line) h 2 _ refl)
flawless_of s line h Duplicate = fault_if-None _ fault.Duplicate (none_there (faults_at s line) h 3 _ refl)
flawless_of s line h WildAdd = fault_if-None _ fault.WildAdd (none_there (faults_at s line) h 4 _ refl)
flawless_of s line h FreeVariable = fault_if-None _ fault.FreeVariable (none_there (faults_at s line) h 5 _ refl)

pub unrefused : (s : Standing) (line : Form) → refusal_at s line ≡ None → Unrefused s line
unrefused s line h =
    let spec = spec-None (first_there (faults_at s line)) (no_kind (refusals_at s line) h 0 _ refl) in
    record {
      flawless = flawless_of s line spec;
      limits = none_there (limits_passed s.declared line) (none_there (faults_at s line) spec 6 _ refl);
      ordered = kind_if-None (is_out_of_order s.place line) kind.Order (no_kind (refusals_at s line) h 1 _ refl);
      missing = kind_if-None (is_missing s line) kind.UnknownElement (no_kind (refusals_at s line) h 2 _ refl);
      setup_limit = no_kind (refusals_at s line) h 3 _ refl;
    }

setup_unfound : (test : Bool) (named : DocKind) → cond test (Some named) None ≡ None → test ≡ false
setup_unfound false named h = refl
setup_unfound true named h = cc

pub setup_kept : (which most count : ℕ) → setup_above which most count ≡ None → count ≤ most
setup_kept which most count h = ltb-false most count (setup_unfound _ (kind.SetupLimit which count) h)

replicas_found : (test : Bool) (named : DocKind) → cond test None (Some named) ≡ None → test ≡ true
replicas_found true named h = refl
replicas_found false named h = cc

pub replicas_kept : (number : ℕ) → replicas_outside number ≡ None → (1 ≤ number) × (number ≤ 8)
replicas_kept number h =
    let inside = and_parts (leb 1 number) (leb number 8) (replicas_found (leb 1 number && leb number 8) (kind.SetupLimit 15 number) h) in
    (leb-true 1 number inside.0, leb-true number 8 inside.1)
