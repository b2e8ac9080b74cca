-- What a specification line is asked.
--
--   IsPlain s line   its names alone, and no element or limit of the setup
--   plain            so it is of each specification line
use Rattle.std.proofs.Common.{◌≡◌, false, None, refl}
use Rattle.ipa_forms.specs.declared.forms.Form.{Form}
use Rattle.ipa_forms.specs.declared.forms.Form.TheVariants.{Sort, Const, Pred, Clause, Op, Need, Add, Del, Bound, Drops, Elem, Base, Replicas, Session, Do, Show}
use Rattle.ipa_names.specs.Flaws.{specification_line_has}
use Rattle.ipa_names.specs.declared.flaws.Flaw.{Flaw}
use Rattle.ipa_reader.specs.Ordering.{is_setup}
use Rattle.ipa_reader.specs.Refusals.{line_has, is_missing, setup_limit_at}
use Rattle.ipa_reader.specs.declared.standing.Standing.{Standing}

-- what a specification line is asked, and no more
pub record IsPlain (s : Standing) (line : Form) : Type 0 where
  pub flaws : (flaw : Flaw) → line_has flaw s line ≡ specification_line_has flaw s.declared line
  pub missing : is_missing s line ≡ false
  pub setup : setup_limit_at s line ≡ None

pub plain : (s : Standing) (line : Form) → is_setup line ≡ false → IsPlain s line
unfolding line_has
plain s (Sort name) h = record { flaws = λ flaw. refl; missing = refl; setup = refl }
plain s (Const c) h = record { flaws = λ flaw. refl; missing = refl; setup = refl }
plain s (Pred name sorts rule) h = record { flaws = λ flaw. refl; missing = refl; setup = refl }
plain s (Clause name vars literals) h = record { flaws = λ flaw. refl; missing = refl; setup = refl }
plain s (Op name params) h = record { flaws = λ flaw. refl; missing = refl; setup = refl }
plain s (Need literal) h = record { flaws = λ flaw. refl; missing = refl; setup = refl }
plain s (Add predicate args) h = record { flaws = λ flaw. refl; missing = refl; setup = refl }
plain s (Del predicate args) h = record { flaws = λ flaw. refl; missing = refl; setup = refl }
plain s (Bound name predicate vars counted most pick) h = record { flaws = λ flaw. refl; missing = refl; setup = refl }
plain s (Drops predicate args) h = record { flaws = λ flaw. refl; missing = refl; setup = refl }
plain s (Elem sort names) h = cc
plain s (Base predicate names) h = cc
plain s (Replicas number) h = cc
plain s (Session number) h = cc
plain s (Do operation names) h = cc
plain s (Show predicate places) h = cc
