use Rattle.std.proofs.Common.{ap, subst, ◌∙◌}
use Rattle.std.proofs.lemmas.List.Elements.{recursion_from_All}
use Rattle.ipa_text.specs.Lines.{lines_of}
use Rattle.ipa_forms.specs.Layout.{line_of}
use Rattle.ipa_names.specs.Meaning.{specification_of}
use Rattle.ipa_logic.specs.Facts.{has, IsStateOf}
use Rattle.ipa_reader.specs.Standings.{standing_of}
use Rattle.ipa_canonical.specs.Canonical.{canonical_text, forms_of}
use Rattle.ipa_canonical.specs.Sentences.{IsSaidBy}
use Rattle.ipa_canonical.proofs.SameForms.{same_forms}
use Rattle.ipa_reader.specs.Arrangements.{elements_at}
use Rattle.ipa_canonical.proofs.SetupUnsaid.{setup_unsaid, elements_said}
use Rattle.ipa_canonical.proofs.rereading.reads_as_itself.Goals as goal

pub returns : goal.returns
returns c = λ s document h reads.
    let said = recursion_from_All (λ f. IsSaidBy (line_of f) f) (forms_of s) (c.canonical_lines.ensures.said s h.faultless h.literals) in
    let forms = same_forms c.one_cut.ensures.tokens c.one_form.ensures (canonical_text s) (lines_of (canonical_text s)) reads.forms (forms_of s) reads.said (c.canonical_lines.ensures.lines s h.faultless h.literals) said in
    let arranged = ap (λ fs. (standing_of fs).arranged) forms in
    let unsaid = setup_unsaid s in
    let back = c.declares_itself.ensures s h in
    let sound = c.standing_is_sound.ensures.sound (forms_of s) (c.none_refused.ensures s h) in
    record {
      spec = reads.document_is.spec ∙ ap (λ fs. specification_of (standing_of fs).declared) forms ∙ back;
      elements = λ n. ap (λ es. elements_at es n) (reads.document_is.elements ∙ ap (λ a. a.elements) arranged) ∙ elements_said s back sound n;
      base = subst (λ facts. IsStateOf (has facts) document.setup.base) (ap (λ a. a.facts) arranged ∙ unsaid.facts) reads.document_is.base;
      replicas = reads.document_is.replicas ∙ ap (λ a. a.replicas) arranged ∙ unsaid.replicas;
      sessions = reads.document_is.sessions ∙ ap (λ a. a.sessions) arranged ∙ unsaid.sessions;
    }
