use Rattle.std.proofs.lemmas.List.Elements.{recursion_from_All}
use Rattle.ipa_spec.specs.FaultlessFits.{IsFit-from_faultless}
use Rattle.ipa_spec.specs.declared.specification.Specification.{Specification}
use Rattle.ipa_text.specs.Lines.{lines_of}
use Rattle.ipa_forms.specs.Layout.{line_of}
use Rattle.ipa_canonical.specs.Canonical.{canonical_text, forms_of}
use Rattle.ipa_canonical.specs.Sentences.{IsSaidBy}
use Rattle.ipa_canonical.specs.Printable.{IsPrintable}
use Rattle.ipa_reader.specs.Standings.{standing_of}
use Rattle.ipa_canonical.proofs.AcceptedWhole.{Printed, says_each, kept_back, read_back, read_or_refused, that_refusal}
use Rattle.ipa_canonical.proofs.rereading.is_read_back.Goals as goal

pub returns : goal.returns
returns c =
    let printed : (s : Specification) → IsPrintable s → Printed s = λ s h. record {
      said = says_each (canonical_text s) (lines_of (canonical_text s)) (forms_of s) (c.canonical_lines.ensures.lines s h.faultless h.literals) (recursion_from_All (λ f. IsSaidBy (line_of f) f) (forms_of s) (c.canonical_lines.ensures.said s h.faultless h.literals));
      accepted = c.none_refused.ensures s h;
      sound = c.standing_is_sound.ensures.sound (forms_of s) (c.none_refused.ensures s h);
      fitting = λ base state. c.standing_is_sound.ensures.fitting (standing_of (forms_of s)) base (c.standing_is_sound.ensures.sound (forms_of s) (c.none_refused.ensures s h)) state;
      back = c.declares_itself.ensures s h;
      fit = IsFit-from_faultless s h.faultless;
    } in
    record {
      exactly = λ s h. (kept_back s (printed s h), read_back s (printed s h));
      either = λ s h. read_or_refused s (printed s h);
      refusals = λ s line kind h. that_refusal s (printed s h) c.one_reading.ensures.refusals c.one_reading.ensures.apart line kind;
    }
