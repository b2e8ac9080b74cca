use Rattle.std.proofs.Common.{◌≡◌, ℕ, List, map, subst, ◌∙◌}
use Rattle.std.proofs.lemmas.List.Elements.{All-from_recursion}
use Rattle.ipa_text.specs.Lines.{line_text, lines_of}
use Rattle.ipa_text.specs.Spellings.{HasNoLineFeed}
use Rattle.ipa_forms.specs.Layout.{line_of}
use Rattle.ipa_canonical.specs.Canonical.{forms_of}
use Rattle.ipa_canonical.specs.Sentences.{IsSaidBy}
use Rattle.ipa_canonical.proofs.LineLemmas.{all_kept, each_said, ended_lines, no_line_feeds, printable}
use Rattle.ipa_canonical.proofs.canonical_laws.canonical_lines.Goals as goal

pub returns : goal.returns
returns c =
    let written = c.written_text.ensures in
    let back = c.reads_back.ensures in
    record {
      lines = λ s h literals.
          let fs = forms_of s in
          let P : List ℕ → Type 0 = λ bytes. map (line_text bytes) (lines_of bytes) ≡ map line_of fs in
          let feeds = All-from_recursion HasNoLineFeed (map line_of fs) (no_line_feeds back.no_line_feed fs (printable s h literals)) in
          subst P (ended_lines fs) (written.texts (map line_of fs) feeds ∙ all_kept back.no_return back.content fs (printable s h literals));
      said = λ s h literals. All-from_recursion (λ form. IsSaidBy (line_of form) form) (forms_of s) (each_said back.form (forms_of s) (printable s h literals));
    }
