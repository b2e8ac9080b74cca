use Rattle.std.proofs.Common.{◌≡◌, ◌∙◌, ap, sym, true}
use Rattle.std.specs.List.{list_all}
use Rattle.ipa_forms.specs.Forms.{HasMembers}
use Rattle.ipa_forms.specs.Layout.{line_of, HasNumbers}
use Rattle.ipa_forms.specs.declared.forms.Form.{Form}
use Rattle.ipa_forms.proofs.LineByteLemmas.{is_shown, bytes_of-shown, line_of-content, no_line_feed, nothing_stripped}
use Rattle.ipa_forms.proofs.ReadBack.{reads_form, said_back, IsPrinted}
use Rattle.ipa_forms.proofs.form_laws.reads_back.Goals as goal

line_of-shown : IsPrinted → (f : Form) → HasMembers f → HasNumbers f → list_all is_shown (line_of f) ≡ true
line_of-shown printed f members numbers =
    let r = reads_form printed f members numbers in
    ap (list_all is_shown) (sym r.text_is) ∙ bytes_of-shown _ r.spellings r.readable

pub returns : goal.returns
returns c =
    let printed = c.one_spelling.ensures.printed in
    let written = c.written_line.ensures in
    record {
      form = λ f members numbers.
          let r = reads_form printed f members numbers in
          said_back f r members (written.cut r.spellings r.readable) (written.texts r.spellings) (written.kinds r.spellings);
      no_line_feed = λ f members numbers. no_line_feed (line_of f) (line_of-shown printed f members numbers);
      no_return = λ f members numbers. nothing_stripped (line_of f) (line_of-shown printed f members numbers);
      content = line_of-content;
    }
