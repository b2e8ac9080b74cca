-- Reading one line more.
--
--   read_more     the line is taken
--   fault_here    the line is refused
use Rattle.std.proofs.Common.{◌≡◌, ℕ, List, [], ◌∷◌, ◌++◌, length, take, Some, None, sym, ap, subst, ◌∙◌, arith}
use Rattle.std.specs.List.{slice_get}
use Rattle.std.proofs.lemmas.List.{take-append-le, take_all}
use Rattle.ipa_text.specs.Lines.{line_text, lines_of}
use Rattle.ipa_text.specs.declared.numbering.Line.{Line}
use Rattle.ipa_reader.specs.Standings.{next_standing}
use Rattle.ipa_reader.specs.Refusals.{refusal_at}
use Rattle.ipa_reader.specs.Documents.{Says, SayEach, IsRefusedLine, IsRefused}
use Rattle.ipa_reader.specs.Documents.IsRefused.{at_line}
use Rattle.ipa_reader.specs.Soundness.{IsSoundStanding}
use Rattle.ipa_reader.specs.Readings.{TakesLine, IsLineFault, IsReadUpTo, IsFault}
use Rattle.ipa_reader.specs.declared.standing.Standing.{Standing}
use Rattle.ipa_reader.specs.declared.refusals.DocFault.{DocFault}
use Rattle.ipa_reader.specs.declared.refusals.DocFault.TheVariants as fault
use Rattle.ipa_reader.specs.declared.refusals.DocKind.{DocKind}
use Rattle.ipa_names.specs.ListLaws.{at_seam, AllZip-push, AllZip-length}
use Rattle.ipa_reader.specs.StandingLaws.{standing_of-push, accepted_push}
use Rattle.ipa_reader.proofs.SoundNext.{sound_next}

pub read_more : (bytes : List ℕ) (lines : List Line) (line : Line) (s next : Standing) → IsReadUpTo bytes lines s → TakesLine s (line_text bytes line) next → IsReadUpTo bytes (lines ++ line ∷ []) next
read_more bytes lines line s next h t = record {
  forms = h.forms ++ t.form ∷ [];
  said = AllZip-push (λ l form. Says (line_text bytes l) form) lines h.forms line t.form h.said t.says;
  accepted = accepted_push h.forms t.form h.accepted (subst (λ before. refusal_at before t.form ≡ None) h.standing_is t.accepted);
  standing_is = t.next_is ∙ ap (λ before. next_standing before t.form) h.standing_is ∙ sym (standing_of-push h.forms t.form);
  within = subst IsSoundStanding (sym t.next_is) (sound_next s t.form h.within t.accepted);
}

refused_here : (bytes : List ℕ) (lines later : List Line) (line : Line) (s : Standing) (number : ℕ) (kind : DocKind) → IsReadUpTo bytes lines s → lines ++ line ∷ later ≡ lines_of bytes → line.number ≡ number → IsRefusedLine s (line_text bytes line) kind → IsRefused bytes number kind
refused_here bytes lines later line s number kind h all is why =
    let as_long : length lines ≡ length h.forms = AllZip-length (λ l form. Says (line_text bytes l) form) lines h.forms h.said in
    let first : take (length h.forms) (lines_of bytes) ≡ lines =
    ap (take (length h.forms)) (sym all) ∙ take-append-le (length h.forms) lines (line ∷ later) (omega arith) ∙ take_all (length h.forms) lines (omega arith) in
    let here : slice_get (lines_of bytes) (length h.forms) ≡ Some line =
    subst (λ n. slice_get (lines_of bytes) n ≡ Some line) as_long (subst (λ ls. slice_get ls (length lines) ≡ Some line) all (at_seam lines later line)) in
    at_line (record {
      before = h.forms;
      line = line;
      said = subst (λ ls. SayEach bytes ls h.forms) (sym first) h.said;
      accepted = h.accepted;
      here = here;
      number_is = is;
      refused = subst (λ before. IsRefusedLine before (line_text bytes line) kind) h.standing_is why;
    })

pub fault_here : (bytes : List ℕ) (lines later : List Line) (line : Line) (s : Standing) (found : DocFault) → IsReadUpTo bytes lines s → lines ++ line ∷ later ≡ lines_of bytes → IsLineFault s (line_text bytes line) line.number found → IsFault bytes found
fault_here bytes lines later line s (fault.At number kind) h all f = refused_here bytes lines later line s number kind h all (sym f.0) f.1
fault_here bytes lines later line s fault.NoMemory h all f = tt
