-- Reading one line more.
--
--   nothing_read     before the first line
--   read_more        the line is taken
--   fault_here       the line is refused
--   member_at_seam   what holds of all lines holds of the next
--   number_bounds    the number of a line is above 0 and at most the count of bytes and one
use Rattle.std.proofs.Common.{◌≡◌, ℕ, ◌+◌, ◌<◌, ◌≤◌, List, [], ◌∷◌, ◌++◌, length, take, Some, refl, sym, ap, subst, ◌∙◌, arith}
use Rattle.std.specs.List.{All}
use Rattle.std.specs.List.{AllByRecursion}
use Rattle.std.proofs.lemmas.List.{map-append, length-take}
use Rattle.std.proofs.lemmas.List.Elements.{All-from_recursion, All-push, recursion_from_All}
use Rattle.std.proofs.lemmas.List.Sums.{fold-append, count_by-le-length}
use Rattle.ipa_text.specs.Bytes.{is_line_feed}
use Rattle.ipa_text.specs.Lines.{lines_of, IsLine}
use Rattle.ipa_text.specs.declared.numbering.Line.{Line}
use Rattle.ipa_journal.specs.Order.{start}
use Rattle.ipa_journal.specs.Readings.{Context, Said, with_said, standing_of, IsSaid, IsReadUpTo, TakesLine, IsLineFault, IsFault}
use Rattle.ipa_journal.specs.Readings.IsRefused.{at_line}
use Rattle.ipa_journal.specs.declared.journal.JournalFault.{JournalFault}
use Rattle.ipa_journal.specs.declared.journal.JournalFault.TheVariants.{At, NoMemory}
use Rattle.ipa_journal.specs.declared.standing.Standing.{Standing}

pub nothing_read : (c : Context) (bytes : List ℕ) → IsReadUpTo c bytes [] start
nothing_read c bytes = record { said = []; lines_are = refl; each = All-from_recursion (IsSaid bytes) [] tt; standing_is = refl }

pub standing_of-push : (c : Context) (said : List Said) (x : Said) →
    standing_of c (said ++ x ∷ []) ≡ with_said c (standing_of c said) x
standing_of-push c said x = fold-append (with_said c) (Some start) said (x ∷ [])

pub read_more : (c : Context) (bytes : List ℕ) (lines : List Line) (line : Line) (st next : Standing) →
    IsReadUpTo c bytes lines st → TakesLine c bytes st line next → IsReadUpTo c bytes (lines ++ line ∷ []) next
read_more c bytes lines line st next h t =
    let x : Said = record { line = line; parts = t.parts } in
    record {
      said = h.said ++ x ∷ [];
      lines_are = map-append (λ y. y.line) h.said (x ∷ []) ∙ ap (λ ls. ls ++ line ∷ []) h.lines_are;
      each = All-push (IsSaid bytes) h.said x h.each t.has;
      standing_is = standing_of-push c h.said x ∙ ap (λ before. with_said c before x) h.standing_is ∙ t.next_is;
    }

pub fault_here : (c : Context) (bytes : List ℕ) (lines later : List Line) (line : Line) (st : Standing) (found : JournalFault) →
    IsReadUpTo c bytes lines st → lines ++ line ∷ later ≡ lines_of bytes → IsLineFault c bytes st line found →
    IsFault c bytes found
fault_here c bytes lines later line st (At number) h all f = at_line (record {
  before = lines;
  line = line;
  later = later;
  standing = st;
  lines_are = all;
  read = h;
  number_is = f.0;
  refused = f.1;
})
fault_here c bytes lines later line st NoMemory h all f = tt

at_seam : {X : Type 0} (P : X → Type 0) (xs ys : List X) (x : X) → AllByRecursion P (xs ++ x ∷ ys) → P x
at_seam P [] ys x h = h.0
at_seam P (y ∷ xs) ys x h = at_seam P xs ys x h.1

pub member_at_seam : {X : Type 0} (P : X → Type 0) (all xs ys : List X) (x : X) → All P all → xs ++ x ∷ ys ≡ all → P x
member_at_seam P all xs ys x h e = at_seam P xs ys x (subst (AllByRecursion P) (sym e) (recursion_from_All P all h))

take_within : (n : ℕ) (bytes : List ℕ) → length (take n bytes) ≤ length bytes
take_within n bytes = omega (arith, length-take n bytes)

pub number_bounds : (bytes : List ℕ) (line : Line) → IsLine bytes line → (0 < line.number) × (line.number ≤ length bytes + 1)
number_bounds bytes line h =
    let feeds = count_by-le-length is_line_feed (take line.start bytes) in
    let less = take_within line.start bytes in
    (omega (arith, h.number), omega (arith, h.number, feeds, less))
