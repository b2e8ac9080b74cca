-- Bytes have one reading: one journal, or one line that refuses them.
--
--   OneCut, CutApart    a line has one cut, or one bad byte
--   same_parts          the words of parts determine them
--   one_parts           a line has its parts in one way
--   one_standing        what is read behind some lines is one
--   refused_there       lines behind one that is refused are not read
use Rattle.std.proofs.Common.{◌≡◌, ℕ, ◌+◌, ◌-◌, List, [], ◌∷◌, ◌++◌, length, map, fold, None, Some, refl, sym, ap, subst, ◌∙◌, arith}
use Rattle.std.specs.List.{flat_map, join_by, AllByRecursion}
use Rattle.std.proofs.lemmas.List.Elements.{recursion_from_All}
use Rattle.std.proofs.lemmas.List.Sums.{fold-append}
use Rattle.ipa_spec.specs.NameLaws.{one_name}
use Rattle.ipa_spec.specs.declared.names.Name.{Name}
use Rattle.ipa_text.specs.Lines.{line_text, lines_of}
use Rattle.ipa_text.specs.Tokens.{IsBadByte, IsCutInto}
use Rattle.ipa_text.specs.declared.numbering.Line.{Line}
use Rattle.ipa_text.specs.declared.tokens.Token.{Token}
use Rattle.ipa_text.specs.declared.tokens.TokenKind.TheVariants.{Comma, Close}
use Rattle.ipa_forms.specs.Words.{sign, words_in}
use Rattle.ipa_forms.specs.Forms.{name_alone, names}
use Rattle.ipa_forms.specs.ListingLaws.{same_inside}
use Rattle.ipa_forms.specs.MemberLaws.{IsUnmixed-name_alone, IsOpen-name_alone}
use Rattle.ipa_journal.specs.Parts.{part_words, words_of, HasParts}
use Rattle.ipa_journal.specs.Unread.IsUnread.{bad_byte, no_parts}
use Rattle.ipa_journal.specs.Order.{start}
use Rattle.ipa_journal.specs.Readings.{Context, Said, with_said, next_of, standing_of, IsSaid, IsReadUpTo, ReadsAs, IsRefusedLine, IsRefusedAt, IsRefused}
use Rattle.ipa_journal.specs.Readings.IsRefusedLine.{unread, misplaced}
use Rattle.ipa_journal.specs.Readings.IsRefused.{at_line, at_end}
use Rattle.ipa_journal.specs.declared.parts.Part.{Part}
use Rattle.ipa_journal.specs.declared.parts.Part.TheVariants.{Word, Number, Group}
use Rattle.ipa_journal.specs.declared.journal.Journal.{Journal}
use Rattle.ipa_journal.specs.declared.standing.Standing.{Standing}
use Rattle.ipa_journal.proofs.PartLemmas.{IsUnmixed-part, part-some}
use Rattle.ipa_journal.proofs.StartLemmas.{OneCut}

abbrev pub CutApart : Type 0
CutApart = (line : List ℕ) (tokens : List Token) (at : ℕ) → IsCutInto line tokens → IsBadByte line at → ⊥

same_later : (ns ms : List Name) →
    flat_map (λ x. (sign Comma ∷ []) ++ name_alone x) ns ≡ flat_map (λ x. (sign Comma ∷ []) ++ name_alone x) ms → ns ≡ ms
same_later [] [] e = refl
same_later [] (m ∷ ms) e = absurd (cc)
same_later (n ∷ ns) [] e = absurd (cc)
same_later (n ∷ ns) (m ∷ ms) e =
    let head = one_name n m (cc) in
    let later = same_later ns ms (cc) in
    cc

same_inner : (ns ms : List Name) →
    join_by name_alone (sign Comma ∷ []) ns ≡ join_by name_alone (sign Comma ∷ []) ms → ns ≡ ms
same_inner [] [] e = refl
same_inner [] (m ∷ ms) e = absurd (cc)
same_inner (n ∷ ns) [] e = absurd (cc)
same_inner (n ∷ ns) (m ∷ ms) e =
    let head = one_name n m (cc) in
    let later = same_later ns ms (cc) in
    cc

same_group : (ns ms : List Name) → names ns ≡ names ms → ns ≡ ms
same_group ns ms e =
    let tail : join_by name_alone (sign Comma ∷ []) ns ++ sign Close ∷ [] ≡ join_by name_alone (sign Comma ∷ []) ms ++ sign Close ∷ [] = cc in
    same_inner ns ms ((same_inside name_alone IsUnmixed-name_alone IsOpen-name_alone ns ms [] [] tail).0)

same_part : (p q : Part) → part_words p ≡ part_words q → p ≡ q
same_part (Word n) (Word m) e = ap Word (one_name n m (cc))
same_part (Word n) (Number m) e = absurd (cc)
same_part (Word n) (Group ms) e = absurd (cc)
same_part (Number n) (Word m) e = absurd (cc)
same_part (Number n) (Number m) e = cc
same_part (Number n) (Group ms) e = absurd (cc)
same_part (Group ns) (Word m) e = absurd (cc)
same_part (Group ns) (Number m) e = absurd (cc)
same_part (Group ns) (Group ms) e = ap Group (same_group ns ms e)

pub same_parts : (ps qs : List Part) → words_of ps ≡ words_of qs → ps ≡ qs
same_parts [] [] e = refl
same_parts [] (q ∷ qs) e = absurd (omega (arith, part-some q (words_of qs), ap length e))
same_parts (p ∷ ps) [] e = absurd (omega (arith, part-some p (words_of ps), ap length e))
same_parts (p ∷ ps) (q ∷ qs) e =
    let cut = IsUnmixed-part p q (words_of ps) (words_of qs) e in
    let head = same_part p q cut.0 in
    let later = same_parts ps qs cut.1 in
    cc

module _ (one : OneCut) where
  pub one_parts : (text : List ℕ) (ps qs : List Part) → HasParts text ps → HasParts text qs → ps ≡ qs
  one_parts text ps qs h k =
      let same = one text h.tokens k.tokens h.cut k.cut in
      same_parts ps qs (sym h.words_are ∙ ap (words_in text) same ∙ k.words_are)

  same_said : (bytes : List ℕ) (x y : Said) → x.line ≡ y.line → IsSaid bytes x → IsSaid bytes y → x ≡ y
  same_said bytes x y e h k =
      let there = subst (λ line. HasParts (line_text bytes line) x.parts) e h in
      let parts = one_parts (line_text bytes y.line) x.parts y.parts there k in
      λ i. record { line = e i; parts = parts i }

  all_same : (bytes : List ℕ) (xs ys : List Said) → map (λ x. x.line) xs ≡ map (λ x. x.line) ys →
      AllByRecursion (IsSaid bytes) xs → AllByRecursion (IsSaid bytes) ys → xs ≡ ys
  all_same bytes [] [] e h k = refl
  all_same bytes [] (y ∷ ys) e h k = absurd (cc)
  all_same bytes (x ∷ xs) [] e h k = absurd (cc)
  all_same bytes (x ∷ xs) (y ∷ ys) e h k =
      let head = same_said bytes x y (cc) h.0 k.0 in
      let later = all_same bytes xs ys (cc) h.1 k.1 in
      cc

  pub one_standing : (c : Context) (bytes : List ℕ) (lines : List Line) (st other : Standing) →
      IsReadUpTo c bytes lines st → IsReadUpTo c bytes lines other → st ≡ other
  one_standing c bytes lines st other h k =
      let said = all_same bytes h.said k.said (h.lines_are ∙ sym k.lines_are) (recursion_from_All (IsSaid bytes) h.said h.each) (recursion_from_All (IsSaid bytes) k.said k.each) in
      let same : Some st ≡ Some other = sym h.standing_is ∙ ap (standing_of c) said ∙ k.standing_is in
      cc

  -- the same journal of the same standing
  pub same_journal : (c : Context) (bytes : List ℕ) (j k : Journal) → ReadsAs c bytes j → ReadsAs c bytes k → j ≡ k
  same_journal c bytes j k h g =
      let same = one_standing c bytes (lines_of bytes) h.standing g.standing h.read g.read in
      let transactions = h.journal_is.transactions ∙ ap (λ s. s.transactions) same ∙ sym g.journal_is.transactions in
      let outcomes = h.journal_is.outcomes ∙ ap (λ s. s.outcomes) same ∙ sym g.journal_is.outcomes in
      let last = h.journal_is.last ∙ ap (λ s. s.last) same ∙ sym g.journal_is.last in
      let last_line = h.journal_is.last_line ∙ ap (λ s. s.last_line) same ∙ sym g.journal_is.last_line in
      λ i. record { transactions = transactions i; outcomes = outcomes i; last = last i; last_line = last_line i }

-- what is read of lines, cut at one of them
record SplitAt (said : List Said) (before : List Line) (line : Line) : Type 0 where
  xs : List Said
  y : Said
  ys : List Said
  whole : said ≡ xs ++ y ∷ ys
  firsts : map (λ x. x.line) xs ≡ before
  at : y.line ≡ line

split_at : (said : List Said) (before rest : List Line) (line : Line) →
    map (λ x. x.line) said ≡ before ++ line ∷ rest → SplitAt said before line
split_at [] [] rest line e = absurd (cc)
split_at [] (b ∷ before) rest line e = absurd (cc)
split_at (x ∷ said) [] rest line e = record { xs = []; y = x; ys = said; whole = refl; firsts = refl; at = cc }
split_at (x ∷ said) (b ∷ before) rest line e =
    let later = split_at said before rest line (cc) in
    record {
      xs = x ∷ later.xs;
      y = later.y;
      ys = later.ys;
      whole = ap (λ t. x ∷ t) later.whole;
      firsts = let head : x.line ≡ b = cc in cc (head, later.firsts);
      at = later.at;
    }

parts_of_all : (P : Said → Type 0) (xs ys : List Said) (y : Said) → AllByRecursion P (xs ++ y ∷ ys) → AllByRecursion P xs × P y
parts_of_all P [] ys y h = (tt, h.0)
parts_of_all P (x ∷ xs) ys y h = let later = parts_of_all P xs ys y h.1 in ((h.0, later.0), later.1)

nothing_behind : (c : Context) (ys : List Said) → fold (with_said c) None ys ≡ None
nothing_behind c [] = refl
nothing_behind c (y ∷ ys) = nothing_behind c ys

module _ (one : OneCut) (apart : CutApart) where
  -- parts of the line, and their refusal
  not_both : (c : Context) (st : Standing) (line : Line) (text : List ℕ) (ps : List Part) → HasParts text ps →
      IsRefusedLine c st line text → next_of c st line ps ≡ None
  not_both c st line text ps h (unread (bad_byte b)) = absurd (apart text h.tokens b.at h.cut b.bad)
  not_both c st line text ps h (unread (no_parts p)) =
      absurd (p.none ps (ap (words_in text) (one text p.tokens h.tokens p.cut h.cut) ∙ h.words_are))
  not_both c st line text ps h (misplaced m) =
      ap (next_of c st line) (one_parts one text ps m.parts h m.has) ∙ m.against

  pub refused_there : (c : Context) (bytes : List ℕ) (before rest : List Line) (line : Line) (st other : Standing) →
      IsReadUpTo c bytes before st → IsRefusedLine c st line (line_text bytes line) →
      IsReadUpTo c bytes (before ++ line ∷ rest) other → ⊥
  refused_there c bytes before rest line st other h refused k =
      let split = split_at k.said before rest line k.lines_are in
      let each = subst (AllByRecursion (IsSaid bytes)) split.whole (recursion_from_All (IsSaid bytes) k.said k.each) in
      let both = parts_of_all (IsSaid bytes) split.xs split.ys split.y each in
      let firsts = all_same one bytes split.xs h.said (split.firsts ∙ sym h.lines_are) both.0 (recursion_from_All (IsSaid bytes) h.said h.each) in
      let there = subst (λ l. HasParts (line_text bytes l) split.y.parts) split.at both.1 in
      let none = subst (λ l. next_of c st l split.y.parts ≡ None) (sym split.at) (not_both c st line (line_text bytes line) split.y.parts there refused) in
      let reached : standing_of c split.xs ≡ Some st = ap (standing_of c) firsts ∙ h.standing_is in
      let all : standing_of c k.said ≡ None =
      ap (standing_of c) split.whole ∙ fold-append (with_said c) (Some start) split.xs (split.y ∷ split.ys)
      ∙ ap (λ s. fold (with_said c) (with_said c s split.y) split.ys) reached
      ∙ ap (λ s. fold (with_said c) s split.ys) none ∙ nothing_behind c split.ys in
      let absurdity : Some other ≡ None = sym k.standing_is ∙ all in
      cc

  pub read_or_refused : (c : Context) (bytes : List ℕ) (j : Journal) (number : ℕ) → ReadsAs c bytes j →
      IsRefused c bytes number → ⊥
  read_or_refused c bytes j number h (at_line r) =
      refused_there c bytes r.before r.later r.line r.standing h.standing r.read r.refused (subst (λ lines. IsReadUpTo c bytes lines h.standing) (sym r.lines_are) h.read)
  read_or_refused c bytes j number h (at_end r) =
      r.not_done (ap (λ s. s.place) (one_standing one c bytes (lines_of bytes) r.standing h.standing r.read h.read) ∙ h.done)

  -- lines that begin in two ways begin with the same, or one begins with the other and its next
  data Ordered (xs ys : List Line) (x y : Line) : Type 0 where
    same : xs ≡ ys → x ≡ y → Ordered xs ys x y
    first : (rest : List Line) → ys ≡ xs ++ x ∷ rest → Ordered xs ys x y
    second : (rest : List Line) → xs ≡ ys ++ y ∷ rest → Ordered xs ys x y

  ordered_more : (z : Line) (xs ys : List Line) (x y : Line) → Ordered xs ys x y → Ordered (z ∷ xs) (z ∷ ys) x y
  ordered_more z xs ys x y (same e f) = same (ap (λ t. z ∷ t) e) f
  ordered_more z xs ys x y (first rest e) = first rest (ap (λ t. z ∷ t) e)
  ordered_more z xs ys x y (second rest e) = second rest (ap (λ t. z ∷ t) e)

  ordered : (xs ys later behind : List Line) (x y : Line) → xs ++ x ∷ later ≡ ys ++ y ∷ behind → Ordered xs ys x y
  ordered [] [] later behind x y e = same refl (cc)
  ordered [] (z ∷ ys) later behind x y e = first ys (let head : x ≡ z = cc in cc)
  ordered (z ∷ xs) [] later behind x y e = second xs (let head : z ≡ y = cc in cc)
  ordered (z ∷ xs) (w ∷ ys) later behind x y e =
      let head : z ≡ w = cc in
      subst (λ v. Ordered (z ∷ xs) (v ∷ ys) x y) head (ordered_more z xs ys x y (ordered xs ys later behind x y (cc)))

  one_refusal : (c : Context) (bytes : List ℕ) (n m : ℕ) (a : IsRefusedAt c bytes n) (b : IsRefusedAt c bytes m) →
      Ordered a.before b.before a.line b.line → n ≡ m
  one_refusal c bytes n m a b (same e f) = a.number_is ∙ ap (λ l. c.first + (l.number - 1)) f ∙ sym b.number_is
  one_refusal c bytes n m a b (first rest e) =
      absurd (refused_there c bytes a.before rest a.line a.standing b.standing a.read a.refused (subst (λ lines. IsReadUpTo c bytes lines b.standing) e b.read))
  one_refusal c bytes n m a b (second rest e) =
      absurd (refused_there c bytes b.before rest b.line b.standing a.standing b.read b.refused (subst (λ lines. IsReadUpTo c bytes lines a.standing) e a.read))

  pub one_number : (c : Context) (bytes : List ℕ) (n m : ℕ) → IsRefused c bytes n → IsRefused c bytes m → n ≡ m
  one_number c bytes n m (at_line a) (at_line b) =
      one_refusal c bytes n m a b (ordered a.before b.before a.later b.later a.line b.line (a.lines_are ∙ sym b.lines_are))
  one_number c bytes n m (at_line a) (at_end b) =
      absurd (refused_there c bytes a.before a.later a.line a.standing b.standing a.read a.refused (subst (λ lines. IsReadUpTo c bytes lines b.standing) (sym a.lines_are) b.read))
  one_number c bytes n m (at_end a) (at_line b) =
      absurd (refused_there c bytes b.before b.later b.line b.standing a.standing b.read b.refused (subst (λ lines. IsReadUpTo c bytes lines a.standing) (sym b.lines_are) a.read))
  one_number c bytes n m (at_end a) (at_end b) = a.number_is ∙ sym b.number_is
