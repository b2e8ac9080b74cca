-- The commits of a journal's lines, and the entries that they name.
--
--   any_more          a test of one item more
--   listed_has, has_listed   the commits that are listed are those of the lines
--   named_all         each operation's entry has its commit, where its commit is listed
--   named_none        one has none, where it is not
--   named_more, all_named, one_unlisted   one transaction after the other
--   complete_or       both tests together
use Rattle.std.proofs.Common.{◌≡◌, ℕ, ◌+◌, ◌<◌, ◌≤◌, Bool, true, false, ◌||◌, List, [], ◌∷◌, length, get_or, take, Some, slice_get, refl, sym, ◌∙◌, ap, arith, inl, inr}
use Rattle.std.specs.List.{list_any}
use Rattle.std.specs.Prelude.{MatchBool}
use Rattle.ipa_logic.specs.declared.facts.Request.{Request}
use Rattle.std.specs.Ordering.{nat_cmp, ordering_then, is_eq}
use Rattle.std.specs.declared.cmp.Ordering.{Ordering}
use Rattle.std.specs.declared.cmp.Ordering.TheVariants.{Less, Equal, Greater}
use Rattle.std.specs.Cmp.{nat_cmp_total, tied_itself}
use Rattle.std.proofs.lemmas.Bool.{false≢true, cases_lt}
use Rattle.std.proofs.lemmas.List.{take_more}
use Rattle.std.proofs.lemmas.List.Folds.{list_any-append}
use Rattle.std.proofs.lemmas.Map.Lookups.{exact_unsigned}
use Rattle.std.proofs.lemmas.Option.{slice_get-get_or, slice_get_within}
use Rattle.ipa_spec.specs.declared.operations.Action.{Action}
use Rattle.ipa_spec.specs.declared.operations.Action.TheVariants.{Op, Drop}
use Rattle.ipa_history.specs.MemberLaws.{found, any_from}
use Rattle.ipa_history.specs.declared.history.Tx.{Tx}
use Rattle.ipa_history.specs.declared.answers.Answer.{Answer}
use Rattle.ipa_history.specs.declared.answers.Answer.TheVariants.{Commit as Committed, Refused, Shown}
use Rattle.ipa_journal.specs.declared.journal.OutLine.{OutLine}
use Rattle.ipa_audit.specs.GoodLines.{HasCommit, AreAllAnswered, AreAllNamed, HasNameless, IsComplete, IsIncomplete}
use Rattle.ipa_audit.specs.GoodLines.IsIncomplete.{nameless}
use Rattle.ipa_audit.specs.Commits.{commit_cmp, is_listed, commit_of, is_commit_in, is_commit_of, is_named_as, is_named, AreNamed, HasUnlisted}
use Rattle.ipa_audit.specs.declared.missing.Commit.{Commit}

-- a test of one item more
pub any_more : {X : Type 0} (p : X → Bool) (xs : List X) (k : ℕ) (x : X) → k < length xs → x ≡ get_or xs k x →
    list_any p (take (k + 1) xs) ≡ (p x || list_any p (take k xs))
any_more p xs k x inside e =
    ap (list_any p) (take_more xs k x inside)
    ∙ (list_any-append p (take k xs) (get_or xs k x ∷ [])
    ∙ (ap (λ (y : _). list_any p (take k xs) || (p y || false)) (sym e) ∙ turned (list_any p (take k xs)) (p x)))
  where
    turned : (a b : Bool) → (a || (b || false)) ≡ (b || a)
    turned true true = refl
    turned true false = refl
    turned false true = refl
    turned false false = refl

then_equal : (a b : Ordering) → is_eq (ordering_then a b) ≡ true → (a ≡ Equal) × (b ≡ Equal)
then_equal Less b h = absurd (false≢true h)
then_equal Equal Less h = absurd (false≢true h)
then_equal Equal Equal h = (refl, refl)
then_equal Equal Greater h = absurd (false≢true h)
then_equal Greater b h = absurd (false≢true h)

-- commits that compare equal have the same parts
same_parts : (c d : Commit) → is_eq (commit_cmp c d) ≡ true → (c.session ≡ d.session) × (c.number ≡ d.number)
same_parts c d h =
    let parts = then_equal (nat_cmp c.session d.session) (nat_cmp c.number d.number) h in
    (exact_unsigned _ _ parts.0, exact_unsigned _ _ parts.1)

itself : (c : Commit) → is_eq (commit_cmp c c) ≡ true
itself c = rw (tied_itself nat_cmp_total c.session) (rw (tied_itself nat_cmp_total c.number) refl)

-- a line that is a commit
line_commits : (o : OutLine) (answer : Answer) (c : Commit) → is_commit_in o.session answer c ≡ true →
    (o.session ≡ c.session) × (answer ≡ Committed c.number)
line_commits o (Committed number) c h =
    let parts = same_parts (commit_of o.session number) c h in
    (parts.0, ap Committed parts.1)
line_commits o (Refused reason) c h = absurd (false≢true h)
line_commits o (Shown state) c h = absurd (false≢true h)

module _ (outs : List OutLine) (keys : List Commit)
    (listed : (c : Commit) → is_listed keys c ≡ list_any (λ o. is_commit_of o c) outs) where
  -- a commit that is listed is one of a line
  pub listed_has : (origin number : ℕ) → is_listed keys (commit_of origin number) ≡ true → HasCommit outs origin number
  listed_has origin number h =
      let c = commit_of origin number in
      let f = found (λ (o : OutLine). is_commit_of o c) outs (sym (listed c) ∙ h) in
      let parts = line_commits f.one f.one.answer c f.passes in
      record { line = f.one; member = f.member; session = parts.0; commits = parts.1 }

  -- and one of a line is listed
  pub has_listed : (origin number : ℕ) → HasCommit outs origin number → is_listed keys (commit_of origin number) ≡ true
  has_listed origin number has =
      let c = commit_of origin number in
      let answer : is_commit_in has.line.session has.line.answer c ≡ is_commit_in origin (Committed number) c =
      ap (λ (x : ℕ). is_commit_in x has.line.answer c) has.session
      ∙ ap (λ (x : Answer). is_commit_in origin x c) has.commits in
      listed c ∙ any_from (λ (o : OutLine). is_commit_of o c) outs has.line has.member (answer ∙ itself c)

  -- each operation's entry has its commit
  pub named_all : (h : List Tx) → AreNamed h keys → AreAllNamed h outs
  named_all h are = record {
    each = λ t op m action. listed_has t.dot.origin t.dot.number
        (ap (λ (a : Action). is_named_as a keys t) (sym action) ∙ are.each t m);
  }

  -- one has none
  pub named_none : (h : List Tx) → HasUnlisted h keys → HasNameless h outs
  named_none h has = by_action has.tx.action refl
    where
      by_action : (a : Action) → has.tx.action ≡ a → HasNameless h outs
      by_action (Op op) e = record {
        tx = has.tx;
        op = op;
        member = has.member;
        operation = e;
        none = λ c. false≢true (sym has.not ∙ (ap (λ (a : Action). is_named_as a keys has.tx) e
            ∙ has_listed has.tx.dot.origin has.tx.dot.number c));
      }
      by_action (Drop bound) e =
          absurd (false≢true (sym has.not ∙ ap (λ (a : Action). is_named_as a keys has.tx) e))

-- the first k are named
abbrev pub NamedUpTo : List Tx → List Commit → ℕ → Type 0
NamedUpTo h keys k = (j : ℕ) (t : Tx) → j < k → slice_get h j ≡ Some t → is_named keys t ≡ true

pub named_more : (h : List Tx) (keys : List Commit) (k : ℕ) (d : Tx) → k < length h →
    is_named keys (get_or h k d) ≡ true → NamedUpTo h keys k → NamedUpTo h keys (k + 1)
named_more h keys k d inside here before j t l at = elim (cases_lt j k) [
  | inl less ↦ before j t less at
  | inr last ↦
      let same : k ≡ j = omega (arith, l, last) in
      let both : Some (get_or h k d) ≡ Some t = sym (slice_get-get_or h k d inside) ∙ (ap (slice_get h) same ∙ at) in
      let item : get_or h k d ≡ t = cc in
      ap (is_named keys) (sym item) ∙ here
]

pub all_named : (h : List Tx) (keys : List Commit) (k : ℕ) → length h ≤ k → NamedUpTo h keys k → AreNamed h keys
all_named h keys k past before = record {
  each = λ t m. let inside = slice_get_within h m.place t m.at in before m.place t (omega (arith, inside, past)) m.at;
}

pub one_unlisted : (h : List Tx) (keys : List Commit) (k : ℕ) (d : Tx) → k < length h →
    is_named keys (get_or h k d) ≡ false → HasUnlisted h keys
one_unlisted h keys k d inside not = record {
  tx = get_or h k d;
  member = record { place = k; at = slice_get-get_or h k d inside };
  not = not;
}

-- each session has as many lines as requests, and each entry is named or one is not
pub complete_or : (requests : List (List Request)) (h : List Tx) (outs : List OutLine) (keys : List Commit) (b : Bool) →
    ((c : Commit) → is_listed keys c ≡ list_any (λ o. is_commit_of o c) outs) → AreAllAnswered requests outs
    → MatchBool b (AreNamed h keys) (HasUnlisted h keys)
    → MatchBool b (IsComplete requests h outs) (IsIncomplete requests h outs)
complete_or requests h outs keys true listed answered are = record {
  answered = answered;
  named = named_all outs keys listed h are;
}
complete_or requests h outs keys false listed answered has = nameless (named_none outs keys listed h has)
