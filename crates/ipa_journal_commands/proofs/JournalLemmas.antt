-- Where a journal begins, and from what is said of it to what the command says.
--
--   middle          one of a list of which all are so
--   start-at        it begins within the input
--   start-line      at a line whose number fits
--   verdict-of_input    the status of an audit is one that an input can have
--   item_of         the item of which something is a part
--   asked-each      each request of a document fits its setting
use Rattle.std.proofs.Common.{◌≡◌, ◌∙◌, Option, Some, None, slice_get, ◌+◌, ◌≤◌, ℕ, Bool, true, false, refl, List, [], ◌∷◌, ◌++◌, length, sym, subst, arith, if◌then◌else◌}
use Rattle.std.specs.List.{All, count_by}
use Rattle.std.specs.Option.{option_map}
use Rattle.std.proofs.lemmas.List.Elements.{All-head, All-tail}
use Rattle.std.proofs.lemmas.Option.{none-some, slice_get-map, same_Some}
use Rattle.std.proofs.lemmas.List.Sums.{count_by-le-length}
use Rattle.ipa_text.specs.Bytes.{is_line_feed}
use Rattle.ipa_text.specs.Lines.{IsLine, ends_open, lines_of, last_line}
use Rattle.ipa_text.specs.declared.numbering.Line.{Line}
use Rattle.ipa_logic.specs.declared.facts.Request.{Request}
use Rattle.ipa_reader.specs.Fitting.{IsFitting}
use Rattle.ipa_reader.specs.declared.document.Document.{Document}
use Rattle.ipa_reader.specs.declared.sessions.SessionWork.{SessionWork}
use Rattle.ipa_settings.specs.DocumentSettings.{setting_of}
use Rattle.ipa_journal.specs.Starts.{IsStart}
use Rattle.ipa_journal.specs.Starts.IsStart.{at_line, nowhere}
use Rattle.ipa_journal.specs.declared.starts.JournalStart.{JournalStart}
use Rattle.ipa_audit.specs.Steps.{AreAsked}
use Rattle.ipa_audit.specs.declared.verdict.Verdict.{Verdict}
use Rattle.ipa_audit.specs.declared.verdict.Verdict.TheVariants.{Legal, Bad}
use Rattle.ipa_journal_commands.specs.Audits.{verdict_status}
use Rattle.ipa_command.specs.Statuses.{is_of_input}

-- one of a list of which all are so
pub middle : (P : Line → Type 0) (xs : List Line) (x : Line) (ys : List Line) → All P (xs ++ x ∷ ys) → P x
middle P [] x ys all = All-head P x ys all
middle P (y ∷ xs) x ys all = middle P xs x ys (All-tail P y (xs ++ x ∷ ys) all)

-- what `every_line` says
abbrev pub EachIsLine : Type 0
EachIsLine = (bytes : List ℕ) → All (IsLine bytes) (lines_of bytes)

abbrev pub NoneIsLater : Type 0
NoneIsLater = (bytes : List ℕ) (line : Line) → IsLine bytes line → line.number ≤ last_line bytes

-- the last line has at most the number behind that of the bytes
one_more : (b : Bool) (n m : ℕ) → n ≤ m → n + (if b then 1 else 0) ≤ m + 1
one_more true n m low = omega (arith, low)
one_more false n m low = omega (arith, low)

last-few : (bytes : List ℕ) → last_line bytes ≤ length bytes + 1
last-few bytes =
    one_more (ends_open bytes) (count_by is_line_feed bytes) (length bytes) (count_by-le-length is_line_feed bytes)

-- it begins within the input
pub start-at : EachIsLine → (bytes : List ℕ) (start : JournalStart) → IsStart bytes start → start.at ≤ length bytes
start-at each bytes start (at_line h) =
    let line = middle (IsLine bytes) h.before h.line h.later
    (subst (λ (ls : List Line). All (IsLine bytes) ls) (sym h.lines_are) (each bytes)) in
    let at = h.at in
    let ordered = line.ordered in
    let within = line.within in
    omega (arith, at, ordered, within)
start-at each bytes start (nowhere h) = let at = h.at in omega (arith, at)

-- at a line whose number is at most two more than the bytes
pub start-line : EachIsLine → NoneIsLater → (bytes : List ℕ) (start : JournalStart) → IsStart bytes start →
    start.line ≤ length bytes + 2
start-line each later bytes start (at_line h) =
    let line = middle (IsLine bytes) h.before h.line h.later
    (subst (λ (ls : List Line). All (IsLine bytes) ls) (sym h.lines_are) (each bytes)) in
    let number = h.number in
    let low = later bytes h.line line in
    let few = last-few bytes in
    omega (arith, number, low, few)
start-line each later bytes start (nowhere h) =
    let number = h.number in
    let few = last-few bytes in
    omega (arith, number, few)

-- the status of an audit is one that an input can have
pub verdict-of_input : (v : Verdict) → is_of_input (verdict_status v) ≡ true
verdict-of_input (Legal n) = refl
verdict-of_input (Bad line fault) = refl

-- the item of which this is the part
pub item_of : {X Y : Type 0} (f : X → Y) (o : Option X) (y : Y) → option_map f o ≡ Some y →
    (x : X) × (o ≡ Some x) × (f x ≡ y)
item_of f None y e = absurd (none-some y e)
item_of f (Some x) y e = (x, refl, same_Some (f x) y e)

-- each request of a document fits its setting
pub asked-each : (document : Document) → IsFitting document.spec document.setup.universe.sizes document.setup.elements document.setup.base document.setup.sessions → AreAsked (setting_of document) document.setup.sessions
asked-each document fits = record {
  each = λ i j request at.
      let w = item_of (λ (work : SessionWork). work.requests) (slice_get document.setup.sessions i) at.list (sym (slice_get-map (λ (work : SessionWork). work.requests) document.setup.sessions i) ∙ at.list_at) in
      fits.requests i j w.0 request w.1 (subst (λ (list : List Request). slice_get list j ≡ Some request) (sym w.2) at.at);
}
