-- The canonical line of a form, as bytes.
--
--   name_text n, place_text p, typed_text v   a name, an argument, a variable with its sort
--   listed_text text xs                       the texts of xs, in parentheses and with commas between them
--   applied_text text n xs                    a name, and a list behind it
--   atom_text a, literal_text l               an atom, a literal
--   rule_text r                               a rule
--   pick_text p                               what ends the line of a bound: nothing where the greatest fact is picked
--   line_of form                              the canonical line, without its line feed
--   text_of form                              the canonical line, with its line feed
--   HasNumbers form                           the numbers of the form are below 2 ^ 32, as all that are read
use Rattle.std.specs.Prelude.{ℕ, ◌<◌, ◌^◌, List, [], ◌++◌, take, codes, Option, None, Some}
use Rattle.std.specs.List.{flat_map, join_by}
use Rattle.std.specs.Fmt.{decimal}
use Rattle.ipa_spec.specs.declared.names.Name.{Name}
use Rattle.ipa_spec.specs.declared.predicates.Rule.{Rule}
use Rattle.ipa_spec.specs.declared.predicates.Rule.TheVariants.{AddWins, RemoveWins}
use Rattle.ipa_spec.specs.declared.bounds.Pick.{Pick}
use Rattle.ipa_spec.specs.declared.bounds.Pick.TheVariants.{Greatest, Youngest}
use Rattle.ipa_forms.specs.declared.forms.Typed.{Typed}
use Rattle.ipa_forms.specs.declared.forms.AtomForm.{AtomForm}
use Rattle.ipa_forms.specs.declared.forms.LiteralForm.{LiteralForm}
use Rattle.ipa_forms.specs.declared.forms.LiteralForm.TheVariants.{Holds, Fails, Same, Differ}
use Rattle.ipa_forms.specs.declared.forms.Form.{Form}
use Rattle.ipa_forms.specs.declared.forms.Form.TheVariants.{Sort, Const, Pred, Clause, Op, Need, Add, Del, Bound, Drops, Elem, Base, Replicas, Session, Do, Show}

abbrev pub name_text : Name → List ℕ
name_text n = take n.len n.bytes

abbrev pub place_text : Option Name → List ℕ
place_text None = codes "*"
place_text (Some n) = name_text n

abbrev pub typed_text : Typed → List ℕ
typed_text v = name_text v.name ++ codes ":" ++ name_text v.sort

abbrev pub listed_text : {A : Type 0} → (A → List ℕ) → List A → List ℕ
listed_text text xs = codes "(" ++ join_by text (codes ",") xs ++ codes ")"

abbrev pub applied_text : {A : Type 0} → (A → List ℕ) → Name → List A → List ℕ
applied_text text n xs = name_text n ++ listed_text text xs

abbrev pub atom_text : AtomForm → List ℕ
atom_text a = applied_text name_text a.predicate a.args

abbrev pub literal_text : LiteralForm → List ℕ
literal_text (Holds a) = atom_text a
literal_text (Fails a) = codes "not " ++ atom_text a
literal_text (Same x y) = name_text x ++ codes " = " ++ name_text y
literal_text (Differ x y) = name_text x ++ codes " != " ++ name_text y

abbrev pub rule_text : Rule → List ℕ
rule_text AddWins = codes "addwins"
rule_text RemoveWins = codes "remwins"

abbrev pub pick_text : Pick → List ℕ
pick_text Greatest = []
pick_text Youngest = codes " youngest"

abbrev pub line_of : Form → List ℕ
line_of (Sort n) = codes "sort " ++ name_text n
line_of (Const c) = codes "const " ++ name_text c.name ++ codes ": " ++ name_text c.sort
line_of (Pred n sorts rule) = codes "pred " ++ applied_text name_text n sorts ++ codes " " ++ rule_text rule
line_of (Clause n vars literals) =
    codes "clause " ++ applied_text typed_text n vars ++ codes ": " ++ join_by literal_text (codes " or ") literals
line_of (Op n params) = codes "op " ++ applied_text typed_text n params
line_of (Need l) = codes "need " ++ literal_text l
line_of (Add p args) = codes "add " ++ applied_text place_text p args
line_of (Del p args) = codes "del " ++ applied_text place_text p args
line_of (Bound n p vars counted most pick) =
    codes "bound " ++ name_text n ++ codes " " ++ applied_text name_text p vars ++ codes " counts " ++ name_text counted
    ++ codes " most " ++ decimal most ++ pick_text pick
line_of (Drops p args) = codes "drops " ++ applied_text place_text p args
line_of (Elem sort elements) = codes "elem " ++ name_text sort ++ flat_map (λ n. codes " " ++ name_text n) elements
line_of (Base p elements) = codes "base " ++ applied_text name_text p elements
line_of (Replicas n) = codes "replicas " ++ decimal n
line_of (Session n) = codes "session " ++ decimal n
line_of (Do operation elements) = codes "do " ++ applied_text name_text operation elements
line_of (Show p places) = codes "show " ++ applied_text place_text p places

abbrev pub text_of : Form → List ℕ
text_of form = line_of form ++ codes "\n"

abbrev pub HasNumbers : Form → Type 0
HasNumbers (Bound n p vars counted most pick) = most < 2 ^ 32
HasNumbers (Replicas n) = n < 2 ^ 32
HasNumbers (Session n) = n < 2 ^ 32
HasNumbers _ = Unit {0}
