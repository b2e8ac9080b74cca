-- The order of lines.
--
--   is_setup line               a setup line: `elem`, `base`, `replicas`, `session`, `do` or `show`
--   last_but skipped lines      the last of the lines that is not skipped
--   place_of lines              what the order depends on, of these lines
--   next_place place line       where the line behind this one stands
--   is_out_of_order place line  a line of this form may not stand there
use Rattle.std.specs.Prelude.{Bool, true, false, not, ◌||◌, List, reverse, find, Option, if◌then◌else◌}
use Rattle.std.specs.List.{list_any}
use Rattle.std.specs.Option.{option_map_or}
use Rattle.ipa_forms.specs.declared.forms.Form.{Form}
use Rattle.ipa_forms.specs.declared.forms.Form.TheVariants.{Op, Need, Add, Del, Bound, Drops, Elem, Base, Replicas, Session, Do, Show}
use Rattle.ipa_reader.specs.declared.order.Place.{Place}

abbrev pub is_setup : Form → Bool
is_setup (Elem sort elements) = true
is_setup (Base predicate elements) = true
is_setup (Replicas number) = true
is_setup (Session number) = true
is_setup (Do operation elements) = true
is_setup (Show predicate places) = true
is_setup _ = false

abbrev pub is_operation : Form → Bool
is_operation (Op name params) = true
is_operation _ = false

-- a line that goes on with an operation
abbrev pub is_operation_part : Form → Bool
is_operation_part (Need literal) = true
is_operation_part (Add predicate args) = true
is_operation_part (Del predicate args) = true
is_operation_part _ = false

abbrev pub is_bound : Form → Bool
is_bound (Bound name predicate vars counted most pick) = true
is_bound _ = false

-- a line that goes on with a bound
abbrev pub is_bound_part : Form → Bool
is_bound_part (Drops predicate args) = true
is_bound_part _ = false

abbrev pub is_replicas : Form → Bool
is_replicas (Replicas number) = true
is_replicas _ = false

abbrev pub is_session : Form → Bool
is_session (Session number) = true
is_session _ = false

abbrev pub last_but : (Form → Bool) → List Form → Option Form
last_but skipped lines = find (λ line. not (skipped line)) (reverse lines)

abbrev pub place_of : List Form → Place
place_of lines = record {
  after_setup = list_any is_setup lines;
  after_operation = option_map_or is_operation (last_but is_operation_part lines) false;
  after_bound = option_map_or is_bound (last_but is_bound_part lines) false;
  after_replicas = list_any is_replicas lines;
  after_session = list_any is_session lines;
}

-- no specification line stands after a setup line; `need`, `add` and `del` go on with an `op`, and `drops` with a
-- `bound`; `do` and `show` want a session; `replicas` stands once, and before any session
abbrev pub is_out_of_order : Place → Form → Bool
is_out_of_order place (Need literal) = place.after_setup || not place.after_operation
is_out_of_order place (Add predicate args) = place.after_setup || not place.after_operation
is_out_of_order place (Del predicate args) = place.after_setup || not place.after_operation
is_out_of_order place (Drops predicate args) = place.after_setup || not place.after_bound
is_out_of_order place (Elem sort elements) = false
is_out_of_order place (Base predicate elements) = false
is_out_of_order place (Replicas number) = place.after_replicas || place.after_session
is_out_of_order place (Session number) = false
is_out_of_order place (Do operation elements) = not place.after_session
is_out_of_order place (Show predicate places) = not place.after_session
is_out_of_order place _ = place.after_setup

-- a line that goes on with an operation leaves open whether the next one may, and so for bounds; every other line
-- decides it
abbrev pub next_place : Place → Form → Place
next_place place line = record {
  after_setup = place.after_setup || is_setup line;
  after_operation = if is_operation_part line then place.after_operation else is_operation line;
  after_bound = if is_bound_part line then place.after_bound else is_bound line;
  after_replicas = place.after_replicas || is_replicas line;
  after_session = place.after_session || is_session line;
}
