-- The generated workload: the tournament, with players, cups, replicas, and sessions whose requests are drawn.
--
--   players n, cups n, replicas n, sessions n     how many of each the workload of a number has
--   each_to count text         the texts of the numbers from 1 to the count
--   with_elements n text, with_base n text     the text, and then the names, or what is known at the start
--   printed more w             the text so far with more at its end; w has the text and the generator of what is drawn
--   drawn w                    one number is drawn
--   player n w, cup n w        the name of a player, or of a cup, is drawn and printed
--   request_of kind n w        a request of a kind, from 0 to 9, with the names that are drawn for it
--   request n w                a request whose kind is drawn first
--   requests count n w         so many requests, in order
--   session n k w              session k, counted from 0, with 100 requests
--   first_sessions count n w   the first sessions, in order
--   with_setup n text          the text, and then what stands before the sessions
--   workload n                 the text of the workload of a number
use Rattle.std.specs.Prelude.{ℕ, ◌+◌, ◌%◌, suc, zero, nat_lt, ◌==◌, List, [], ◌++◌, codes, if◌then◌else◌}
use Rattle.std.specs.Fmt.{decimal}
use Rattle.rand_pcg.specs.Lcg.{started, increment_of}
use Rattle.rand_pcg.specs.Pcg.{pcg32, multiplier_64}
use Rattle.ipa_work.specs.Tournament.{tournament}
use Rattle.ipa_work.specs.declared.workload.Workload.{Workload}

-- how many players there are
abbrev pub players : ℕ → ℕ
players n = 4 + n % 13

-- how many cups
abbrev pub cups : ℕ → ℕ
cups n = 1 + n % 3

-- how many replicas
abbrev pub replicas : ℕ → ℕ
replicas n = 1 + n % 3

-- how many sessions
abbrev pub sessions : ℕ → ℕ
sessions n = 2 + n % 4

-- the texts of the numbers 1, 2, 3 and so on up to the count, one after the other
unfoldable pub each_to : ℕ → (ℕ → List ℕ) → List ℕ
each_to zero text = []
each_to (suc count) text = each_to count text ++ text (suc count)

-- the text, and then the names of the players and of the cups, in two lines
abbrev pub with_elements : ℕ → List ℕ → List ℕ
with_elements n text =
    (((((text ++ codes "elem player") ++ each_to (players n) (λ k. codes " p" ++ decimal k)) ++ codes "\n")
    ++ codes "elem cup") ++ each_to (cups n) (λ k. codes " k" ++ decimal k)) ++ codes "\n"

-- the text, and then that each player and each cup is known at the start
abbrev pub with_base : ℕ → List ℕ → List ℕ
with_base n text =
    (text ++ each_to (players n) (λ k. (codes "base player(p" ++ decimal k) ++ codes ")\n"))
    ++ each_to (cups n) (λ k. (codes "base tourn(k" ++ decimal k) ++ codes ")\n")

-- the text with more at its end
abbrev pub printed : List ℕ → Workload → Workload
printed more w = record w { page = w.page ++ more }

-- the number that is drawn next
abbrev pub next_draw : Workload → ℕ
next_draw w = (pcg32 w.words).0

-- the text as it is, and the next number drawn
abbrev pub drawn : Workload → Workload
drawn w = record w { words = (pcg32 w.words).1 }

-- the name of one of so many is drawn, and printed behind its letter
abbrev pub named : List ℕ → ℕ → Workload → Workload
named letter count w = printed (decimal (next_draw w % count + 1)) (printed letter (drawn w))

-- the name of a player is drawn and printed
abbrev pub player : ℕ → Workload → Workload
player n w = named (codes "p") (players n) w

-- the name of a cup is drawn and printed
abbrev pub cup : ℕ → Workload → Workload
cup n w = named (codes "k") (cups n) w

-- a request on a player and a cup, a request on a cup, and a request on two players and a cup
abbrev pub of_player_and_cup : List ℕ → ℕ → Workload → Workload
of_player_and_cup front n w = printed (codes ")\n") (cup n (printed (codes ",") (player n (printed front w))))

abbrev pub of_cup : List ℕ → ℕ → Workload → Workload
of_cup front n w = printed (codes ")\n") (cup n (printed front w))

abbrev pub of_players_and_cup : List ℕ → ℕ → Workload → Workload
of_players_and_cup front n w = of_player_and_cup (codes ",") n (player n (printed front w))

-- a request of a kind from 0 to 9: four kinds enrol and two show
abbrev pub request_of : ℕ → ℕ → Workload → Workload
request_of kind n w =
    if nat_lt kind 4 then of_player_and_cup (codes "do enroll(") n w
    else if kind == 4 then of_player_and_cup (codes "do disenroll(") n w
    else if kind == 5 then of_cup (codes "do begin(") n w
    else if kind == 6 then of_cup (codes "do finish(") n w
    else if kind == 7 then of_players_and_cup (codes "do match(") n w
    else of_cup (codes "show enrolled(*,") n w

-- a request whose kind is drawn first
abbrev pub request : ℕ → Workload → Workload
request n w = request_of (next_draw w % 10) n (drawn w)

-- so many requests, in order
unfoldable pub requests : ℕ → ℕ → Workload → Workload
requests zero n w = w
requests (suc count) n w = request n (requests count n w)

-- the line of a session, at the replicas in turn, and its 100 requests
abbrev pub session : ℕ → ℕ → Workload → Workload
session n k w = requests 100 n (printed ((codes "session " ++ decimal (1 + k % replicas n)) ++ codes "\n") w)

-- the first sessions, so many of them, in order
unfoldable pub first_sessions : ℕ → ℕ → Workload → Workload
first_sessions zero n w = w
first_sessions (suc count) n w = session n count (first_sessions count n w)

-- the text, and then the line of the replicas
abbrev pub with_replicas : ℕ → List ℕ → List ℕ
with_replicas n text = ((text ++ codes "replicas ") ++ decimal (replicas n)) ++ codes "\n"

-- the text, and then all that stands before the sessions
abbrev pub with_setup : ℕ → List ℕ → List ℕ
with_setup n text = with_replicas n (with_base n (with_elements n (text ++ tournament)))

-- the generator of a number before anything is drawn, behind the text before the sessions
abbrev pub begun : ℕ → Workload
begun n = record { page = with_setup n []; words = started 64 multiplier_64 n (increment_of 64 65) }

-- the text of the workload of a number
abbrev pub workload : ℕ → List ℕ
workload n = (first_sessions (sessions n) n (begun n)).page
