-- The document of a number is short.
--
--   printed-short     a text is so much longer with more at its end
--   request-short     a request has at most 40 bytes
--   workload-short    the whole text has at most 32768
use Rattle.std.proofs.Common.{◌≡◌, ℕ, zero, suc, ◌+◌, ◌*◌, ◌%◌, ◌<◌, ◌≤◌, ◌==◌, nat_lt, Bool, true, false, if◌then◌else◌, List, [], ◌++◌, length, codes, Result, Ok, Err, IfOk, sym, subst, arith, lit≤, length-append}
use Rattle.std.specs.Fmt.{decimal}
use Rattle.std.proofs.lemmas.Fmt.{length-decimal-le}
use Rattle.ipa_work.specs.Tournament.{tournament}
use Rattle.ipa_work.specs.Workloads.{players, cups, replicas, sessions, each_to, with_elements, with_base, with_replicas, with_setup, begun, printed, next_draw, drawn, named, player, cup, of_player_and_cup, of_cup, of_players_and_cup, request_of, request, requests, session, first_sessions, workload}
use Rattle.ipa_work.specs.declared.workload.Workload.{Workload}

-- a number below 100 has at most two digits
digits-short : (n : ℕ) → n < 100 → length (decimal n) ≤ 2
digits-short n small = length-decimal-le 2 n (omega arith) (omega (arith, small)) (omega (arith, small))

printed-short : (more : List ℕ) (w : Workload) (k : ℕ) → length more ≤ k → length (printed more w).page ≤ length w.page + k
printed-short more w k few = omega (arith, few, length-append w.page more)

named-short : (letter : List ℕ) (count : ℕ) (w : Workload) → length letter ≤ 1 → 0 < count → count < 99 → length (named letter count w).page ≤ length w.page + 3
named-short letter count w one some few =
    let v = printed letter (drawn w) in
    let number = next_draw w % count + 1 in
    let low : number < 100 = omega (arith, some, few) in
    let first = printed-short letter (drawn w) 1 one in
    let last = printed-short (decimal number) v 2 (digits-short number low) in
    omega (arith, first, last)

player-short : (n : ℕ) (w : Workload) → length (player n w).page ≤ length w.page + 3
player-short n w = named-short (codes "p") (players n) w (lit≤ tt) (omega arith) (omega arith)

cup-short : (n : ℕ) (w : Workload) → length (cup n w).page ≤ length w.page + 3
cup-short n w = named-short (codes "k") (cups n) w (lit≤ tt) (omega arith) (omega arith)

of_player_and_cup-short : (front : List ℕ) (n : ℕ) (w : Workload) → length front ≤ 16 → length (of_player_and_cup front n w).page ≤ length w.page + 28
of_player_and_cup-short front n w few =
    let a = printed front w in
    let b = player n a in
    let c = printed (codes ",") b in
    let d = cup n c in
    let one = printed-short front w 16 few in
    let two = player-short n a in
    let three = printed-short (codes ",") b 1 (lit≤ tt) in
    let four = cup-short n c in
    let five = printed-short (codes ")\n") d 2 (lit≤ tt) in
    omega (arith, one, two, three, four, five)

of_cup-short : (front : List ℕ) (n : ℕ) (w : Workload) → length front ≤ 16 → length (of_cup front n w).page ≤ length w.page + 28
of_cup-short front n w few =
    let a = printed front w in
    let d = cup n a in
    let one = printed-short front w 16 few in
    let four = cup-short n a in
    let five = printed-short (codes ")\n") d 2 (lit≤ tt) in
    omega (arith, one, four, five)

of_players_and_cup-short : (n : ℕ) (w : Workload) → length (of_players_and_cup (codes "do match(") n w).page ≤ length w.page + 40
of_players_and_cup-short n w =
    let a = printed (codes "do match(") w in
    let b = player n a in
    let one = printed-short (codes "do match(") w 9 (lit≤ tt) in
    let two = player-short n a in
    let three = of_player_and_cup-short (codes ",") n b (lit≤ tt) in
    omega (arith, one, two, three)

either-short : (b : Bool) (v w : Workload) (k : ℕ) → length v.page ≤ k → length w.page ≤ k → length (if b then v else w).page ≤ k
either-short true v w k one other = one
either-short false v w k one other = other

request_of-short : (kind n : ℕ) (w : Workload) → length (request_of kind n w).page ≤ length w.page + 40
request_of-short kind n w =
    let most = length w.page + 40 in
    let enroll = of_player_and_cup (codes "do enroll(") n w in
    let disenroll = of_player_and_cup (codes "do disenroll(") n w in
    let begin = of_cup (codes "do begin(") n w in
    let finish = of_cup (codes "do finish(") n w in
    let match = of_players_and_cup (codes "do match(") n w in
    let show = of_cup (codes "show enrolled(*,") n w in
    let a : length enroll.page ≤ most = omega (arith, of_player_and_cup-short (codes "do enroll(") n w (lit≤ tt)) in
    let b : length disenroll.page ≤ most = omega (arith, of_player_and_cup-short (codes "do disenroll(") n w (lit≤ tt)) in
    let c : length begin.page ≤ most = omega (arith, of_cup-short (codes "do begin(") n w (lit≤ tt)) in
    let d : length finish.page ≤ most = omega (arith, of_cup-short (codes "do finish(") n w (lit≤ tt)) in
    let e : length match.page ≤ most = of_players_and_cup-short n w in
    let f : length show.page ≤ most = omega (arith, of_cup-short (codes "show enrolled(*,") n w (lit≤ tt)) in
    either-short (nat_lt kind 4) enroll _ most a
    (either-short (kind == 4) disenroll _ most b
    (either-short (kind == 5) begin _ most c
    (either-short (kind == 6) finish _ most d
    (either-short (kind == 7) match show most e f))))

request-short : (n : ℕ) (w : Workload) → length (request n w).page ≤ length w.page + 40
request-short n w = request_of-short (next_draw w % 10) n (drawn w)

requests-short : (count n : ℕ) (w : Workload) → length (requests count n w).page ≤ length w.page + 40 * count
unfolding requests
requests-short zero n w = omega arith
requests-short (suc count) n w =
    let before = requests-short count n w in
    let last = request-short n (requests count n w) in
    omega (arith, before, last)

session-short : (n k : ℕ) (w : Workload) → length (session n k w).page ≤ length w.page + 4020
session-short n k w =
    let digits = decimal (1 + k % replicas n) in
    let line = (codes "session " ++ digits) ++ codes "\n" in
    let few : length digits ≤ 2 = digits-short (1 + k % replicas n) (omega arith) in
    let long : length line ≤ 11 = omega (arith, few, length-append (codes "session " ++ digits) (codes "\n"), length-append (codes "session ") digits) in
    let one = printed-short line w 11 long in
    let all = requests-short 100 n (printed line w) in
    omega (arith, one, all)

first_sessions-short : (count n : ℕ) (w : Workload) → length (first_sessions count n w).page ≤ length w.page + 4020 * count
unfolding first_sessions
first_sessions-short zero n w = omega arith
first_sessions-short (suc count) n w =
    let before = first_sessions-short count n w in
    let last = session-short n count (first_sessions count n w) in
    omega (arith, before, last)

each_to-short : (count : ℕ) (text : ℕ → List ℕ) → ((k : ℕ) → k ≤ count → length (text k) ≤ 32) → length (each_to count text) ≤ 32 * count
unfolding each_to
each_to-short zero text few = omega arith
each_to-short (suc count) text few =
    let before = each_to-short count text (λ k low. few k (omega (arith, low))) in
    let last = few (suc count) (omega arith) in
    omega (arith, before, last, length-append (each_to count text) (text (suc count)))

word-short : (front : List ℕ) (k : ℕ) → length front ≤ 16 → k < 100 → length (front ++ decimal k) ≤ 18
word-short front k few small = omega (arith, few, digits-short k small, length-append front (decimal k))

line-short : (front : List ℕ) (k : ℕ) → length front ≤ 16 → k < 100 → length ((front ++ decimal k) ++ codes ")\n") ≤ 32
line-short front k few small = omega (arith, word-short front k few small, length-append (front ++ decimal k) (codes ")\n"))

with_elements-short : (n : ℕ) (text : List ℕ) → length (with_elements n text) ≤ length text + 1000
with_elements-short n text =
    let ps = each_to (players n) (λ k. codes " p" ++ decimal k) in
    let ks = each_to (cups n) (λ k. codes " k" ++ decimal k) in
    let a : length ps ≤ 32 * players n = each_to-short (players n) (λ k. codes " p" ++ decimal k) (λ k low. omega (arith, word-short (codes " p") k (lit≤ tt) (omega (arith, low)))) in
    let b : length ks ≤ 32 * cups n = each_to-short (cups n) (λ k. codes " k" ++ decimal k) (λ k low. omega (arith, word-short (codes " k") k (lit≤ tt) (omega (arith, low)))) in
    let t1 = text ++ codes "elem player" in
    let t2 = t1 ++ ps in
    let t3 = t2 ++ codes "\n" in
    let t4 = t3 ++ codes "elem cup" in
    let t5 = t4 ++ ks in
    omega (arith, a, b, length-append text (codes "elem player"), length-append t1 ps, length-append t2 (codes "\n"), length-append t3 (codes "elem cup"), length-append t4 ks, length-append t5 (codes "\n"))

with_base-short : (n : ℕ) (text : List ℕ) → length (with_base n text) ≤ length text + 1000
with_base-short n text =
    let ps = each_to (players n) (λ k. (codes "base player(p" ++ decimal k) ++ codes ")\n") in
    let ks = each_to (cups n) (λ k. (codes "base tourn(k" ++ decimal k) ++ codes ")\n") in
    let a : length ps ≤ 32 * players n = each_to-short (players n) (λ k. (codes "base player(p" ++ decimal k) ++ codes ")\n") (λ k low. line-short (codes "base player(p") k (lit≤ tt) (omega (arith, low))) in
    let b : length ks ≤ 32 * cups n = each_to-short (cups n) (λ k. (codes "base tourn(k" ++ decimal k) ++ codes ")\n") (λ k low. line-short (codes "base tourn(k") k (lit≤ tt) (omega (arith, low))) in
    omega (arith, a, b, length-append text ps, length-append (text ++ ps) ks)

with_replicas-short : (n : ℕ) (text : List ℕ) → length (with_replicas n text) ≤ length text + 20
with_replicas-short n text =
    let digits = decimal (replicas n) in
    let few : length digits ≤ 2 = digits-short (replicas n) (omega arith) in
    let t1 = text ++ codes "replicas " in
    omega (arith, few, length-append text (codes "replicas "), length-append t1 digits, length-append (t1 ++ digits) (codes "\n"))

tournament-short : length tournament ≤ 4096
unfolding tournament
tournament-short = lit≤ tt

setup-short : (n : ℕ) → length (with_setup n []) ≤ 7000
setup-short n =
    let t1 = [] ++ tournament in
    let t2 = with_elements n t1 in
    let t3 = with_base n t2 in
    omega (arith, tournament-short, with_elements-short n t1, with_base-short n t2, with_replicas-short n t3)

-- the whole text has at most 32768 bytes
pub workload-short : (n : ℕ) → length (workload n) ≤ 32768
workload-short n =
    let all = first_sessions-short (sessions n) n (begun n) in
    let setup = setup-short n in
    omega (arith, all, setup)

-- what is this text is so short
pub short-of : {X E : Type 0} (items : X → List ℕ) (n : ℕ) (r : Result X E) → IfOk r (λ x. items x ≡ workload n) → IfOk r (λ x. length (items x) ≤ 32768)
short-of items n (Ok x) is = subst (λ (text : List ℕ). length text ≤ 32768) (sym is) (workload-short n)
short-of items n (Err e) is = tt
