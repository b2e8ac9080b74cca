-- After an exchange all logs hold the same transactions.
--
--   one_entry            two entries of lawful logs under one dot are one
--   holds_cut            a log that has all that stands before a transaction holds its cut
--   given_all            what is given to a log in the order of another log is taken
--   IsSpread w links after     what an exchange over these links does
--   spread_links         it does so
--   same_after           after an exchange over all links all logs are the same
use Rattle.std.proofs.Common.{◌≡◌, ℕ, zero, suc, ◌+◌, ◌<◌, ◌≤◌, ◌⊎◌, inl, inr, Bool, true, false, List, [], ◌∷◌, ◌++◌, length, take, Some, None, slice_get, refl, sym, ◌∙◌, ap, subst, arith, append_assoc, append-nil}
use Rattle.std.specs.List.{list_any}
use Rattle.std.proofs.lemmas.Bool.{cases_lt, cases_eq, cases_Bool}
use Rattle.std.proofs.lemmas.Option.{slice_get_within}
use Rattle.std.proofs.Math.Seq.{take-append_seam}
use Rattle.ipa_clock.specs.declared.dot.Dot.{Dot}
use Rattle.ipa_clock.specs.declared.cut.Cut.{Cut}
use Rattle.ipa_clock.specs.Cut.{count_of, Covers}
use Rattle.ipa_history.specs.Histories.{IsMember, IsHistory, number_of}
use Rattle.ipa_history.specs.HistoryLaws as histories
use Rattle.ipa_history.specs.Clocks.{number_within}
use Rattle.ipa_history.specs.MemberLaws.{member_none, member_first, member_later, member_cases, member-append_left, member-append_right, member-append_cases, found, any_from, none_found}
use Rattle.ipa_history.specs.declared.history.Tx.{Tx}
use Rattle.ipa_lift.specs.StandingLaws.{is_named, named_itself, named_same}
use Rattle.ipa_world.specs.Worlds.{SeatParts, WorldParts, with_log}
use Rattle.ipa_world.specs.Steps.{IsGiven, IsNews}
use Rattle.ipa_world.specs.Steps.IsGiven.{takes, leaves}
use Rattle.ipa_world.specs.Lawful.{IsLawful, IsKnownBy, IsEntry, AreSame}
use Rattle.ipa_schedule.specs.Going.{RunParts, IsOffered, IsOfferedAll}
use Rattle.ipa_schedule.specs.Going.IsOffered.{passes, blocks, stopped}
use Rattle.ipa_schedule.specs.Schedules.{IsExchangeOver, IsExchange, IsExchanged, links_of}
use Rattle.ipa_schedule.specs.declared.turns.Turn.{Turn}
use Rattle.ipa_schedule.specs.declared.turns.Turn.TheVariants.{Session, Link}
use Rattle.ipa_schedule.proofs.Places.{set_cases, set_here, set_there}
use Rattle.ipa_schedule.specs.Running.{HasEntry, IsLater, IsTurnOf}
use Rattle.ipa_schedule.proofs.Later.{later_itself, later_same, later_along, later_given}
use Rattle.ipa_schedule.proofs.Listed.{links_are, link_listed}
use Rattle.ipa_schedule.proofs.Parts.{IsPart, turn_stays, part_itself, part_along, part_offered, part_offered_all, entry_of, both_full}

-- an entry was made by the session of its origin
made_by : (w : WorldParts) → IsLawful w → (r : ℕ) (t : Tx) → HasEntry w r t → IsKnownBy w t
made_by w lawful r t has = lawful.logs.made r has.log t has.log_at has.member

-- two entries under one dot are one
pub one_entry : (w : WorldParts) → IsLawful w → (r q : ℕ) (t u : Tx) → HasEntry w r t → HasEntry w q u → t.dot ≡ u.dot →
    t ≡ u
one_entry w lawful r q t u ht hu same =
    let one = made_by w lawful r t ht in
    let two = made_by w lawful q u hu in
    let origin : t.dot.origin ≡ u.dot.origin = ap (λ (d : Dot). d.origin) same in
    let both : Some one.seat ≡ Some two.seat =
    sym one.seat_at ∙ (ap (slice_get w.seats) origin ∙ two.seat_at) in
    let seat : two.seat ≡ one.seat = cc in
    let history = (lawful.seen t.dot.origin one.seat one.seat_at).session.legal.history in
    histories.one_named one.seat.seen history t u one.seen
    (subst (λ (s : SeatParts). IsMember s.seen u) seat two.seen) same

-- what stands after a front
middle_at : (xs : List Tx) (t : Tx) (ys : List Tx) → slice_get (xs ++ t ∷ ys) (length xs) ≡ Some t
middle_at [] t ys = refl
middle_at (x ∷ xs) t ys = middle_at xs t ys

-- a log that has all that stands before a transaction holds its cut
pub holds_cut : (front : List Tx) (t : Tx) (back other : List Tx) → IsHistory (front ++ t ∷ back) → IsHistory other →
    ((u : Tx) → IsMember front u → IsMember other u) → (origin : ℕ) → count_of t.cut origin ≤ number_of origin other
holds_cut front t back other is others has o = elim (cases_lt 0 (count_of t.cut o)) [
  | inr none ↦ omega (arith, none)
  | inl some ↦
      let dot : Dot = record { origin = o; number = count_of t.cut o } in
      let stands = is.seen (length front) t dot (middle_at front t back) some (omega arith) in
      let here : IsMember front stands.tx =
      subst (λ (xs : List Tx). IsMember xs stands.tx) (take-append_seam front (t ∷ back)) stands.member in
      let few = number_within other others stands.tx (has stands.tx here) in
      subst (λ (d : Dot). d.number ≤ number_of d.origin other) stands.named few
]

-- what is given is taken, where the log holds its cut
taken : (w : WorldParts) → IsLawful w → (from to : ℕ) (t : Tx) (next : WorldParts) → HasEntry w from t →
    ((log : List Tx) → slice_get w.logs to ≡ Some log → (o : ℕ) → count_of t.cut o ≤ number_of o log) →
    IsGiven w to t next → HasEntry next to t
taken w lawful from to t next has holds (takes k) = subst (λ (v : WorldParts). HasEntry v to t) (sym k.after_is) (record {
  log = k.log ++ t ∷ [];
  log_at = set_here w.logs to k.log (k.log ++ t ∷ []) k.log_at;
  member = member-append_right k.log (t ∷ []) t (member_first t []);
})
taken w lawful from to t next has holds (leaves k) =
    subst (λ (v : WorldParts). HasEntry v to t) (sym k.after_is)
    (record { log = k.log; log_at = k.log_at; member = there (cases_Bool (list_any (λ u. is_named u t) k.log)) })
  where
    there : (list_any (λ u. is_named u t) k.log ≡ true) ⊎ (list_any (λ u. is_named u t) k.log ≡ false) → IsMember k.log t
    there (inl named) =
        let f = found (λ u. is_named u t) k.log named in
        let here : HasEntry w to f.one = record { log = k.log; log_at = k.log_at; member = f.member } in
        subst (λ (u : Tx). IsMember k.log u)
        (one_entry w lawful to from f.one t here has (named_same f.one t f.passes)) f.member
    there (inr unnamed) = absurd (k.no_news (record {
      lacks = λ m. none_found (λ u. is_named u t) k.log unnamed t m (named_itself t);
      holds = holds k.log k.log_at;
    }))

-- the log of a replica that takes nothing stays
pub log_stays : (w : WorldParts) (from to : ℕ) (t : Tx) (next : WorldParts) (log : List Tx) → (from ≡ to → ⊥) →
    slice_get w.logs from ≡ Some log → IsGiven w to t next → slice_get next.logs from ≡ Some log
log_stays w from to t next log apart at (takes k) = ap (λ (v : WorldParts). slice_get v.logs from) k.after_is
    ∙ set_there w.logs to from (k.log ++ t ∷ []) log apart at
log_stays w from to t next log apart at (leaves k) = ap (λ (v : WorldParts). slice_get v.logs from) k.after_is ∙ at

-- what a log has after it was given a transaction
given_only : (w : WorldParts) (to : ℕ) (t : Tx) (next : WorldParts) → IsGiven w to t next → (q : ℕ) (u : Tx) →
    HasEntry next q u → HasEntry w q u ⊎ (t ≡ u)
given_only w to t next (leaves k) q u has = inl (subst (λ (v : WorldParts). HasEntry v q u) k.after_is has)
given_only w to t next (takes k) q u has =
    by_place (subst (λ (v : WorldParts). HasEntry v q u) k.after_is has)
  where
    by_place : HasEntry (with_log w to (k.log ++ t ∷ [])) q u → HasEntry w q u ⊎ (t ≡ u)
    by_place h = elim (set_cases w.logs to (k.log ++ t ∷ []) q h.log h.log_at) [
      | inr there ↦ inl (record { log = h.log; log_at = there; member = h.member })
      | inl here ↦ elim (member-append_cases k.log (t ∷ []) u
          (subst (λ (xs : List Tx). IsMember xs u) (sym here.1) h.member)) [
            | inl old ↦ inl (record {
              log = k.log;
              log_at = ap (slice_get w.logs) here.0 ∙ k.log_at;
              member = old;
            })
            | inr new ↦ elim (member_cases t [] u new) [ inl same ↦ inr same | inr none ↦ absurd (member_none u none) ]
          ]
    ]

-- sessions do not change where a transaction is given
seats_stay : (w : WorldParts) (to : ℕ) (t : Tx) (next : WorldParts) → IsGiven w to t next → next.seats ≡ w.seats
seats_stay w to t next (takes k) = ap (λ (v : WorldParts). v.seats) k.after_is
seats_stay w to t next (leaves k) = ap (λ (v : WorldParts). v.seats) k.after_is

-- an entry of some log
pub record IsSome (w : WorldParts) (t : Tx) : Type 0 where
  pub replica : ℕ
  pub has : HasEntry w replica t

-- what is done to a world by giving entries of its logs
pub record IsGivenOut (w after : WorldParts) : Type 0 where
  pub seats : after.seats ≡ w.seats
  pub only : (q : ℕ) (t : Tx) → HasEntry after q t → IsSome w t

given_out_itself : (w : WorldParts) → IsGivenOut w w
given_out_itself w = record { seats = refl; only = λ q t has. record { replica = q; has = has } }

given_out_along : (u v w : WorldParts) → IsGivenOut u v → IsGivenOut v w → IsGivenOut u w
given_out_along u v w one two = record {
  seats = two.seats ∙ one.seats;
  only = λ q t has. let s = two.only q t has in one.only s.replica t s.has;
}

given_out : (w : WorldParts) (from to : ℕ) (t : Tx) (next : WorldParts) → HasEntry w from t → IsGiven w to t next →
    IsGivenOut w next
given_out w from to t next has given = record {
  seats = seats_stay w to t next given;
  only = λ q u h. elim (given_only w to t next given q u h) [
    | inl old ↦ record { replica = q; has = old }
    | inr same ↦ record { replica = from; has = subst (λ (v : Tx). HasEntry w from v) same has }
  ];
}

-- what came of giving transactions to a replica
record IsGivenAll (r : RunParts) (to : ℕ) (log : List Tx) (after : RunParts) : Type 0 where
  out : IsGivenOut r.world after.world
  all : (t : Tx) → IsMember log t → HasEntry after.world to t

-- a run that was without room stays so
stays_full : (to : ℕ) (r : RunParts) (ts : List Tx) (after : RunParts) → IsOfferedAll r to ts after → r.full ≡ true →
    after.full ≡ false → ⊥
stays_full to r [] after same full going = both_full after.full (ap (λ (s : RunParts). s.full) same ∙ full) going
stays_full to r (t ∷ ts) after (next, passes p, rest) full going = both_full r.full full p.going
stays_full to r (t ∷ ts) after (next, blocks b, rest) full going = both_full r.full full b.going
stays_full to r (t ∷ ts) after (next, stopped s, rest) full going =
    stays_full to next ts after rest (ap (λ (q : RunParts). q.full) s.after_is ∙ s.full) going

module _ (from to : ℕ) (apart : from ≡ to → ⊥) (log : List Tx) where
  -- the transaction after those that the replica has is taken
  next_taken : (w : WorldParts) → IsLawful w → slice_get w.logs from ≡ Some log → (front : List Tx) (t : Tx)
      (back : List Tx) → front ++ t ∷ back ≡ log → ((u : Tx) → IsMember front u → HasEntry w to u) → (next : WorldParts)
      → IsGiven w to t next → HasEntry next to t
  next_taken w lawful at front t back whole has next given = taken w lawful from to t next
      (record {
        log = log;
        log_at = at;
        member = subst (λ (xs : List Tx). IsMember xs t) whole (member-append_right front (t ∷ back) t (member_first t back));
      })
      (λ other other_at. holds_cut front t back other
      (subst IsHistory (sym whole) (lawful.logs.logs from log at).legal.history)
      (lawful.logs.logs to other other_at).legal.history
      (λ u m. let h = has u m in
      let both : Some h.log ≡ Some other = sym h.log_at ∙ other_at in
      let one : h.log ≡ other = cc in
      subst (λ (xs : List Tx). IsMember xs u) one h.member))
      given

  -- what is given to a log in the order of another log is taken
  given_all : (r : RunParts) (front ts : List Tx) (after : RunParts) → front ++ ts ≡ log → IsLawful r.world →
      slice_get r.world.logs from ≡ Some log → ((u : Tx) → IsMember front u → HasEntry r.world to u) →
      IsOfferedAll r to ts after → after.full ≡ false → IsGivenAll r to log after
  given_all r front [] after whole lawful at has same going = record {
    out = subst (λ (s : RunParts). IsGivenOut r.world s.world) (sym same) (given_out_itself r.world);
    all = λ t m. subst (λ (s : RunParts). HasEntry s.world to t) (sym same)
        (has t (subst (λ (xs : List Tx). IsMember xs t) (sym (sym (append-nil front) ∙ whole)) m));
  }
  given_all r front (t ∷ ts) after whole lawful at has (next, passes p, rest) going =
      let here : HasEntry r.world from t = record {
        log = log;
        log_at = at;
        member = subst (λ (xs : List Tx). IsMember xs t) whole (member-append_right front (t ∷ ts) t (member_first t ts));
      } in
      let one = part_offered r to t next (entry_of r.world from t here) (passes p) in
      let world : next.world ≡ p.next = ap (λ (s : RunParts). s.world) p.after_is in
      let given : IsGiven r.world to t next.world = subst (λ (v : WorldParts). IsGiven r.world to t v) (sym world) p.given in
      let got = next_taken r.world lawful at front t ts whole has next.world given in
      let later = given_all next (front ++ t ∷ []) ts after (append_assoc front (t ∷ []) ts ∙ whole) (one.lawful lawful)
      (log_stays r.world from to t next.world log apart at given)
      (λ u m. elim (member-append_cases front (t ∷ []) u m) [
        | inl old ↦ one.later.entries to u (has u old)
        | inr new ↦ elim (member_cases t [] u new) [
          | inl same ↦ subst (λ (v : Tx). HasEntry next.world to v) same got
          | inr none ↦ absurd (member_none u none)
        ]
      ]) rest going in
      record {
        out = given_out_along r.world next.world after.world (given_out r.world from to t next.world here given) later.out;
        all = later.all;
      }
  given_all r front (t ∷ ts) after whole lawful at has (next, blocks b, rest) going =
      absurd (stays_full to next ts after rest (ap (λ (s : RunParts). s.full) b.after_is) going)
  given_all r front (t ∷ ts) after whole lawful at has (next, stopped s, rest) going =
      absurd (stays_full to next ts after rest (ap (λ (q : RunParts). q.full) s.after_is ∙ s.full) going)

-- once it is without room, an exchange ends without room
pub not_full : (r after : RunParts) → IsPart r after → after.full ≡ false → r.full ≡ false
not_full r after part going = by_test r.full refl
  where
    by_test : (b : Bool) → r.full ≡ b → b ≡ false
    by_test false e = refl
    by_test true e = absurd (both_full after.full (part.full e) going)

-- what an exchange over these links does
pub record IsSpread (r : RunParts) (links : List Turn) (after : RunParts) : Type 0 where
  pub out : IsGivenOut r.world after.world
  pub part : IsPart r after
  pub given : (from to : ℕ) (t : Tx) → IsMember links (Link from to) → HasEntry r.world from t → HasEntry after.world to t

-- over one link
spread_over : (r : RunParts) (from to : ℕ) (after : RunParts) → (from ≡ to → ⊥) → IsLawful r.world →
    IsExchangeOver r from to after → after.full ≡ false → IsSpread r (Link from to ∷ []) after
spread_over r from to after apart lawful over going =
    let all = given_all from to apart over.log r [] over.log after refl lawful over.log_at (λ u m. absurd (member_none u m))
    over.offered going in
    record {
      out = all.out;
      part = part_offered_all r from to over.log after (λ t m. record { log = over.log; log_at = over.log_at; member = m })
          over.offered;
      given = λ f g t m has. by_link all.all f g t (member_cases (Link from to) [] (Link f g) m) has;
    }
  where
    by_link : ((t : Tx) → IsMember over.log t → HasEntry after.world to t) → (f g : ℕ) (t : Tx) →
        (Link from to ≡ Link f g) ⊎ IsMember [] (Link f g) → HasEntry r.world f t → HasEntry after.world g t
    by_link all f g t (inr none) has = absurd (member_none (Link f g) none)
    by_link all f g t (inl same) has =
        let sends : from ≡ f = cc in
        let receives : to ≡ g = cc in
        let both : Some has.log ≡ Some over.log = sym has.log_at ∙ (ap (slice_get r.world.logs) (sym sends) ∙ over.log_at) in
        let one : has.log ≡ over.log = cc in
        subst (λ (k : ℕ). HasEntry after.world k t) receives
        (all t (subst (λ (xs : List Tx). IsMember xs t) one has.member))

-- the links are links of the world
abbrev pub AreLinks : WorldParts → List Turn → Type 0
AreLinks w links = (turn : Turn) → IsMember links turn → IsTurnOf w turn

pub links_stay : (w after : WorldParts) (links : List Turn) → IsLater w after → AreLinks w links → AreLinks after links
links_stay w after links later are turn m = turn_stays w after turn later (are turn m)

-- over each of the links
pub spread_links : (r : RunParts) (links : List Turn) (after : RunParts) → AreLinks r.world links → IsLawful r.world →
    IsExchange r links after → after.full ≡ false → IsSpread r links after
spread_links r [] after are lawful same going = subst (λ (s : RunParts). IsSpread r [] s) (sym same) (record {
  out = given_out_itself r.world;
  part = part_itself r;
  given = λ f g t m has. absurd (member_none (Link f g) m);
})
spread_links r (Session i ∷ links) after are lawful none going = absurd none
spread_links r (Link from to ∷ links) after are lawful (next, over, rest) going =
    let link = are (Link from to) (member_first (Link from to) links) in
    let part = part_offered_all r from to over.log next
    (λ t m. record { log = over.log; log_at = over.log_at; member = m }) over.offered in
    let still = links_stay r.world next.world links part.later (λ turn m. are turn (member_later (Link from to) links turn m)) in
    let two = spread_links next links after still (part.lawful lawful) rest going in
    let one = spread_over r from to next link.apart lawful over (not_full next after two.part going) in
    record {
      out = given_out_along r.world next.world after.world one.out two.out;
      part = part_along r next after part two.part;
      given = λ f g t m has. elim (member_cases (Link from to) links (Link f g) m) [
        | inl same ↦ two.part.later.entries g t (one.given f g t (subst (λ (l : Turn). IsMember (Link from to ∷ []) l) same
            (member_first (Link from to) [])) has)
        | inr later ↦ two.given f g t later (part.later.entries f t has)
      ];
    }

-- what is there in a lawful world stands at a replica
replica_there : (w : WorldParts) (q : ℕ) (t : Tx) → HasEntry w q t → q < length w.logs
replica_there w q t has = slice_get_within w.logs q has.log has.log_at

-- over all links
pub spread_all : (r after : RunParts) → IsLawful r.world → IsExchanged r after → after.full ≡ false →
    IsSpread r (links_of (length r.world.logs)) after
spread_all r after lawful exchanged going =
    spread_links r (links_of (length r.world.logs)) after (links_are r.world) lawful exchanged going

-- each entry comes to each replica
pub comes_to : (r after : RunParts) → IsSpread r (links_of (length r.world.logs)) after → (p q : ℕ) (t : Tx) →
    HasEntry r.world p t → q < length r.world.logs → HasEntry after.world q t
comes_to r after spread p q t has there = elim (cases_eq p q) [
  | inl same ↦ subst (λ (k : ℕ). HasEntry after.world k t) same (spread.part.later.entries p t has)
  | inr other ↦ spread.given p q t (link_listed (length r.world.logs) p q (replica_there r.world p t has) there other) has
]

-- after an exchange over all links all logs are the same
pub same_after : (r after : RunParts) → IsSpread r (links_of (length r.world.logs)) after → AreSame after.world.logs
same_after r after spread = record {
  each = λ p q one other t one_at other_at m.
      let s = spread.out.only p t (record { log = one; log_at = one_at; member = m }) in
      let same = spread.part.later.replicas in
      let inside = slice_get_within after.world.logs q other other_at in
      let has = comes_to r after spread s.replica q t s.has (omega (arith, inside, same)) in
      let both : Some has.log ≡ Some other = sym has.log_at ∙ other_at in
      let whole : has.log ≡ other = cc in
      subst (λ (xs : List Tx). IsMember xs t) whole has.member;
}
