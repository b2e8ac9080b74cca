-- What is given over links, one entry after the other, and one link after the other.
--
--   IsGiving w p from to count place now so_far     the first entries of a log were given to another
--   gives_more, gives_full, gives_done     one more, without room for it, and all
--   IsExchanging w p links k now so_far     all was given over the first links
--   exchanges_more, exchanges_full, exchanges_done     one more, without room on it, and all
--   settled_first, settled_calm     a settling that ends early
use Rattle.std.proofs.Common.{◌≡◌, ℕ, zero, suc, ◌⊎◌, inl, inr, ◌+◌, ◌<◌, ◌≤◌, true, false, List, [], ◌∷◌, ◌++◌, length, take, drop, Some, slice_get, get_or, refl, sym, ◌∙◌, ap, subst, arith}
use Rattle.std.proofs.lemmas.List.{take_more, take_all, take-append-drop}
use Rattle.std.proofs.lemmas.Option.{slice_get_within, slice_get-get_or, get_or_from_slice_get}
use Rattle.ipa_history.specs.Histories.{IsMember}
use Rattle.ipa_history.specs.MemberLaws.{member_first, member_later, member-append_right}
use Rattle.ipa_history.specs.PushLaws.{at_place}
use Rattle.ipa_history.specs.declared.history.Tx.{Tx}
use Rattle.ipa_world.specs.Worlds.{WorldParts}
use Rattle.ipa_world.specs.Steps.{IsLink, IsDeliverable, IsDelivered, IsGiven}
use Rattle.ipa_world.specs.Room.{IsGiveFull}
use Rattle.ipa_world.specs.declared.steps.Step.TheVariants.{Pull, Deliver}
use Rattle.ipa_schedule.specs.Going.{RunParts, IsMoved, IsOffered, IsOfferedAll}
use Rattle.ipa_schedule.specs.Going.IsMoved.{goes, fills, stopped}
use Rattle.ipa_schedule.specs.Going.IsOffered.{passes, blocks, stopped as halted}
use Rattle.ipa_schedule.specs.Turns.{IsDropping}
use Rattle.ipa_schedule.specs.Turns.IsDropping.{stopped as ceased}
use Rattle.ipa_schedule.specs.Schedules.{links_of, IsExchangeOver, IsExchange, IsExchanged, IsFirstCalmed, IsCalmed, IsSettled}
use Rattle.ipa_schedule.specs.Schedules.IsCalmed.{first, nobody}
use Rattle.ipa_schedule.specs.Running.{HasEntry, IsLater, IsUnderWay, IsLinkOf, IsExchangeTurn, run_of, IsTurnOf}
use Rattle.ipa_schedule.specs.declared.progress.Progress.{Progress}
use Rattle.ipa_schedule.specs.declared.turns.Turn.{Turn}
use Rattle.ipa_schedule.specs.declared.turns.Turn.TheVariants.{Session, Link}
use Rattle.ipa_schedule.proofs.Later.{later_along}
use Rattle.ipa_schedule.proofs.Listed.{links_are, links_only}
use Rattle.ipa_schedule.proofs.Parts.{both_full}
use Rattle.ipa_schedule.proofs.Spreading.{AreLinks, links_stay, log_stays}

-- one more of a front
pub take_next : {X : Type 0} (xs : List X) (k : ℕ) (x : X) → slice_get xs k ≡ Some x →
    take (k + 1) xs ≡ take k xs ++ x ∷ []
take_next xs k x at = take_more xs k x (slice_get_within xs k x at)
    ∙ ap (λ (y : _). take k xs ++ y ∷ []) (get_or_from_slice_get xs k x x at)

-- an offer at the end of others
pub offered_push : (r : RunParts) (to : ℕ) (ts : List Tx) (t : Tx) (s after : RunParts) → IsOfferedAll r to ts s →
    IsOffered s to t after → IsOfferedAll r to (ts ++ t ∷ []) after
offered_push r to [] t s after same one =
    (after, subst (λ (q : RunParts). IsOffered q to t after) same one, refl)
offered_push r to (u ∷ us) t s after (next, here, rest) one = (next, here, offered_push next to us t s after rest one)

-- offers after others
pub offered_along : (r : RunParts) (to : ℕ) (ts us : List Tx) (s after : RunParts) → IsOfferedAll r to ts s →
    IsOfferedAll s to us after → IsOfferedAll r to (ts ++ us) after
offered_along r to [] us s after same rest = subst (λ (q : RunParts). IsOfferedAll q to us after) same rest
offered_along r to (t ∷ ts) us s after (next, here, there) rest =
    (next, here, offered_along next to ts us s after there rest)

-- without room nothing more is given
pub offered_none : (r : RunParts) (to : ℕ) (ts : List Tx) → r.full ≡ true → IsOfferedAll r to ts r
offered_none r to [] full = refl
offered_none r to (t ∷ ts) full = (r, halted (record { full = full; after_is = refl }), offered_none r to ts full)

-- the step that delivers an entry offers it
offered_step : (r : RunParts) (from to place : ℕ) (log : List Tx) (t : Tx) (after : RunParts) →
    slice_get r.world.logs from ≡ Some log → slice_get log place ≡ Some t → IsMoved r (Deliver from to place) after →
    IsOffered r to t after
offered_step r from to place log t after log_at at (goes g) =
    let d = g.step_is in
    let both : Some d.log ≡ Some log = sym d.log_at ∙ log_at in
    let one : d.log ≡ log = cc in
    let same : Some d.tx ≡ Some t = sym d.at ∙ (ap (λ (xs : List Tx). slice_get xs place) one ∙ at) in
    let tx : d.tx ≡ t = cc in
    passes (record {
      going = g.going;
      next = g.next;
      given = subst (λ (u : Tx). IsGiven r.world to u g.next) tx d.given;
      room = g.room;
      after_is = g.after_is;
    })
offered_step r from to place log t after log_at at (fills f) =
    let d = f.full in
    let both : Some d.log ≡ Some log = sym d.log_at ∙ log_at in
    let one : d.log ≡ log = cc in
    let same : Some d.tx ≡ Some t = sym d.at ∙ (ap (λ (xs : List Tx). slice_get xs place) one ∙ at) in
    let tx : d.tx ≡ t = cc in
    blocks (record {
      going = f.going;
      full = subst (λ (u : Tx). IsGiveFull r.world to u) tx d.full;
      after_is = f.after_is;
    })
offered_step r from to place log t after log_at at (stopped s) = halted s

-- the sender's log stays
sender_stays : (r : RunParts) (from to place : ℕ) (log : List Tx) (after : RunParts) → (from ≡ to → ⊥) →
    slice_get r.world.logs from ≡ Some log → IsMoved r (Deliver from to place) after →
    slice_get after.world.logs from ≡ Some log
sender_stays r from to place log after apart log_at (goes g) =
    ap (λ (s : RunParts). slice_get s.world.logs from) g.after_is
    ∙ log_stays r.world from to g.step_is.tx g.next log apart log_at g.step_is.given
sender_stays r from to place log after apart log_at (fills f) =
    ap (λ (s : RunParts). slice_get s.world.logs from) f.after_is ∙ log_at
sender_stays r from to place log after apart log_at (stopped s) =
    ap (λ (q : RunParts). slice_get q.world.logs from) s.after_is ∙ log_at

-- the first entries of a log of so many were given to another
pub record IsGiving (w : WorldParts) (p : Progress) (from to count place : ℕ) (now : WorldParts) (so_far : Progress) :
    Type 0 where
  pub going : so_far.full ≡ false
  pub way : IsUnderWay now so_far
  pub later : IsLater w now
  pub fates : so_far.fates ≡ p.fates
  pub link : IsLink now from to
  pub log : List Tx
  pub first_at : slice_get w.logs from ≡ Some log
  pub log_at : slice_get now.logs from ≡ Some log
  pub size : length log ≡ count
  pub given : IsOfferedAll (run_of w p) to (take place log) (run_of now so_far)

pub gives_none : (w : WorldParts) (p : Progress) (from to count : ℕ) → p.full ≡ false → IsUnderWay w p → IsLater w w →
    IsLink w from to → ((log : List Tx) → slice_get w.logs from ≡ Some log → count ≡ length log) →
    IsGiving w p from to count 0 w p
gives_none w p from to count going way later link size =
    let one = at_place w.logs from link.sends in
    record {
      going = going;
      way = way;
      later = later;
      fates = refl;
      link = link;
      log = one.0;
      first_at = one.1;
      log_at = one.1;
      size = sym (size one.0 one.1);
      given = refl;
    }

module _ (w : WorldParts) (p : Progress) (from to count place : ℕ) (now : WorldParts) (so_far : Progress)
    (is : IsGiving w p from to count place now so_far) where
  module _ (more : place < count) where
    -- the next entry can be delivered
    pub gives_next : IsDeliverable now from to place
    gives_next = record {
      link = is.link;
      log = is.log;
      log_at = is.log_at;
      there = let size = is.size in omega (arith, more, size);
    }

    here : (t : Tx) × (slice_get is.log place ≡ Some t)
    here = at_place is.log place (let size = is.size in omega (arith, more, size))

    module _ (next : WorldParts) (q : Progress) (moved : IsMoved (run_of now so_far) (Deliver from to place) (run_of next q)) where
      offered : IsOfferedAll (run_of w p) to (take (place + 1) is.log) (run_of next q)
      offered = subst (λ (ts : List Tx). IsOfferedAll (run_of w p) to ts (run_of next q))
          (sym (take_next is.log place here.0 here.1))
          (offered_push (run_of w p) to (take place is.log) here.0 (run_of now so_far) (run_of next q) is.given
          (offered_step (run_of now so_far) from to place is.log here.0 (run_of next q) is.log_at here.1 moved))

      -- one more
      pub gives_more : q.full ≡ false → IsUnderWay next q → IsLater now next → q.fates ≡ so_far.fates →
          IsGiving w p from to count (place + 1) next q
      gives_more going way later fates = record {
        going = going;
        way = way;
        later = later_along w now next is.later later;
        fates = fates ∙ is.fates;
        link = record {
          sends = let sends = is.link.sends in let same = later.replicas in omega (arith, sends, same);
          receives = let receives = is.link.receives in let same = later.replicas in omega (arith, receives, same);
          apart = is.link.apart;
        };
        log = is.log;
        first_at = is.first_at;
        log_at = sender_stays (run_of now so_far) from to place is.log (run_of next q) is.link.apart is.log_at moved;
        size = is.size;
        given = offered;
      }

      -- without room for it
      pub gives_full : q.full ≡ true → IsExchangeOver (run_of w p) from to (run_of next q)
      gives_full full = record {
        log = is.log;
        log_at = is.first_at;
        offered = subst (λ (ts : List Tx). IsOfferedAll (run_of w p) to ts (run_of next q))
            (take-append-drop (place + 1) is.log)
            (offered_along (run_of w p) to (take (place + 1) is.log) (drop (place + 1) is.log) (run_of next q)
            (run_of next q) offered (offered_none (run_of next q) to (drop (place + 1) is.log) full));
      }

  -- and all
  pub gives_done : count ≤ place → IsExchangeOver (run_of w p) from to (run_of now so_far)
  gives_done all = record {
    log = is.log;
    log_at = is.first_at;
    offered = subst (λ (ts : List Tx). IsOfferedAll (run_of w p) to ts (run_of now so_far))
        (take_all place is.log (let size = is.size in omega (arith, all, size))) is.given;
  }

-- an exchange over a link at the end of others
exchange_push : (r : RunParts) (links : List Turn) (link : Turn) (s after : RunParts) → IsExchange r links s →
    IsExchangeTurn s link after → IsExchange r (links ++ link ∷ []) after
exchange_push r [] (Link from to) s after same over =
    (after, subst (λ (q : RunParts). IsExchangeOver q from to after) same over, refl)
exchange_push r [] (Session i) s after same none = absurd none
exchange_push r (Link from to ∷ links) link s after (next, here, rest) over =
    (next, here, exchange_push next links link s after rest over)
exchange_push r (Session i ∷ links) link s after none over = absurd none

exchange_along : (r : RunParts) (links more : List Turn) (s after : RunParts) → IsExchange r links s →
    IsExchange s more after → IsExchange r (links ++ more) after
exchange_along r [] more s after same rest = subst (λ (q : RunParts). IsExchange q more after) same rest
exchange_along r (Link from to ∷ links) more s after (next, here, there) rest =
    (next, here, exchange_along next links more s after there rest)
exchange_along r (Session i ∷ links) more s after none rest = absurd none

-- without room nothing more is exchanged
exchange_none : (r : RunParts) (links : List Turn) → ((link : Turn) → IsMember links link → IsLinkOf r.world link) →
    r.full ≡ true → IsExchange r links r
exchange_none r [] are full = refl
exchange_none r (Link from to ∷ links) are full =
    let one = at_place r.world.logs from (are (Link from to) (member_first (Link from to) links)).sends in (
      r,
      record { log = one.0; log_at = one.1; offered = offered_none r to one.0 full },
      exchange_none r links (λ link m. are link (member_later (Link from to) links link m)) full,
    )
exchange_none r (Session i ∷ links) are full = absurd (are (Session i) (member_first (Session i) links))

-- a member of what is left after a front
member-drop : {X : Type 0} (k : ℕ) (xs : List X) (x : X) → IsMember (drop k xs) x → IsMember xs x
member-drop k xs x m = subst (λ (ys : List _). IsMember ys x) (take-append-drop k xs)
    (member-append_right (take k xs) (drop k xs) x m)

-- all was given over the first links
pub record IsExchanging (w : WorldParts) (p : Progress) (links : List Turn) (k : ℕ) (now : WorldParts)
    (so_far : Progress) : Type 0 where
  pub going : so_far.full ≡ false
  pub way : IsUnderWay now so_far
  pub later : IsLater w now
  pub fates : so_far.fates ≡ p.fates
  pub whole : links ≡ links_of (length w.logs)
  pub exchanged : IsExchange (run_of w p) (take k links) (run_of now so_far)

module _ (w : WorldParts) (p : Progress) (links : List Turn) (k : ℕ) (now : WorldParts) (so_far : Progress)
    (is : IsExchanging w p links k now so_far) where
  -- the links are links of the world
  still_links : (next : WorldParts) → IsLater w next → (link : Turn) → IsMember links link → IsLinkOf next link
  still_links next later link m = links_only next link
      (subst (λ (ls : List Turn). IsMember ls link)
      (is.whole ∙ ap links_of (sym later.replicas)) m)

  module _ (link : Turn) (at : slice_get links k ≡ Some link) where
    pub exchanges_next : IsLinkOf now link
    exchanges_next = still_links now is.later link (record { place = k; at = at })

    module _ (next : WorldParts) (q : Progress) (over : IsExchangeTurn (run_of now so_far) link (run_of next q)) where
      one_more : IsExchange (run_of w p) (take (k + 1) links) (run_of next q)
      one_more = subst (λ (ls : List Turn). IsExchange (run_of w p) ls (run_of next q)) (sym (take_next links k link at))
          (exchange_push (run_of w p) (take k links) link (run_of now so_far) (run_of next q) is.exchanged over)

      pub exchanges_more : q.full ≡ false → IsUnderWay next q → IsLater now next → q.fates ≡ so_far.fates →
          IsExchanging w p links (k + 1) next q
      exchanges_more going way later fates = record {
        going = going;
        way = way;
        later = later_along w now next is.later later;
        fates = fates ∙ is.fates;
        whole = is.whole;
        exchanged = one_more;
      }

      pub exchanges_full : IsLater now next → q.full ≡ true → IsExchanged (run_of w p) (run_of next q)
      exchanges_full later full = subst (λ (ls : List Turn). IsExchange (run_of w p) ls (run_of next q)) is.whole
          (subst (λ (ls : List Turn). IsExchange (run_of w p) ls (run_of next q)) (take-append-drop (k + 1) links)
          (exchange_along (run_of w p) (take (k + 1) links) (drop (k + 1) links) (run_of next q) (run_of next q) one_more
          (exchange_none (run_of next q) (drop (k + 1) links)
          (λ l m. still_links next (later_along w now next is.later later) l (member-drop (k + 1) links l m)) full)))

  pub exchanges_done : length links ≤ k → IsExchanged (run_of w p) (run_of now so_far)
  exchanges_done all = subst (λ (ls : List Turn). IsExchange (run_of w p) ls (run_of now so_far)) is.whole
      (subst (λ (ls : List Turn). IsExchange (run_of w p) ls (run_of now so_far)) (take_all k links all) is.exchanged)

-- without room a settling does nothing more
exchanged_none : (r : RunParts) → r.full ≡ true → IsExchanged r r
exchanged_none r full = exchange_none r (links_of (length r.world.logs)) (links_only r.world) full

calmed_none : (r : RunParts) → r.full ≡ true → (some : (0 < length r.world.seats) ⊎ (length r.world.seats ≡ 0)) →
    IsCalmed r r
calmed_none r full (inl some) = first some (record {
  pulled = r;
  pull = stopped (record { full = full; after_is = refl });
  drops = ceased r 0 r (record { full = full; after_is = refl });
})
calmed_none r full (inr none) = nobody none refl

some_or_none : (n : ℕ) → (0 < n) ⊎ (n ≡ 0)
some_or_none zero = inr refl
some_or_none (suc n) = inl (omega arith)

pub settled_first : (r after : RunParts) → IsExchanged r after → after.full ≡ true → IsSettled r after
settled_first r after one full = record {
  exchanged = after;
  first = one;
  calmed = after;
  calms = calmed_none after full (some_or_none (length after.world.seats));
  second = exchanged_none after full;
}

pub settled_calm : (r s after : RunParts) → IsExchanged r s → IsCalmed s after → after.full ≡ true → IsSettled r after
settled_calm r s after one two full = record {
  exchanged = s;
  first = one;
  calmed = after;
  calms = two;
  second = exchanged_none after full;
}

-- a first session that pulls without room
pub calmed_unpulled : (r after : RunParts) → 0 < length r.world.seats → IsMoved r (Pull 0) after → after.full ≡ true →
    IsCalmed r after
calmed_unpulled r after some pull full = first some (record {
  pulled = after;
  pull = pull;
  drops = ceased after 0 after (record { full = full; after_is = refl });
})
