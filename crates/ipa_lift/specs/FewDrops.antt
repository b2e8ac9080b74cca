-- The drops of one origin are few: at most the facts of the base and twelve for each operation.
--
--   is_drop_of o t           the transaction is a drop of the origin
--   is_operation t           it is an operation
--   drops_of o h, operations_of h   the drops of an origin, and the operations, of a history
--   Coin                     a fact, and the transaction that added it, or none for a fact of the base
--   IsCoin t coin            what a drop removes: a maximal add of its cut, or a fact of the base that none has touched
--   coins_of base h          the coins of the base's facts and of the effects of operations
--   drops_are_few            the law: each drop has a coin, and no two of one origin have the same
use Rattle.std.proofs.Common.{◌≡◌, ℕ, zero, suc, ◌+◌, ◌*◌, ◌<◌, ◌≤◌, Bool, true, false, not, ◌&&◌, cond, List, [], ◌∷◌, ◌++◌, length, map, refl, sym, ◌∙◌, ap, subst, arith, Option, Some, None, slice_get, take, ◌⊎◌, inl, inr}
use Rattle.std.specs.Prelude.{filter, ◌==◌}
use Rattle.std.specs.Option.{option_map_or}
use Rattle.std.specs.Ordering.{is_eq}
use Rattle.std.proofs.lemmas.Bool.{false≢true, and_parts, both_ways, or_right, eq-eqb, eqb-true, not-true}
use Rattle.std.proofs.lemmas.List.{length-append, length-map}
use Rattle.std.proofs.lemmas.Option.{same_Some}
use Rattle.ipa_clock.specs.declared.dot.Dot.{Dot}
use Rattle.ipa_clock.specs.Cut.{is_covered, count_of}
use Rattle.ipa_spec.specs.Actions.{effects_of, drop_effects}
use Rattle.ipa_spec.specs.Fits.{IsFit}
use Rattle.ipa_spec.specs.declared.specification.Specification.{Specification}
use Rattle.ipa_spec.specs.declared.bounds.Bound.{Bound}
use Rattle.ipa_spec.specs.declared.operations.Action.{Action}
use Rattle.ipa_spec.specs.declared.operations.Action.TheVariants.{Op, Drop}
use Rattle.ipa_spec.specs.declared.operations.Effect.{Effect}
use Rattle.ipa_spec.specs.declared.operations.Operation.{Operation}
use Rattle.ipa_logic.specs.Facts.{Universe, has, fact_cmp}
use Rattle.ipa_logic.specs.FactLaws.{same_fact}
use Rattle.ipa_logic.specs.Touches.{gives, fact_given, has_rule, is_add_wins, some_gives, adds, removes}
use Rattle.ipa_logic.specs.Acceptance.{drop_fact}
use Rattle.ipa_logic.specs.DropLaws.{due_drop-true, drop_adds_nothing, drop_removes_its_fact}
use Rattle.ipa_logic.specs.declared.facts.Fact.{Fact}
use Rattle.ipa_history.specs.Histories.{IsMember, is_before, number_of, members_of}
use Rattle.ipa_history.specs.Values.{adds_fact, removes_fact, touches_fact, value_of}
use Rattle.ipa_history.specs.Ages.{age_of}
use Rattle.ipa_history.specs.Legality.{IsLegalAs, IsLegalHistory}
use Rattle.ipa_history.specs.MemberLaws.{member_cases, member_first, member_later, member_none, found, member-append_left, member-append_right, member-filter, filter_member}
use Rattle.ipa_history.specs.EffectLaws as effects
use Rattle.ipa_history.specs.HistoryLaws as histories
use Rattle.ipa_history.specs.HistoryLaws.{covers_covered, count_grows, member-take}
use Rattle.ipa_history.specs.declared.history.Tx.{Tx}

-- the action is an operation
abbrev pub is_op : Action → Bool
is_op (Op n) = true
is_op (Drop n) = false

-- the transaction is an operation
abbrev pub is_operation : Tx → Bool
is_operation t = is_op t.action

-- it is a drop of the origin
abbrev pub is_drop_of : ℕ → Tx → Bool
is_drop_of origin t = (t.dot.origin == origin) && not (is_operation t)

-- the drops of an origin
abbrev pub drops_of : ℕ → List Tx → List Tx
drops_of origin h = filter (is_drop_of origin) h

-- the operations of a history
abbrev pub operations_of : List Tx → List Tx
operations_of h = filter is_operation h

-- a list without what stands in a place
abbrev without : {X : Type 0} → ℕ → List X → List X
without k [] = []
without zero (x ∷ xs) = xs
without (suc k) (x ∷ xs) = x ∷ without k xs

length-without : {X : Type 0} (k : ℕ) (xs : List X) (x : X) → slice_get xs k ≡ Some x →
    length (without k xs) + 1 ≡ length xs
length-without k [] x e = absurd (let s : None ≡ Some x = e in cc)
length-without zero (y ∷ ys) x e = omega arith
length-without (suc k) (y ∷ ys) x e = let rest = length-without k ys x e in omega (arith, rest)

-- another member stays
member-without : {X : Type 0} (k : ℕ) (xs : List X) (x y : X) → slice_get xs k ≡ Some x → IsMember xs y → (y ≡ x → ⊥) →
    IsMember (without k xs) y
member-without k [] x y e m differs = absurd (member_none y m)
member-without zero (z ∷ zs) x y e m differs = elim (member_cases z zs y m) [
  | inl same ↦ absurd (differs (sym same ∙ same_Some z x e))
  | inr later ↦ later
]
member-without (suc k) (z ∷ zs) x y e m differs = elim (member_cases z zs y m) [
  | inl same ↦ record { place = 0; at = ap (λ (w : _). Some w) same }
  | inr later ↦ member_later z (without k zs) y (member-without k zs x y e later differs)
]

-- where each of some has one of others, and no two have the same, there are at most as many
pub no_more : {X Y : Type 0} (has_one : X → Y → Type 0) (xs : List X) (ys : List Y) →
    ((x : X) → IsMember xs x → (y : Y) × IsMember ys y × has_one x y) →
    ((j k : ℕ) (x z : X) (y : Y) → slice_get xs j ≡ Some x → slice_get xs k ≡ Some z → j < k → has_one x y →
    has_one z y → ⊥) →
    length xs ≤ length ys
no_more has_one [] ys each apart = omega arith
no_more has_one (x ∷ xs) ys each apart =
    let first = each x (member_first x xs) in
    let place = first.1.place in
    let shorter = length-without place ys first.0 first.1.at in
    let rest = no_more has_one xs (without place ys) (λ z m.
    let one = each z (member_later x xs z m) in (
      one.0,
      member-without place ys first.0 one.0 first.1.at one.1 (λ same.
          apart 0 (suc m.place) x z first.0 refl m.at (omega arith) first.2
          (subst (λ (w : _). has_one z w) same one.2)),
      one.2,
    ))
    (λ j k z w y e g l. apart (suc j) (suc k) z w y e g (omega (arith, l))) in
    omega (arith, rest, shorter)

-- two that stand one after the other in a filtered list do so in the list
record InOrder {X : Type 0} (xs : List X) (x z : X) : Type 0 where
  first : ℕ
  second : ℕ
  first_at : slice_get xs first ≡ Some x
  second_at : slice_get xs second ≡ Some z
  less : first < second

in_order_step : {X : Type 0} (p : X → Bool) (y : X) (ys kept : List X) (b : Bool) →
    ((j k : ℕ) (x z : X) → slice_get kept j ≡ Some x → slice_get kept k ≡ Some z → j < k → InOrder ys x z) →
    ((z : X) → IsMember kept z → IsMember ys z) →
    (j k : ℕ) (x z : X) → slice_get (cond b (y ∷ kept) kept) j ≡ Some x →
    slice_get (cond b (y ∷ kept) kept) k ≡ Some z → j < k →
    InOrder (y ∷ ys) x z
in_order_step p y ys kept false rest inside j k x z e g l = let o = rest j k x z e g l in
    record {
      first = suc o.first;
      second = suc o.second;
      first_at = o.first_at;
      second_at = o.second_at;
      less = omega
          (arith, o.less);
    }
in_order_step p y ys kept true rest inside j zero x z e g l = absurd (omega arith)
in_order_step p y ys kept true rest inside zero (suc k) x z e g l = let m = inside z (record { place = k; at = g }) in
    record { first = 0; second = suc m.place; first_at = e; second_at = m.at; less = omega arith }
in_order_step p y ys kept true rest inside (suc j) (suc k) x z e g l = let o = rest j k x z e g (omega arith) in
    record {
      first = suc o.first;
      second = suc o.second;
      first_at = o.first_at;
      second_at = o.second_at;
      less = omega
          (arith, o.less);
    }

in_order : {X : Type 0} (p : X → Bool) (xs : List X) (j k : ℕ) (x z : X) → slice_get (filter p xs) j ≡ Some x →
    slice_get (filter p xs) k ≡ Some z → j < k → InOrder xs x z
in_order p [] j k x z e g l = absurd (let s : None ≡ Some x = e in cc)
in_order p (y ∷ ys) j k x z e g l =
    in_order_step p y ys (filter p ys) (p y) (in_order p ys) (λ w m. let f = filter_member p ys w m in f.member) j k x z e g l

-- a fact, and the name of the transaction that added it; no transaction has the number 0, which stands for the base
pub record Coin : Type 0 where
  pub dot : Dot
  pub fact : Fact

-- the base has no transaction
abbrev pub no_dot : Dot
no_dot = record { origin = 0; number = 0 }

-- the coin of an effect of a transaction
abbrev pub coin_of : Specification → Tx → Effect → Coin
coin_of s u e = record { dot = u.dot; fact = fact_given s u.args e }

-- the coins of the effects of some transactions
abbrev pub coins_from : Specification → List Tx → List Coin
coins_from s [] = []
coins_from s (u ∷ us) = map (coin_of s u) (effects_of s u.action) ++ coins_from s us

-- the coins of the base's facts and of the effects of operations
abbrev pub coins_of : Specification → List Fact → List Tx → List Coin
coins_of s base h = map (λ f. record { dot = no_dot; fact = f }) base ++ coins_from s (operations_of h)

member-map : {X Y : Type 0} (f : X → Y) (xs : List X) (x : X) → IsMember xs x → IsMember (map f xs) (f x)
member-map f [] x m = absurd (member_none x m)
member-map f (y ∷ ys) x m = elim (member_cases y ys x m) [
  | inl same ↦ record { place = 0; at = ap (λ w. Some (f w)) same }
  | inr later ↦ member_later (f y) (map f ys) (f x) (member-map f ys x later)
]

coin-there : (s : Specification) (us : List Tx) (u : Tx) (e : Effect) → IsMember us u →
    IsMember (effects_of s u.action) e →
    IsMember (coins_from s us) (coin_of s u e)
coin-there s [] u e m n = absurd (member_none u m)
coin-there s (v ∷ us) u e m n = elim (member_cases v us u m) [
  | inl same ↦ member-append_left (map (coin_of s v) (effects_of s v.action)) (coins_from s us) (coin_of s u e)
      (subst (λ (w : Tx). IsMember (map (coin_of s w) (effects_of s w.action)) (coin_of s u e)) (sym same)
      (member-map (coin_of s u) (effects_of s u.action) e n))
  | inr later ↦ member-append_right (map (coin_of s v) (effects_of s v.action)) (coins_from s us) (coin_of s u e)
      (coin-there s us u e later n)
]

-- an operation has at most twelve effects
effects_few : (s : Specification) → IsFit s → (action : Action) → is_op action ≡ true →
    length (effects_of s action) ≤ 12
effects_few s fit (Drop n) h = absurd (false≢true h)
effects_few s fit (Op n) h = by_operation (slice_get s.operations n) refl
  where
    by_operation : (o : Option Operation) → slice_get s.operations n ≡ o →
        length (option_map_or (λ (q : Operation). q.effects) o []) ≤ 12
    by_operation None e = omega arith
    by_operation (Some q) e = fit.effect_count n q e

coins_few : (s : Specification) → IsFit s → (us : List Tx) → ((u : Tx) → IsMember us u → is_operation u ≡ true) →
    length (coins_from s us) ≤ 12 * length us
coins_few s fit [] all = omega arith
coins_few s fit (u ∷ us) all =
    let rest = coins_few s fit us (λ v m. all v (member_later u us v m)) in
    let own = effects_few s fit u.action (all u (member_first u us)) in
    let whole = length-append (map (coin_of s u) (effects_of s u.action)) (coins_from s us) in
    let mapped = length-map (effects_of s u.action) (coin_of s u) in
    omega (arith, rest, own, whole, mapped)

-- what a drop removes, and who added it: a maximal add of its cut, or none where the base's fact was not touched
pub record IsFromBase (s : Specification) (h : List Tx) (t : Tx) (coin : Coin) : Type 0 where
  pub number : coin.dot.number ≡ 0
  pub untouched : (v : Tx) → IsMember h v → is_before v t ≡ true → touches_fact s coin.fact v ≡ true → ⊥

pub record IsFromAdd (s : Specification) (h : List Tx) (t : Tx) (coin : Coin) : Type 0 where
  pub tx : Tx
  pub member : IsMember h tx
  pub named : tx.dot ≡ coin.dot
  pub before : is_before tx t ≡ true
  pub last : (v : Tx) → IsMember h v → is_before v t ≡ true → touches_fact s coin.fact v ≡ true →
      is_before tx v ≡ true → ⊥

pub record IsCoin (s : Specification) (h : List Tx) (t : Tx) (coin : Coin) : Type 0 where
  pub removes : removes_fact s coin.fact t ≡ true
  pub from : IsFromBase s h t coin ⊎ IsFromAdd s h t coin

module _ (s : Specification) (fit : IsFit s) (universe : Universe) (base : List Fact) (h : List Tx)
    (legal : IsLegalHistory s universe base h) where
  -- an earlier drop of the same origin has another coin
  coins_apart : (t u : Tx) (coin : Coin) → IsMember h t → IsMember h u → is_before t u ≡ true → IsCoin s h t coin →
      IsCoin s h u coin → ⊥
  coins_apart t u coin mt mu b one two =
      let touches = or_right (adds_fact s coin.fact t) (removes_fact s coin.fact t) one.removes in
      elim two.from [
        | inl untouched ↦ untouched.untouched t mt b touches
        | inr added ↦ elim one.from [
          | inl first ↦
              let positive = histories.positive h legal.history added.tx added.member in
              let same : added.tx.dot.number ≡ coin.dot.number = ap (λ (d : Dot). d.number) added.named in
              let none = first.number in
              absurd (omega (arith, positive, same, none))
          | inr first ↦
              let same : first.tx ≡ added.tx =
              histories.one_named h legal.history first.tx added.tx first.member added.member
              (first.named ∙ sym added.named) in
              added.last t mt b touches (subst (λ (x : Tx). is_before x t ≡ true) same first.before)
        ]
      ]

  -- of two of one origin the one that stands first is before the other
  own-before : (o : ℕ) (t u : Tx) (j k : ℕ) → slice_get h j ≡ Some t → slice_get h k ≡ Some u → j < k →
      t.dot.origin ≡ o → u.dot.origin ≡ o → is_before t u ≡ true
  own-before o t u j k et eu l ot ou =
      let grows = count_grows (λ (v : Tx). v.dot.origin == t.dot.origin) h j k t et
      (eq-eqb t.dot.origin t.dot.origin refl) l in
      let first = legal.history.numbers j t et in
      let second = legal.history.numbers k u eu in
      let same : u.dot.origin ≡ t.dot.origin = ou ∙ sym ot in
      let here : number_of u.dot.origin (take k h) ≡ number_of t.dot.origin (take k h) = ap
      (λ (x : ℕ). number_of x (take k h)) same in
      let own = legal.history.own u (record { place = k; at = eu }) in
      let counts : count_of u.cut u.dot.origin ≡ count_of u.cut t.dot.origin = ap (count_of u.cut) same in
      covers_covered u.cut t.dot (omega (arith, grows, first, second, here, own, counts))

  -- a coin of a fact of the base, and of an add of an operation
  record HasCoin (t : Tx) : Type 0 where
    coin : Coin
    member : IsMember (coins_of s base h) coin
    is : IsCoin s h t coin

  base_coin : (t : Tx) (f : Fact) → removes_fact s f t ≡ true → has base f ≡ true →
      ((v : Tx) → IsMember h v → is_before v t ≡ true → touches_fact s f v ≡ true → ⊥) → HasCoin t
  base_coin t f removed there none =
      let g = found (λ (x : Fact). is_eq (fact_cmp f x)) base there in
      let same : g.one ≡ f = sym (same_fact f g.one g.passes) in
      record {
        coin = record { dot = no_dot; fact = f };
        member = member-append_left (map (λ x. record { dot = no_dot; fact = x }) base) (coins_from s (operations_of h))
            (record { dot = no_dot; fact = f })
            (member-map (λ x. record { dot = no_dot; fact = x }) base f
            (subst (λ (x : Fact). IsMember base x) same g.member));
        is = record { removes = removed; from = inl (record { number = refl; untouched = none }) };
      }

  -- what adds is an operation
  adding_operation : (u : Tx) (f : Fact) → IsMember h u → adds_fact s f u ≡ true → is_operation u ≡ true
  adding_operation u f m added = by_action u.action refl
    where
      by_action : (a : Action) → u.action ≡ a → is_op a ≡ true
      by_action (Op n) e = refl
      by_action (Drop n) e = absurd (by_bound (slice_get s.bounds n) refl)
        where
          gone : adds s (Drop n) u.args f ≡ true
          gone = ap (λ (a : Action). adds s a u.args f) (sym e) ∙ added

          undeclared : slice_get s.bounds n ≡ None → ⊥
          undeclared at =
              let none : adds s (Drop n) u.args f ≡ false =
              ap (λ (o : Option Bound). some_gives s (option_map_or (drop_effects s.predicates) o []) u.args f) at in
              both_ways (adds s (Drop n) u.args f) none gone

          by_bound : (b : Option Bound) → slice_get s.bounds n ≡ b → ⊥
          by_bound (Some b) at = both_ways (adds s (Drop n) u.args f) (drop_adds_nothing s fit n b at u.args f) gone
          by_bound None at = absurd (undeclared at)

  add_coin : (t u : Tx) (f : Fact) → removes_fact s f t ≡ true → IsMember h u → is_before u t ≡ true →
      adds_fact s f u ≡ true →
      ((v : Tx) → IsMember h v → is_before v t ≡ true → touches_fact s f v ≡ true → is_before u v ≡ true → ⊥) →
      HasCoin t
  add_coin t u f removed m b added last =
      let e = found (gives s u.args f) (effects_of s u.action) added in
      let parts = and_parts e.one.add (is_eq (fact_cmp (fact_given s u.args e.one) f)) e.passes in
      let given : fact_given s u.args e.one ≡ f = same_fact (fact_given s u.args e.one) f parts.1 in
      let inside : IsMember (operations_of h) u = member-filter is_operation h u m (adding_operation u f m added) in
      let coin : Fact → Coin = λ x. record { dot = u.dot; fact = x } in
      record {
        coin = coin f;
        member = subst (λ (x : Fact). IsMember (coins_of s base h) (coin x)) given
            (member-append_right (map (λ x. record { dot = no_dot; fact = x }) base) (coins_from s (operations_of h))
            (coin_of s u e.one)
            (coin-there s (operations_of h) u e.one inside e.member));
        is = record {
          removes = removed;
          from = inr (record { tx = u; member = m; named = refl; before = b; last = last });
        };
      }

  -- a drop's fact is true before it, and removed by it
  record Dropped (t : Tx) (before : List Fact) : Type 0 where
    fact : Fact
    true_before : has before fact ≡ true
    removed : removes_fact s fact t ≡ true

  dropped : (action : Action) (members : List Tx) (t : Tx) (before after : List Fact) → t.action ≡ action →
      is_op action ≡ false →
      IsLegalAs action s universe members t before after → Dropped t before
  dropped (Op n) members t before after e h l = absurd (false≢true (sym h))
  dropped (Drop n) members t before after e h l =
      let d = l.due in
      record {
        fact = drop_fact s d.bound t.args;
        true_before = (due_drop-true s.bounds before (age_of s members) n (drop_fact s d.bound t.args) d.due).0;
        removed = ap (λ (a : Action). removes s a t.args (drop_fact s d.bound t.args)) e
            ∙ drop_removes_its_fact s fit n d.bound d.declared t.args;
      }

  -- each drop has a coin
  drop_coin : (t : Tx) → IsMember h t → is_operation t ≡ false → HasCoin t
  drop_coin t m away =
      let is = legal.legal m.place t m.at in
      let members = members_of (take m.place h) t.cut in
      let d = dropped t.action members t is.before is.after refl away is.legal in
      let value : value_of s base members d.fact ≡ true = sym (is.state_before.facts d.fact) ∙ d.true_before in
      let inside : (v : Tx) → IsMember members v → IsMember h v = λ v n.
      let k = filter_member (λ (x : Tx). is_covered t.cut x.dot)
      (take m.place h) v n in member-take m.place h v k.member in
      let seen : (v : Tx) → IsMember h v → is_before v t ≡ true → IsMember members v = λ v n b.
      member-filter (λ (x : Tx). is_covered t.cut x.dot) (take m.place h) v
      (histories.seen_earlier h legal.history m.place t v m.at n b) b in
      let covered : (v : Tx) → IsMember members v → is_before v t ≡ true = λ v n.
      let k = filter_member (λ (x : Tx). is_covered t.cut x.dot) (take m.place h) v n in k.passes in
      elim (effects.true_source is_before (adds_fact s d.fact) (removes_fact s d.fact) (has base d.fact)
      (has_rule is_add_wins s d.fact.predicate)
      members (histories.Order-part h legal.history members inside) value) [
        | inl untouched ↦ base_coin t d.fact d.removed untouched.starts
            (λ v n b touches. untouched.none v (seen v n b) touches)
        | inr added ↦ add_coin t added.tx d.fact d.removed (inside added.tx added.top.member)
            (covered added.tx added.top.member) added.is_add
            (λ v n b touches above. added.top.none v (seen v n b) touches above)
      ]

  -- the law
  pub drops_are_few : (o : ℕ) → length (drops_of o h) ≤ length base + 12 * length (operations_of h)
  drops_are_few o =
      let few = no_more (IsCoin s h) (drops_of o h) (coins_of s base h)
      (λ t m.
      let k = filter_member (is_drop_of o) h t m in
      let parts = and_parts (t.dot.origin == o) (not (is_operation t)) k.passes in
      let c = drop_coin t k.member (not-true (is_operation t) parts.1) in
      (c.coin, c.member, c.is))
      (λ j k t u coin et eu l one two.
      let kt = filter_member (is_drop_of o) h t (record { place = j; at = et }) in
      let ku = filter_member (is_drop_of o) h u (record { place = k; at = eu }) in
      let pt = and_parts (t.dot.origin == o) (not (is_operation t)) kt.passes in
      let pu = and_parts (u.dot.origin == o) (not (is_operation u)) ku.passes in
      let places = in_order (is_drop_of o) h j k t u et eu l in
      coins_apart t u coin kt.member ku.member
      (own-before o t u places.first places.second places.first_at places.second_at places.less
      (eqb-true t.dot.origin o pt.0) (eqb-true u.dot.origin o pu.0)) one two) in
      let coins = coins_few s fit (operations_of h) (λ u m. let k = filter_member is_operation h u m in k.passes) in
      let whole = length-append (map (λ f. record { dot = no_dot; fact = f }) base) (coins_from s (operations_of h)) in
      let facts = length-map {B = Coin} base (λ (f : Fact). record { dot = no_dot; fact = f }) in
      omega (arith, few, coins, whole, facts)
