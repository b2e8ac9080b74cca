-- No entries are a log, and a log stays one where an admitted transaction is appended.
--
--   IsLog-empty            no entries are a log
use Rattle.std.proofs.Common.{◌≡◌, ℕ, ◌<◌, ◌≤◌, List, [], ◌∷◌, ◌++◌, ◌∙◌, ap, subst, arith, Some, None, inl, inr}
use Rattle.std.proofs.lemmas.Bool.{cases_lt}
use Rattle.std.proofs.lemmas.List.{length_push}
use Rattle.ipa_clock.specs.declared.dot.Dot.{Dot}
use Rattle.ipa_history.specs.Histories.{number_of}
use Rattle.ipa_history.specs.MemberLaws.{member_none, member_cases, member-append_cases}
use Rattle.ipa_history.specs.PushLaws.{CanFollow, dots_there}
use Rattle.ipa_history.specs.declared.history.Tx.{Tx}
use Rattle.ipa_lift.specs.FollowLaws.{IsLegalHistory-push}
use Rattle.ipa_gate.specs.Settings.{SettingParts, IsSetting}
use Rattle.ipa_gate.specs.Shapes.{IsShaped}
use Rattle.ipa_gate.specs.Logs.{IsLog}
use Rattle.ipa_gate.specs.Offers.{IsNextIn, IsAdmitted}

-- no entries are a log
pub IsLog-empty : (s : SettingParts) → IsSetting s → IsLog s []
IsLog-empty s is = record {
  legal = record {
    history = record {
      few = omega arith;
      origins = λ t m. absurd (member_none t m);
      numbers = λ k t e. absurd (let none : None ≡ Some t = e in cc);
      own = λ t m. absurd (member_none t m);
      seen = λ k t d e some covers. absurd (let none : None ≡ Some t = e in cc);
    };
    sizes = is.sizes;
    base_state = is.base_state;
    base_keeps = is.base_keeps;
    base_within = is.base_within;
    fitting = λ t m. absurd (member_none t m);
    legal = λ k t e. absurd (let none : None ≡ Some t = e in cc);
  };
  few = omega arith;
  shaped = λ t m. absurd (member_none t m);
}

module _ (s : SettingParts) (few : s.sessions ≤ 16) (h : List Tx) (log : IsLog s h) (t : Tx) (next : IsNextIn s h t) where
  -- the log does not have its number yet
  not_yet : number_of t.dot.origin h < t.dot.number
  not_yet = elim (cases_lt (number_of t.dot.origin h) t.dot.number) [
    | inl less ↦ less
    | inr more ↦
        let u = dots_there h log.legal.history t.dot.origin t.dot.number next.fresh.shaped.number more in
        let dot : ℕ → ℕ → Dot = λ origin number. record { origin = origin; number = number } in
        let same : u.tx.dot ≡ t.dot = ap (λ (o : ℕ). dot o u.tx.dot.number) u.origin_is
        ∙ ap (λ (n : ℕ). dot t.dot.origin n) u.number_is in
        absurd (next.fresh.unnamed.none u.tx u.member same)
  ]

  -- it may stand next
  pub CanFollow-next : CanFollow h t
  CanFollow-next = record {
    room = let l = log.few in omega (arith, l);
    origin = let o = next.fresh.shaped.origin in omega (arith, o, few);
    number =
        let low = next.closed.within t.dot.origin in
        let own = next.fresh.shaped.own in
        omega (arith, low, own, not_yet);
    own = next.fresh.shaped.own;
    closed = next.closed;
  }

-- with it at the end the entries are a log
pub IsLog-push : (s : SettingParts) → s.sessions ≤ 16 → (h : List Tx) (t : Tx) → IsLog s h → IsAdmitted s h t →
    IsLog s (h ++ t ∷ [])
IsLog-push s few h t log is = record {
  legal = IsLegalHistory-push s.spec s.universe s.base h t log.legal (CanFollow-next s few h log t is.next)
      is.next.fresh.shaped.fitting is.legal;
  few = let room = is.room in omega (arith, room, length_push h t);
  shaped = λ u m. elim (member-append_cases h (t ∷ []) u m) [
    | inl a ↦ log.shaped u a
    | inr b ↦ elim (member_cases t [] u b) [
      | inl e ↦ subst (λ (x : Tx). IsShaped s x) e is.next.fresh.shaped
      | inr none ↦ absurd (member_none u none)
    ]
  ];
}
