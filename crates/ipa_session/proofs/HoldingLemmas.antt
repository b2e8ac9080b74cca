-- What a session keeps, from the first on.
--
--   held_new         of a session that has seen nothing
--   history_next     its next transaction leaves a history
--   calm_after       what is calm then
--   held_next        and what it keeps then
use Rattle.std.proofs.Common.{◌≡◌, ℕ, ◌+◌, ◌<◌, List, [], ◌∷◌, ◌++◌, length, refl, subst, arith, inl, inr}
use Rattle.ipa_clock.specs.declared.cut.Cut.{Cut}
use Rattle.ipa_clock.specs.Cut.{Covers, empty, raised}
use Rattle.ipa_spec.specs.declared.operations.Action.{Action}
use Rattle.ipa_spec.specs.declared.operations.Action.TheVariants.{Op, Drop}
use Rattle.ipa_history.specs.Histories.{IsHistory, number_of}
use Rattle.ipa_history.specs.MemberLaws.{member_none, member_cases, member-append_cases}
use Rattle.ipa_history.specs.PushLaws.{CanFollow, IsHistory-push}
use Rattle.ipa_history.specs.NextLaws.{IsMore-push}
use Rattle.ipa_history.specs.Clocks.{IsClockOf, clock-none, clock-push, clock-closed, clock-covers, one_clock}
use Rattle.ipa_history.specs.declared.history.Tx.{Tx}
use Rattle.ipa_overfill.specs.CalmLaws.{IsCalm, calm_after as calm_operation}
use Rattle.ipa_lift.specs.FollowLaws.{IsLegalHistory-push}
use Rattle.ipa_sets.specs.FactSets.{IsFactsOf}
use Rattle.ipa_sets.specs.declared.facts.Facts.{Facts}
use Rattle.ipa_gate.specs.Fronts.{front-all}
use Rattle.ipa_gate.specs.Settings.{SettingParts, IsSetting}
use Rattle.ipa_gate.specs.Shapes.{IsShaped}
use Rattle.ipa_gate.specs.LogLaws.{IsLog-empty}
use Rattle.ipa_session.specs.Sessions.{SessionParts, IsSession, IsLawfulNext}
use Rattle.ipa_session.specs.Calms.{IsCalmOf, first_calm, next_calm}
use Rattle.ipa_session.specs.Holding.{IsHeld}
use Rattle.ipa_session.specs.declared.calm.Calm.{Calm}
use Rattle.ipa_session.proofs.CalmLemmas.{calm_first, calm_more}

-- of a session that has seen nothing
pub held_new : (s : SettingParts) → IsSetting s → (origin : ℕ) → origin < s.sessions → (facts : Facts) →
    IsFactsOf s.spec s.base [] facts → (room : List Tx) → room ≡ [] → (width : ℕ) →
    IsHeld (record { setting = s; origin = origin; seen = []; spare = 0 }) empty first_calm facts room width
held_new s setting origin inside facts are room none width =
    let log = IsLog-empty s setting in record {
      session = record { origin = inside; legal = log.legal; shaped = log.shaped };
      clock = clock-none;
      calm_is = calm_first s setting;
      facts_are = are;
      empty = none;
      few = omega arith;
      spare = λ some. absurd (omega (arith, some));
    }

-- a calm cut of its parts
abbrev pub calm_at : Cut → ℕ → Calm
calm_at cut count = record { cut = cut; count = count }

-- the session with one more transaction seen, and no room for another
abbrev pub with_next : SessionParts → Tx → SessionParts
with_next p t = record { setting = p.setting; origin = p.origin; seen = p.seen ++ t ∷ []; spare = 0 }

module _ (p : SessionParts) (setting : IsSetting p.setting) (is : IsSession p) (t : Tx) (clock : IsClockOf p.seen t.cut)
    (lawful : IsLawfulNext p t.cut t) (few : length p.seen + 1 < 4294967295) where
  number : t.dot.number ≡ number_of t.dot.origin p.seen + 1
  number =
      let counted = clock.counts t.dot.origin in
      let own = lawful.next.shaped.own in
      omega (arith, counted, own)

  inside : t.dot.origin < 16
  inside =
      let origin = lawful.next.shaped.origin in
      let sessions = setting.few in
      omega (arith, origin, sessions)

  follows : CanFollow p.seen t
  follows = record {
    room = few;
    origin = inside;
    number = number;
    own = lawful.next.shaped.own;
    closed = clock-closed p.seen is.legal.history t.cut clock;
  }

  -- its next transaction leaves a history
  pub history_next : IsHistory (p.seen ++ t ∷ [])
  history_next = IsHistory-push p.seen is.legal.history t follows

  session_next : IsSession (with_next p t)
  session_next = record {
    origin = is.origin;
    legal = IsLegalHistory-push p.setting.spec p.setting.universe p.setting.base p.seen t is.legal follows
        lawful.next.shaped.fitting lawful.legal;
    shaped = λ u m. elim (member-append_cases p.seen (t ∷ []) u m) [
      | inl old ↦ is.shaped u old
      | inr new ↦ elim (member_cases t [] u new) [
        | inl same ↦ subst (λ (x : Tx). IsShaped p.setting x) same lawful.next.shaped
        | inr none ↦ absurd (member_none u none)
      ]
    ];
  }

  -- the cut with it too
  clock_next : (cut : Cut) → IsClockOf p.seen cut → IsClockOf (p.seen ++ t ∷ []) (raised cut t.dot)
  clock_next cut counts = clock-push p.seen t cut counts inside number

  module _ (cut : Cut) (counts : IsClockOf p.seen cut) where
    abbrev whole : Calm
    whole = calm_at (raised cut t.dot) (length (p.seen ++ t ∷ []))

    -- an operation's is calm
    calm_here : (n : ℕ) → t.action ≡ Op n → IsCalm p.setting.spec p.setting.base (p.seen ++ t ∷ []) (raised cut t.dot)
    calm_here n action = subst (λ (d : Cut). IsCalm p.setting.spec p.setting.base (p.seen ++ t ∷ []) (raised d t.dot))
        (one_clock p.seen t.cut cut clock counts)
        (calm_operation p.setting.spec p.setting.universe p.setting.base (p.seen ++ t ∷ []) session_next.legal t
        (IsMore-push p.seen t).new n action clock.sized)

    calm_by : (action : Action) → t.action ≡ action → (calm : Calm) →
        IsCalmOf p.setting.spec p.setting.base p.seen calm →
        IsCalmOf p.setting.spec p.setting.base (p.seen ++ t ∷ []) (next_calm action calm whole)
    calm_by (Op n) action calm of = record {
      is_calm = calm_here n action;
      front = front-all (λ (u : Tx). Covers (raised cut t.dot) u.dot) (p.seen ++ t ∷ [])
          (clock-covers (p.seen ++ t ∷ []) history_next (raised cut t.dot) (clock_next cut counts));
    }
    calm_by (Drop n) action calm of = calm_more p.setting.spec p.setting.base p.seen (t ∷ [])
        is.legal.history history_next calm of

    -- what is calm then
    pub calm_after : (calm : Calm) → IsCalmOf p.setting.spec p.setting.base p.seen calm →
        IsCalmOf p.setting.spec p.setting.base (p.seen ++ t ∷ [])
        (next_calm t.action calm (calm_at (raised cut t.dot) (length (p.seen ++ t ∷ []))))
    calm_after calm of = calm_by t.action refl calm of

  -- what it keeps then
  pub held_next : (cut : Cut) → IsClockOf p.seen cut → (calm : Calm) →
      IsCalmOf p.setting.spec p.setting.base p.seen calm → (facts : Facts) →
      IsFactsOf p.setting.spec p.setting.base (p.seen ++ t ∷ []) facts → (room : List Tx) → room ≡ [] → (width : ℕ) →
      IsHeld (with_next p t) (raised cut t.dot)
      (next_calm t.action calm (calm_at (raised cut t.dot) (length (p.seen ++ t ∷ [])))) facts room width
  held_next cut counts calm of facts are room none width = record {
    session = session_next;
    clock = clock_next cut counts;
    calm_is = calm_after cut counts calm of;
    facts_are = are;
    empty = none;
    few = omega arith;
    spare = λ some. absurd (omega (arith, some));
  }
