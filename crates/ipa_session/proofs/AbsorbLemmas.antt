-- What a session keeps where it sees more.
--
--   no_tx            what a walk along the news has past their end
--   history_next     a history with one more of the news at its end is one
--   clock_next       and its cut
--   ready_next       what holds of one more of the news
--   held_with        what the session keeps then
--   held_still       and what it keeps where it sees no more
--   shaped_news      the news of a log have the right shape
use Rattle.std.proofs.Common.{◌≡◌, ℕ, suc, zero, ◌+◌, ◌<◌, List, [], ◌∷◌, ◌++◌, length, take, drop, slice_get, Some, None, refl, sym, ◌∙◌, ap, subst, arith, append_assoc, length-append, inl, inr}
use Rattle.std.proofs.lemmas.List.{take-append-le, take-append-drop}
use Rattle.std.proofs.lemmas.Option.{slice_get_within}
use Rattle.std.proofs.Math.Seq.{take-append_seam}
use Rattle.ipa_clock.specs.declared.cut.Cut.{Cut}
use Rattle.ipa_clock.specs.Cut.{raised, count_of}
use Rattle.ipa_spec.specs.declared.operations.Action.TheVariants.{Op}
use Rattle.ipa_history.specs.Histories.{IsMember, IsHistory, StandsIn, number_of}
use Rattle.ipa_history.specs.MemberLaws.{member_none, member_cases, member-append_left, member-append_cases, filter_member}
use Rattle.ipa_history.specs.NextLaws.{IsMore-push}
use Rattle.ipa_history.specs.Clocks.{IsClockOf, clock-push}
use Rattle.ipa_history.specs.declared.history.Tx.{Tx}
use Rattle.ipa_sets.specs.FactSets.{IsFactsOf}
use Rattle.ipa_sets.specs.declared.facts.Facts.{Facts}
use Rattle.ipa_gate.specs.Agreements.{lacks, news_of}
use Rattle.ipa_gate.specs.Logs.{IsLog}
use Rattle.ipa_gate.specs.Settings.{SettingParts, IsLegalFor}
use Rattle.ipa_gate.specs.Shapes.{IsShaped}
use Rattle.ipa_session.specs.Sessions.{SessionParts, IsSession}
use Rattle.ipa_session.specs.Calms.{IsCalmOf}
use Rattle.ipa_session.specs.Holding.{IsHeld}
use Rattle.ipa_session.specs.declared.calm.Calm.{Calm}
use Rattle.ipa_session.proofs.CalmLemmas.{calm_more}

-- what a walk along the news has past their end
abbrev pub no_tx : Tx
no_tx = record {
  dot = record { origin = 0; number = 0 };
  cut = record { counts = [] };
  action = Op 0;
  args = [];
  count = 0;
}

-- what stands at a place of the front
front_at : (xs ys : List Tx) (k : ℕ) (t : Tx) → slice_get xs k ≡ Some t → slice_get (xs ++ ys) k ≡ Some t
front_at [] ys k t e = absurd (let none : None ≡ Some t = e in cc)
front_at (x ∷ xs) ys zero t e = e
front_at (x ∷ xs) ys (suc k) t e = front_at xs ys k t e

-- the front of a history is one
history_front : (xs ys : List Tx) → IsHistory (xs ++ ys) → IsHistory xs
history_front xs ys is = record {
  few = let few = is.few in let size = length-append xs ys in omega (arith, few, size);
  origins = λ t m. is.origins t (member-append_left xs ys t m);
  numbers = λ k t e. is.numbers k t (front_at xs ys k t e)
      ∙ ap (λ (zs : List Tx). number_of t.dot.origin zs + 1) (front k t e);
  own = λ t m. is.own t (member-append_left xs ys t m);
  seen = λ k t d e some covers. subst (λ (zs : List Tx). StandsIn zs d t.cut) (front k t e)
      (is.seen k t d (front_at xs ys k t e) some covers);
}
  where
    front : (k : ℕ) (t : Tx) → slice_get xs k ≡ Some t → take k (xs ++ ys) ≡ take k xs
    front k t e = let inside = slice_get_within xs k t e in take-append-le k xs ys (omega (arith, inside))

-- what stands last
last_at : (xs : List Tx) (t : Tx) → slice_get (xs ++ t ∷ []) (length xs) ≡ Some t
last_at [] t = refl
last_at (x ∷ xs) t = last_at xs t

-- the number of the last of a history
last_number : (xs : List Tx) (t : Tx) → IsHistory (xs ++ t ∷ []) → t.dot.number ≡ number_of t.dot.origin xs + 1
last_number xs t is = is.numbers (length xs) t (last_at xs t)
    ∙ ap (λ (zs : List Tx). number_of t.dot.origin zs + 1) (take-append_seam xs (t ∷ []))

-- some of the news at the end of a history
history_upto : (h news : List Tx) → IsHistory (h ++ news) → (i : ℕ) → IsHistory (h ++ take i news)
history_upto h news is i = history_front (h ++ take i news) (drop i news)
    (subst IsHistory (sym (append_assoc h (take i news) (drop i news)
    ∙ ap (λ (zs : List Tx). h ++ zs) (take-append-drop i news))) is)

module _ (h news : List Tx) (i : ℕ) (t : Tx) (more : take (i + 1) news ≡ take i news ++ t ∷ []) where
  pub one_more : (h ++ take i news) ++ t ∷ [] ≡ h ++ take (i + 1) news
  one_more = append_assoc h (take i news) (t ∷ []) ∙ ap (λ (zs : List Tx). h ++ zs) (sym more)

  -- what holds of one more of the news
  pub ready_next : (P Q : Tx → Type 0) → ((u : Tx) → P u → Q u) → ((u : Tx) → IsMember (take i news) u → P u) → Q t →
      (u : Tx) → IsMember (take (i + 1) news) u → Q u
  ready_next P Q kept before here u m =
      elim (member-append_cases (take i news) (t ∷ []) u (subst (λ (zs : List Tx). IsMember zs u) more m)) [
        | inl old ↦ kept u (before u old)
        | inr new ↦ elim (member_cases t [] u new) [
          | inl same ↦ subst Q same here
          | inr none ↦ absurd (member_none u none)
        ]
      ]

  module _ (is : IsHistory (h ++ news)) where
    -- a history with one more of the news at its end is one
    pub history_next : IsHistory ((h ++ take i news) ++ t ∷ [])
    history_next = subst IsHistory (sym one_more) (history_upto h news is (i + 1))

    pub origin_next : t.dot.origin < 16
    origin_next = history_next.origins t (IsMore-push (h ++ take i news) t).new

    pub number_next : (cut : Cut) → IsClockOf (h ++ take i news) cut → t.dot.number ≡ count_of cut t.dot.origin + 1
    number_next cut clock =
        let number = last_number (h ++ take i news) t history_next in
        let count = clock.counts t.dot.origin in
        omega (arith, number, count)

    -- and its cut
    pub clock_next : (cut next : Cut) → IsClockOf (h ++ take i news) cut → next ≡ raised cut t.dot →
        IsClockOf (h ++ take (i + 1) news) next
    clock_next cut next clock is_next = subst (λ (d : Cut). IsClockOf (h ++ take (i + 1) news) d) (sym is_next)
        (subst (λ (zs : List Tx). IsClockOf zs (raised cut t.dot)) one_more
        (clock-push (h ++ take i news) t cut clock origin_next (last_number (h ++ take i news) t history_next)))

-- what the session keeps where it sees the news
pub held_with : (p : SessionParts) (is : IsSession p) (news : List Tx) → IsLegalFor p.setting (p.seen ++ news) →
    ((t : Tx) → IsMember news t → IsShaped p.setting t) → (cut : Cut) → IsClockOf (p.seen ++ news) cut →
    (calm : Calm) → IsCalmOf p.setting.spec p.setting.base p.seen calm → (facts : Facts) →
    IsFactsOf p.setting.spec p.setting.base (p.seen ++ news) facts → (room : List Tx) → room ≡ [] → (width : ℕ) →
    IsHeld (record { setting = p.setting; origin = p.origin; seen = p.seen ++ news; spare = 0 }) cut calm facts room width
held_with p is news legal shaped cut clock calm of facts are room none width = record {
  session = record {
    origin = is.origin;
    legal = legal;
    shaped = λ t m. elim (member-append_cases p.seen news t m) [ inl old ↦ is.shaped t old | inr new ↦ shaped t new ];
  };
  clock = clock;
  calm_is = calm_more p.setting.spec p.setting.base p.seen news is.legal.history legal.history calm of;
  facts_are = are;
  empty = none;
  few = omega arith;
  spare = λ some. absurd (omega (arith, some));
}

-- and what it keeps where it sees no more
pub held_still : (p : SessionParts) (is : IsSession p) (cut : Cut) → IsClockOf p.seen cut → (calm : Calm) →
    IsCalmOf p.setting.spec p.setting.base p.seen calm → (facts : Facts) →
    IsFactsOf p.setting.spec p.setting.base p.seen facts → (room : List Tx) → room ≡ [] → (width : ℕ) →
    IsHeld (record { setting = p.setting; origin = p.origin; seen = p.seen; spare = 0 }) cut calm facts room width
held_still p is cut clock calm of facts are room none width = record {
  session = record { origin = is.origin; legal = is.legal; shaped = is.shaped };
  clock = clock;
  calm_is = of;
  facts_are = are;
  empty = none;
  few = omega arith;
  spare = λ some. absurd (omega (arith, some));
}

-- the news of a log have the right shape
pub shaped_news : (s : SettingParts) (entries seen news : List Tx) → IsLog s entries → news ≡ news_of entries seen →
    (t : Tx) → IsMember news t → IsShaped s t
shaped_news s entries seen news log are t m =
    log.shaped t (filter_member (lacks seen) entries t (subst (λ (zs : List Tx). IsMember zs t) are m)).member
