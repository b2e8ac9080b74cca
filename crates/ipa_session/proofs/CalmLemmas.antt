-- The calm cut of a session.
--
--   calm_first       that of a session that has seen nothing
--   calm_more        it stays one where more is seen
--   calm_whole       the whole cut of a calm session is one
--   calm_soon        a session is calm where each transaction that was seen after its calm cut spares the bounds
use Rattle.std.proofs.Common.{◌≡◌, ℕ, zero, suc, ◌≤◌, List, [], ◌∷◌, ◌++◌, length, drop, slice_get, Some, None, subst, arith, inl, inr}
use Rattle.std.specs.Prelude.{All}
use Rattle.std.proofs.lemmas.Bool.{cases_lt}
use Rattle.std.proofs.lemmas.Option.{slice_get_within, get_or_from_slice_get}
use Rattle.ipa_clock.specs.declared.cut.Cut.{Cut}
use Rattle.ipa_clock.specs.Cut.{Covers, IsBelow}
use Rattle.ipa_spec.specs.Fits.{IsFit}
use Rattle.ipa_spec.specs.declared.specification.Specification.{Specification}
use Rattle.ipa_logic.specs.declared.facts.Fact.{Fact}
use Rattle.ipa_history.specs.Histories.{IsMember, IsHistory}
use Rattle.ipa_history.specs.Clocks.{IsClockOf, clock-closed, clock-covers}
use Rattle.ipa_history.specs.declared.history.Tx.{Tx}
use Rattle.ipa_overfill.specs.CalmLaws.{calm_start, calm_longer, calm_grows}
use Rattle.ipa_overfill.specs.Overfills.{Spares}
use Rattle.ipa_sets.specs.FactSets.{true_facts, IsFactsOf}
use Rattle.ipa_sets.specs.declared.facts.Facts.{Facts}
use Rattle.ipa_gate.specs.Fronts.{HasFront, front-none, front-all, front-append}
use Rattle.ipa_gate.specs.Settings.{SettingParts, IsSetting}
use Rattle.ipa_gate.specs.LogLaws.{IsLog-empty}
use Rattle.ipa_session.specs.Sessions.{SessionParts, IsSession, IsCalmAt}
use Rattle.ipa_session.specs.Calms.{IsCalmOf, IsSpared, first_calm}
use Rattle.ipa_session.specs.declared.calm.Calm.{Calm}
use Rattle.ipa_session.proofs.CutLemmas.{state_at, calm_at}

-- that of a session that has seen nothing
pub calm_first : (s : SettingParts) → IsSetting s → IsCalmOf s.spec s.base [] first_calm
calm_first s setting = record {
  is_calm = calm_start s.spec s.universe s.base [] (IsLog-empty s setting).legal;
  front = front-none (λ (t : Tx). Covers first_calm.cut t.dot) [];
}

-- it stays one where more is seen
pub calm_more : (s : Specification) (base : List Fact) (h news : List Tx) → IsHistory h →
    IsHistory (h ++ news) → (calm : Calm) → IsCalmOf s base h calm → IsCalmOf s base (h ++ news) calm
calm_more s base h news was is calm of = record {
  is_calm = calm_longer s base h news was is calm.cut of.is_calm;
  front = front-append (λ (t : Tx). Covers calm.cut t.dot) h news calm.count of.front;
}

-- an item at a later place is one of those after the first n
drop_at : {X : Type 0} (n k : ℕ) (xs : List X) (x : X) → n ≤ k → slice_get xs k ≡ Some x → IsMember (drop n xs) x
drop_at zero k xs x l e = record { place = k; at = e }
drop_at (suc n) k [] x l e = absurd (let none : None ≡ Some x = e in cc)
drop_at (suc n) zero (y ∷ ys) x l e = absurd (omega (arith, l))
drop_at (suc n) (suc k) (y ∷ ys) x l e = drop_at n k ys x (omega (arith, l)) e

-- what holds of all items holds of each
all_member : {X : Type 0} (P : X → Type 0) (xs : List X) → All P xs → (x : X) → IsMember xs x → P x
all_member P xs all x m =
    subst P (get_or_from_slice_get xs m.place x x m.at) (all m.place x (slice_get_within xs m.place x m.at))

-- a transaction that the cut lacks spares the bounds, where those seen after its front do, or are in it
spared_beyond : (s : Specification) (state : List Fact) (h : List Tx) (calm : Calm) →
    HasFront (λ (t : Tx). Covers calm.cut t.dot) h calm.count → All (IsSpared s state calm.cut) (drop calm.count h) →
    (t : Tx) → IsMember h t → (Covers calm.cut t.dot → ⊥) → Spares s t.action t.args state
spared_beyond s state h calm front spared t m lacks = elim (cases_lt m.place calm.count) [
  | inl early ↦ absurd (lacks (front.each m.place t early m.at))
  | inr late ↦ (all_member (IsSpared s state calm.cut) (drop calm.count h) spared t
      (drop_at calm.count m.place h t late m.at)).spares lacks
]

module _ (p : SessionParts) (is : IsSession p) (c : Cut) (clock : IsClockOf p.seen c) where
  -- the whole cut of a calm session is one
  pub calm_whole : IsCalmAt p c → IsCalmOf p.setting.spec p.setting.base p.seen (record { cut = c; count = length p.seen })
  calm_whole calm = record {
    is_calm = record {
      closed = clock-closed p.seen is.legal.history c clock;
      state = calm.state;
      at = calm.at;
      within = calm.within;
    };
    front = front-all (λ (t : Tx). Covers c t.dot) p.seen (clock-covers p.seen is.legal.history c clock);
  }

  -- each closed cut is below its cut
  below_whole : (calm : Calm) → IsCalmOf p.setting.spec p.setting.base p.seen calm → IsBelow calm.cut c
  below_whole calm of = record {
    counts = λ o.
        let low = of.is_calm.closed.within o in let count = clock.counts o in omega (arith, low, count);
  }

  -- a session is calm where each transaction that was seen after its calm cut spares the bounds
  pub calm_soon : (fit : IsFit p.setting.spec) (setting : IsSetting p.setting) (facts : Facts) →
      IsFactsOf p.setting.spec p.setting.base p.seen facts → (calm : Calm) →
      IsCalmOf p.setting.spec p.setting.base p.seen calm →
      All (IsSpared p.setting.spec (true_facts facts) calm.cut) (drop calm.count p.seen) → IsCalmAt p c
  calm_soon fit setting facts are calm of spared =
      calm_at p fit setting is c clock facts are (calm_grows p.setting.spec p.setting.base p.seen is.legal.history calm.cut c
      of.is_calm (clock-closed p.seen is.legal.history c clock) (below_whole calm of) (true_facts facts)
      (state_at p fit setting is c clock facts are)
      (λ t m covers lacks. spared_beyond p.setting.spec (true_facts facts) p.seen calm of.front spared t m lacks))
