use Rattle.std.proofs.Common.{◌≡◌, ℕ, ◌+◌, List, [], ◌∷◌, ◌++◌, take, sym, ◌∙◌, ap, subst, get_or, arith, inl, inr}
use Rattle.std.proofs.lemmas.List.{map-append, take_all}
use Rattle.std.proofs.lemmas.Option.{slice_get-get_or}
use Rattle.ipa_spec.specs.declared.operations.Action.TheVariants.{Op}
use Rattle.ipa_history.specs.Histories.{IsMember}
use Rattle.ipa_history.specs.MemberLaws.{member_none, member_cases, member-append_cases}
use Rattle.ipa_history.specs.declared.history.Tx.{Tx}
use Rattle.ipa_frame.specs.Frames.{IsFrame}
use Rattle.ipa_frame.specs.declared.frame.Frame.TheVariants.{Carry}
use Rattle.ipa_weather.specs.Arrivals.{Frame}
use Rattle.ipa_schedule.specs.Turns.{carried_in, carried_all}
use Rattle.ipa_schedule.proofs.Giving.{take_next}
use Rattle.ipa_schedule.proofs.sending.frames_of.Goals as goal

-- what a walk along the batch has past its end
abbrev no_tx : Tx
no_tx = record {
  dot = record { origin = 0; number = 0 };
  cut = record { counts = [] };
  action = Op 0;
  args = [];
  count = 0;
}

frames_more : (batch : List Tx) (k : ℕ) (t : Tx) (frames more : List Frame) (frame : Frame) →
    take (k + 1) batch ≡ take k batch ++ t ∷ [] → frames ≡ carried_all (take k batch) → frame ≡ carried_in t →
    more ≡ frames ++ frame ∷ [] → more ≡ carried_all (take (k + 1) batch)
frames_more batch k t frames more frame next so_far is pushed = pushed ∙ ap (λ (fs : List Frame). fs ++ frame ∷ []) so_far
    ∙ ap (λ (f : Frame). carried_all (take k batch) ++ f ∷ []) is
    ∙ sym (ap carried_all next ∙ map-append carried_in (take k batch) (t ∷ []))

framed_more : (batch : List Tx) (k : ℕ) (t : Tx) → take (k + 1) batch ≡ take k batch ++ t ∷ [] →
    ((u : Tx) → IsMember (take k batch) u → IsFrame (Carry u)) → IsFrame (Carry t) → (u : Tx) →
    IsMember (take (k + 1) batch) u → IsFrame (Carry u)
framed_more batch k t next so_far here u m =
    elim (member-append_cases (take k batch) (t ∷ []) u (subst (λ (ts : List Tx). IsMember ts u) next m)) [
      | inl old ↦ so_far u old
      | inr new ↦ elim (member_cases t [] u new) [
        | inl same ↦ subst (λ (v : Tx). IsFrame (Carry v)) same here
        | inr none ↦ absurd (member_none u none)
      ]
    ]

pub frame_of-requires : goal.frame_of-requires
frame_of-requires c = c.requires _ (record {
  place = c.loop-tx.tx-index;
  at = slice_get-get_or c.args.batch.now c.loop-tx.tx-index _ c.loop-tx-test.true;
})

pub loop-tx-preserved : goal.loop-tx-preserved
loop-tx-preserved c =
    let batch = c.args.batch.now in
    let k = c.loop-tx.tx-index in
    let next = take_next batch k (get_or batch k no_tx) (slice_get-get_or batch k no_tx c.loop-tx-test.true) in (
      frames_more batch k (get_or batch k no_tx) c.loop-tx.frames c.push.new.self c.in_ok-frame.frame next c.loop-tx.invariant.0
          c.in_ok-frame.ensures.frame c.in_ok-push.ensures.ok,
      framed_more batch k (get_or batch k no_tx) next c.loop-tx.invariant.1 c.in_ok-frame.ensures.framed,
    )

pub returns-clause-framed : goal.returns-clause-framed
returns-clause-framed c t m = c.loop-tx.invariant.1 t
    (subst (λ (ts : List Tx). IsMember ts t) (sym (take_all c.loop-tx.tx-index c.args.batch.now c.loop-tx-test.false)) m)
