-- What comes to a replica as bytes.
--
--   entry_borne     what the bytes carry is an entry of some log
--   received        a log answers the bytes of a frame as it answers the frame
--   legal_read      what is read of them is legal where it comes next
use Rattle.std.proofs.Common.{◌≡◌, ℕ, List, length, refl, sym, subst, arith}
use Rattle.ipa_history.specs.declared.history.Tx.{Tx}
use Rattle.ipa_history.specs.Legality.{IsLegal}
use Rattle.ipa_frame.specs.Frames.{frame_bytes, Agrees, IsRead}
use Rattle.ipa_frame.specs.Laws.{OneFrame}
use Rattle.ipa_frame.specs.declared.frame.Frame.{Frame}
use Rattle.ipa_frame.specs.declared.frame.Frame.TheVariants.{Carry}
use Rattle.ipa_gate.specs.Offers.{IsNextIn}
use Rattle.ipa_gate.specs.Settings.{SettingParts}
use Rattle.ipa_link.specs.Deliveries.{IsDelivery}
use Rattle.ipa_link.specs.Laws.{Receives, WrittenIsReceived}
use Rattle.ipa_link.specs.declared.delivery.Delivered.{Delivered}
use Rattle.ipa_world.specs.Worlds.{WorldParts}
use Rattle.ipa_world.specs.Lawful.{IsEntry}
use Rattle.ipa_world.specs.Arrivals.{IsFrameOf, IsBorne}
use Rattle.ipa_world.specs.OfferLaws.{legal_given}
use Rattle.ipa_world.specs.Seats.{IsGivable}

-- what the bytes carry is an entry of some log
pub entry_borne : (w : WorldParts) (from : ℕ) (t : Tx) (bytes : List ℕ) → IsBorne w from t bytes → IsEntry w t
entry_borne w from t bytes is = record { replica = from; log = is.log; log_at = is.log_at; member = is.member }

-- a log answers the bytes of a frame as it answers the frame
pub received : (s : SettingParts) (h : List Tx) (bytes : List ℕ) (answer : Delivered) (after : List Tx) →
    WrittenIsReceived → IsDelivery s h bytes answer after → (t : Tx) → IsFrameOf t bytes →
    Receives s h (Carry t) answer after
received s h bytes answer after law delivery t is = law s h (Carry t) answer after is.is_frame
    (subst (λ (b : List ℕ). IsDelivery s h b answer after) is.bytes_are delivery)

-- what is read of them is legal where it comes next
pub legal_read : (s : SettingParts) (h : List Tx) (bytes : List ℕ) → OneFrame → (u : Tx) → IsFrameOf u bytes →
    IsGivable s h u → (t : Tx) → IsRead bytes (Carry t) (length bytes) → IsNextIn s h t →
    IsLegal s.spec s.universe s.base h t
legal_read s h bytes law u frame givable t read next =
    let sized = read.sized in
    let own : Agrees bytes (frame_bytes (Carry u)) = subst (λ (b : List ℕ). Agrees b (frame_bytes (Carry u)))
    (sym frame.bytes_are) (record { same = λ place there within. refl }) in
    let both : Carry t ≡ Carry u = law bytes (Carry t) (Carry u) read.is_frame (omega (arith, sized)) read.agrees
    frame.is_frame own in
    let equal : t ≡ u = cc in
    subst (λ (x : Tx). IsLegal s.spec s.universe s.base h x) (sym equal)
    (legal_given s h u givable (subst (λ (x : Tx). IsNextIn s h x) equal next))
