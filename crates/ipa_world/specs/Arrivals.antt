-- What comes over a link as bytes.
--
--   IsFrameOf t bytes          the bytes are those of the frame that carries the transaction
--   IsBorne w from t bytes     they carry this entry of the replica's log
--   IsArrival w from to bytes  they carry some entry of the log of the sender of a link
--   BringsGivable s h bytes    they carry a transaction that can be given to these entries
use Rattle.std.specs.Prelude.{◌≡◌, ℕ, List, slice_get, Some}
use Rattle.ipa_history.specs.Histories.{IsMember}
use Rattle.ipa_history.specs.declared.history.Tx.{Tx}
use Rattle.ipa_gate.specs.Settings.{SettingParts}
use Rattle.ipa_frame.specs.Frames.{frame_bytes, IsFrame}
use Rattle.ipa_frame.specs.declared.frame.Frame.TheVariants.{Carry}
use Rattle.ipa_world.specs.Worlds.{WorldParts}
use Rattle.ipa_world.specs.Steps.{IsLink}
use Rattle.ipa_world.specs.Seats.{IsGivable}

-- the bytes are those of the frame that carries the transaction
pub record IsFrameOf (t : Tx) (bytes : List ℕ) : Type 0 where
  pub is_frame : IsFrame (Carry t)
  pub bytes_are : bytes ≡ frame_bytes (Carry t)

-- the bytes carry this entry of the replica's log
pub record IsBorne (w : WorldParts) (from : ℕ) (t : Tx) (bytes : List ℕ) : Type 0 where
  pub log : List Tx
  pub log_at : slice_get w.logs from ≡ Some log
  pub member : IsMember log t
  pub frame : IsFrameOf t bytes

-- a link, and the bytes of the frame of some entry of the sender's log
pub record IsArrival (w : WorldParts) (from to : ℕ) (bytes : List ℕ) : Type 0 where
  pub link : IsLink w from to
  pub tx : Tx
  pub borne : IsBorne w from tx bytes

-- the bytes carry a transaction that can be given to these entries
pub record BringsGivable (s : SettingParts) (h : List Tx) (bytes : List ℕ) : Type 0 where
  pub tx : Tx
  pub frame : IsFrameOf tx bytes
  pub givable : IsGivable s h tx
