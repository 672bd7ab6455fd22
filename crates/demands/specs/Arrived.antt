-- The receiver and its area when some of a picture's packets have come, as a function of which ones alone. Assumes nothing.
use Rattle.std.specs.Prelude.{ℕ, ◌≤◌, Bool, true, cond, List, ◌≡◌, length, get_or}
use Rattle.fragments.specs.declared.Fragment.{Fragment}
use Rattle.kept.specs.Kept.{blank, keep}
use Rattle.kept.specs.declared.Kept.{Kept}
use Rattle.receiver.specs.Step.{holding}
use Rattle.sender.specs.Picture.{Picture}
use Rattle.sender.specs.declared.Stamp.{Stamp}
use Rattle.state.specs.Receiver.{header_of}
use Rattle.state.specs.WellFormed.{well_formed}
use Rattle.state.specs.declared.Receiver.{Receiver}
use Rattle.demands.specs.CutsIn.{cuts_in}
use Rattle.demands.specs.Delivery.{Packets, brings_tables, HasTables, those_tables}
use Rattle.demands.specs.Filled.{filled}
use Rattle.demands.specs.History.{State, state}

-- A picture that a receiver has begun: its packets, the receiver as it began, and the area as it was then.
pub record Begun : Type 0 where
  pub stamp : Stamp
  pub picture : Picture
  pub cuts : List Fragment
  pub packet : ℕ → List ℕ
  pub packets : Packets stamp picture cuts packet
  pub receiver : Receiver
  pub area : List ℕ
  pub source : stamp.source ≡ receiver.source
  pub time : stamp.time ≡ receiver.time
  pub header : picture.header ≡ header_of receiver
  pub lent : length area ≡ receiver.room
  pub fits : length picture.scan ≤ length area
  pub has_tables : HasTables picture

-- The store with the tables that a picture brings, if it does.
abbrev pub kept_with : Kept → Picture → Kept
kept_with k p = cond (brings_tables p) (keep k p.header.q p.tables) k

-- When those of the set have come: their cuts are held, the tables are known and kept if the first is among them, and the area has the
-- scan's bytes at the places of the cuts and the old ones elsewhere.
module _ (g : Begun) (come : List Bool) where
  abbrev pub receiver_with : Receiver
  receiver_with =
      holding g.receiver (cuts_in come g.cuts)
      (cond (get_or come 0 true) (those_tables g.picture) blank)
      (cond (get_or come 0 true) (kept_with g.receiver.kept g.picture) g.receiver.kept)

  abbrev pub area_with : List ℕ
  area_with = filled (cuts_in come g.cuts) g.picture.scan g.area

  abbrev pub arrived : State
  arrived = state receiver_with area_with

  -- as many flags as packets, and a receiver that is well formed
  abbrev pub Ok : Type 0
  Ok = (length come ≡ length g.cuts) × (well_formed receiver_with ≡ true)
