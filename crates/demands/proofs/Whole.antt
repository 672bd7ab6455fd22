-- The file of a picture of which every packet has come. Assumes nothing.
use Rattle.std.proofs.Common.{sym, ap, subst, ◌∙◌, arith}
use Rattle.std.specs.Prelude.{ℕ, ◌<◌, Bool, true, List, ◌≡◌, length, take}
use Rattle.builder.specs.Building.{Buildable, frame_for, frame_of, scan_of}
use Rattle.builder.specs.Built.{WritesFile, whole_built}
use Rattle.fragments.specs.Array.{held_padded}
use Rattle.fragments.specs.Held.{total, end_of, tiles_total, tiles_end}
use Rattle.fragments.specs.declared.Fragment.{Fragment}
use Rattle.head.specs.declared.Frame.{Frame}
use Rattle.state.specs.WellFormed.{known_well_formed}
use Rattle.state.specs.declared.Receiver.{Receiver}
use Rattle.demands.proofs.Arrived.{area_lent}
use Rattle.demands.proofs.CutsIn.{cuts_in_all, in_order, end_by, whole_in}
use Rattle.demands.proofs.Filled.{front_filled}
use Rattle.demands.proofs.Sets.{every_in}
use Rattle.demands.specs.Arrived.{Begun, receiver_with, area_with, arrived, Ok}
use Rattle.demands.specs.CutsIn.{cuts_in}
use Rattle.demands.specs.Delivery.{FileHolds, those_tables}
use Rattle.demands.specs.Sets.{every}

module _ (g : Begun) (come : List Bool) (ok : Ok g come) (all : every come ≡ true) (some : 0 < length g.picture.scan) where
  abbrev scan : List ℕ
  scan = g.picture.scan

  abbrev fs : List Fragment
  fs = cuts_in come g.cuts

  abbrev r : Receiver
  r = receiver_with g come

  abbrev area : List ℕ
  area = area_with g come

  all_cuts : fs ≡ g.cuts
  all_cuts = cuts_in_all come g.cuts ok.0 all

  same_scan : scan_of r area ≡ scan
  same_scan =
      ap (λ (n : ℕ). take n area) (ap end_of all_cuts ∙ tiles_end (length scan) 0 g.cuts some g.packets.tile)
      ∙ front_filled fs scan g.area (in_order (length scan) 0 0 come g.cuts (omega arith) g.packets.tile) (end_by (length scan) 0 come g.cuts g.packets.tile)
      (omega (arith, ap total all_cuts, tiles_total (length scan) 0 g.cuts g.packets.tile)) g.fits

  same_tables : r.tables ≡ those_tables g.picture
  same_tables = rw (every_in come 0 all)

  same_frame : frame_of r ≡ frame_for g.picture.header
  same_frame = ap frame_for (sym g.header)

  buildable : Buildable r area
  buildable = record {
    well = known_well_formed r ok.1;
    room = area_lent g come ok;
    whole = rw (held_padded fs) (whole_in (length scan) come g.cuts some g.packets.tile ok.0 ∙ all);
  }

  pub file_holds : FileHolds g.picture (arrived g come)
  file_holds output w built builds =
      subst (λ (f : Frame). WritesFile f (those_tables g.picture) scan output w built) same_frame
      (subst (λ (tables : List ℕ). WritesFile (frame_of r) tables scan output w built) same_tables
      (subst (λ (bytes : List ℕ). WritesFile (frame_of r) r.tables bytes output w built) same_scan
      (whole_built r area builds buildable)))
