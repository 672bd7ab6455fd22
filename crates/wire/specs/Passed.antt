-- What holds of a packet that passes the reader's checks, one after the other. Assumes nothing.
use Rattle.std.specs.Prelude.{ℕ, ◌-◌, ◌≤◌, ◌<◌, false, ◌&&◌, List, ◌≡◌, eqb, length}
use Rattle.std.proofs.Common.{arith, ltb-false}
use Rattle.std.proofs.lemmas.Bool.{eqb-false}
use Rattle.laws.specs.Truth.{or_none, are_same}
use Rattle.replies.specs.Checks.{judged, all_hold}
use Rattle.replies.specs.Checks.{Passed}
use Rattle.wire.specs.Kind.{restarts_of, is_not_carried}
use Rattle.wire.specs.Main.{main, main_end}
use Rattle.wire.specs.Reading.{rtp_checks, jpeg_checks}
use Rattle.wire.specs.Restart.{has_restart, interval, restart_end}
use Rattle.wire.specs.Rtp.{longest, fixed, fixed_end, headers_end, dropped, padding_broken, padding_fits}
use Rattle.wire.specs.TableSource.{table_source, is_reserved}
use Rattle.wire.specs.Tables.{scan_at, table_rule_broken}

pub record RtpPassed (source : ℕ) (p : List ℕ) : Type 0 where
  pub short : length p ≤ longest
  pub long : fixed_end ≤ length p
  pub version : (fixed p).version ≡ 2
  pub payload_type : (fixed p).payload_type ≡ 26
  pub from : (fixed p).source ≡ source
  pub headers : headers_end p ≤ length p
  pub padding : padding_broken p ≡ false
  pub fits : dropped p ≤ length p - headers_end p

pub rtp_passed : (source : ℕ) (p : List ℕ) → judged (rtp_checks source p) ≡ Passed → RtpPassed source p
rtp_passed source p e =
    let t = all_hold (rtp_checks source p) e in
    record {
      short = ltb-false longest (length p) t.0;
      long = ltb-false (length p) fixed_end t.1.0;
      version = are_same (fixed p).version 2 t.1.1.0;
      payload_type = are_same (fixed p).payload_type 26 t.1.1.1.0;
      from = are_same (fixed p).source source t.1.1.1.1.0;
      headers = ltb-false (length p) (headers_end p) t.1.1.1.1.1.0;
      padding = t.1.1.1.1.1.1.0;
      fits = padding_fits p t.1.1.1.1.1.1.0;
    }

pub record JpegPassed (b : List ℕ) : Type 0 where
  pub long : main_end ≤ length b
  pub kind : is_not_carried (restarts_of (main b).kind) ≡ false
  pub specific : (main b).specific ≡ 0
  pub q : is_reserved (table_source (main b).q) ≡ false
  pub width : (main b).width ≡ 0 → ⊥
  pub height : (main b).height ≡ 0 → ⊥
  pub restart : restart_end b ≤ length b
  pub interval : (has_restart b && eqb (interval b) 0) ≡ false
  pub tables : table_rule_broken b ≡ false
  pub scan : scan_at b < length b

pub jpeg_passed : (b : List ℕ) → judged (jpeg_checks b) ≡ Passed → JpegPassed b
jpeg_passed b e =
    let t = all_hold (jpeg_checks b) e in
    let sides = or_none (eqb (main b).width 0) (eqb (main b).height 0) t.1.1.1.1.0 in
    let r = t.1.1.1.1.1 in
    let end : scan_at b ≤ length b = ltb-false (length b) (scan_at b) r.1.1.0 in
    let some : length b ≡ scan_at b → ⊥ = eqb-false (length b) (scan_at b) r.1.1.1.1.0 in
    record {
      long = ltb-false (length b) main_end t.0;
      kind = t.1.0;
      specific = are_same (main b).specific 0 t.1.1.0;
      q = t.1.1.1.0;
      width = eqb-false (main b).width 0 sides.0;
      height = eqb-false (main b).height 0 sides.1;
      restart = ltb-false (length b) (restart_end b) r.0;
      interval = r.1.0;
      tables = r.1.1.1.0;
      scan = omega arith;
    }
