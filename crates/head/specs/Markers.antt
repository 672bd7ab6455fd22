-- The bytes of the markers, behind their FF: T.81 table B.1. Assumes nothing.
use Rattle.std.specs.Prelude.{ℕ}
use Rattle.head.specs.Segment as Segment
use Rattle.head.specs.declared.segment.Marker.{Marker}
use Rattle.head.specs.declared.segment.Marker.TheVariants.{Sof0, Dht, Soi, Sos, Dqt, Dri}

abbrev pub code : Marker → ℕ
code Sof0 = Segment.sof0
code Dht = Segment.dht
code Soi = Segment.soi
code Sos = Segment.sos
code Dqt = Segment.dqt
code Dri = Segment.dri
