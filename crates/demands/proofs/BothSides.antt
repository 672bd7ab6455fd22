-- Cases on both sides of each bound, as one table that the checker computes.
-- Assumes nothing.
use Rattle.std.specs.Prelude.{refl}
use Rattle.receiver.specs.Picture.{picture_for}
use Rattle.receiver.specs.Time.{ahead}
use Rattle.demands.specs.BothSides.{BothSides}
use Rattle.demands.specs.Computing.{computes_sending, computes_tables}

pub both_sides : BothSides
unfolding computes_tables computes_sending ahead picture_for
both_sides = record {
  q_50_luma_0 = refl;
  q_50_luma_2 = refl;
  q_10_luma_0 = refl;
  q_1_luma_5 = refl;
  q_99_luma_0 = refl;
  q_3_luma_1 = refl;
  q_3_scale = refl;
  q_51_chroma_63 = refl;
  scan_172 = refl;
  scan_172_packet_0 = refl;
  scan_172_packet_1 = refl;
  scan_173 = refl;
  scan_173_packet_1 = refl;
  scan_173_packet_2 = refl;
  tables_in_the_first = refl;
  tables_packet_2 = refl;
  tables_packet_3 = refl;
  across_2^32 = refl;
  across_2^32_starts = refl;
  half_way_less_1 = refl;
  half_way_less_1_starts = refl;
  half_way = refl;
  half_way_past = refl;
  index_too_large_is_45 = refl;
  past_is_22 = refl;
}
