-- What computed cases compute with: to unfold one of these names is to unfold every definition on its line. Assumes nothing.
use Rattle.builder.specs.File.{is_closed, body, file}
use Rattle.fragments.specs.Array.{no_fragments, padded}
use Rattle.fragments.specs.Clash.{clashes}
use Rattle.fragments.specs.Held.{reached}
use Rattle.fragments.specs.Order.{are_ordered, in_place}
use Rattle.fragments.specs.Shared.{share, alike}
use Rattle.head.specs.Head.{luma_sampling, quantisers, restarts, frame_header, huffman_tables, scan_header, head}
use Rattle.head.specs.Huffman.{luma_dc, luma_ac, chroma_dc, chroma_ac}
use Rattle.head.specs.Segment.{segment}
use Rattle.kept.specs.Kept.{blank, well_kept}
use Rattle.laws.specs.Spelled.{spelled}
use Rattle.laws.specs.Within.{within}
use Rattle.receiver.specs.FirstPacket.{given, is_bare, tables_after, kept_after}
use Rattle.receiver.specs.Picture.{picture_for}
use Rattle.receiver.specs.Step.{decision, taken, held, received, area_after}
use Rattle.receiver.specs.Time.{ahead}
use Rattle.receiver.specs.Verdict.{is_unlike}
use Rattle.replies.specs.Checks.{judged}
use Rattle.sender.specs.Cuts.{capacity, cuts}
use Rattle.sender.specs.Packet.{restart_header, table_header, packet}
use Rattle.sender.specs.Sending.{sending}
use Rattle.state.specs.WellFormed.{is_unset, picture_right, tables_given, well_formed}
use Rattle.tables.specs.Quantiser.{luma_at, chroma_at, zigzag, in_zigzag, scale, made, scaled, tables_of}
use Rattle.wire.specs.Field.{field}
use Rattle.wire.specs.Kind.{restarts_of}
use Rattle.wire.specs.Lawful.{is_lawful}
use Rattle.wire.specs.Reading.{said, reading}
use Rattle.wire.specs.Restart.{interval, restart_end}
use Rattle.wire.specs.Rtp.{headers_end, dropped, padding_broken, payload_length, payload}
use Rattle.wire.specs.TableSource.{table_source}
use Rattle.wire.specs.Tables.{has_table_header, tables_length, precision, tables_at, scan_at, table_rule_broken, are_full}
use mathlib.Core.List.{flat_map}

-- the tables of a Q
unfoldable pub computes_tables : Unit {0}
unfolding luma_at chroma_at zigzag in_zigzag scale made scaled tables_of
computes_tables = tt

-- what the reader makes of a packet
unfoldable pub computes_reading : Unit {0}
unfolding judged within field restarts_of table_source said reading interval restart_end headers_end dropped padding_broken payload_length payload has_table_header tables_length precision tables_at scan_at table_rule_broken
computes_reading = tt

-- what the receiver makes of it
unfoldable pub computes_step : Unit {0}
unfolding computes_tables computes_reading no_fragments padded clashes reached are_ordered in_place share alike blank well_kept given is_bare tables_after kept_after picture_for decision taken held received area_after ahead is_unlike is_unset is_lawful picture_right tables_given well_formed
computes_step = tt

-- the packets of a picture, and what the sender answers
unfoldable pub computes_sending : Unit {0}
unfolding judged within restarts_of table_source is_lawful are_full cuts capacity restart_header table_header packet spelled sending
computes_sending = tt

-- a file
unfoldable pub computes_file : Unit {0}
unfolding computes_tables spelled flat_map segment luma_sampling quantisers restarts frame_header huffman_tables scan_header head luma_dc luma_ac chroma_dc chroma_ac is_closed body file
computes_file = tt
