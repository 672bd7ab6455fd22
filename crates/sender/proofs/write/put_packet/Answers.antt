-- `sender::write::put_packet` meets its contract: the headers, and behind them the scan data. Assumes nothing.
use Rattle.std.proofs.Common.{refl, arith}
use Rattle.laws.specs.Put.{puts_more}
use Rattle.laws.specs.Spelled.{spelled}
use Rattle.sender.specs.Packet.{packet, length_headers, length_packet}
use Rattle.sender.specs.Picture.{contents}
use Rattle.sender.proofs.write.put_packet.Goals as goal

pub returns : goal.returns
unfolding packet spelled
returns c =
    let a = c.args in
    let p = contents a.picture in
    let long = length_packet a.stamp p a.k a.cut c.requires.marker_bound.2 in
    let headers = length_headers p.header p.tables a.cut.offset in
    let behind = rw c.scan_of.ensures at c.put_bytes.ensures in
    let jpeg = puts_more c.put_main.ensures (puts_more c.put_restart.ensures c.put_tables.ensures (omega (arith, long, headers)) (omega arith)) (omega (arith, long, headers)) refl in
    puts_more (puts_more c.put_rtp.ensures jpeg (omega arith) refl) behind (omega arith) (omega arith)
