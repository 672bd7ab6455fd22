-- The packets of a picture that the sender takes. Assumes nothing.
use Rattle.std.specs.Prelude.{◌≡◌, ℕ, suc, ◌+◌, ◌^◌, ◌<◌, ◌≤◌, List, length, take}
use Rattle.std.proofs.Math.Path.{refl}
use Rattle.std.proofs.Common.{arith}
use Rattle.fragments.specs.Fragments.{fragment_at}
use Rattle.fragments.specs.Tiles.{Inside, tiles_inside}
use Rattle.fragments.specs.declared.Fragment.{Fragment}
use Rattle.replies.specs.Output.{success_checked}
use Rattle.replies.specs.Reply
use Rattle.replies.specs.declared.Written.{Written}
use Rattle.sender.specs.Cuts.{capacity, cuts, some_capacity, cuts_tile, cuts_filled}
use Rattle.sender.specs.Fit.{Fit}
use Rattle.sender.specs.Packet.{packet, scan_begins, length_packet}
use Rattle.sender.specs.Picture.{Picture}
use Rattle.sender.specs.ReadBack.{Cut, ReadBack, cut_read_back}
use Rattle.sender.specs.Sending.{checks, sending, Sends, Accepted, accepted}
use Rattle.sender.specs.declared.Stamp.{Stamp}

module _ {p : Picture} {size : ℕ} (fit : Fit p size) where
  -- a packet with no more scan bytes than it holds is no longer than the packet size, and with as many it is as long
  module _ (c : Fragment) where
    size_kept : c.length ≤ capacity size p c.offset → scan_begins p c + c.length ≤ size
    unfolding capacity
    size_kept h = omega (arith, some_capacity fit c.offset)

    size_filled : c.length ≡ capacity size p c.offset → scan_begins p c + c.length ≡ size
    unfolding capacity
    size_filled e = omega (arith, some_capacity fit c.offset)

  module _ (k : ℕ) (index : k < length (cuts size p)) where
    pub cut_inside : Inside 0 (length p.scan) (fragment_at (cuts size p) k)
    cut_inside = tiles_inside 0 (cuts size p) (length p.scan) k (cuts_tile fit) index

    cut_size : scan_begins p (fragment_at (cuts size p) k) + (fragment_at (cuts size p) k).length ≤ size
    cut_size = size_kept (fragment_at (cuts size p) k) (cuts_filled fit k index).most

    -- no packet is longer than the packet size, and every packet but the last is as long
    module _ (s : Stamp) where
      pub packet_fits : length (packet s p k (fragment_at (cuts size p) k)) ≤ size
      packet_fits = rw (length_packet s p k (fragment_at (cuts size p) k) cut_inside.to) cut_size

      pub packet_full : suc k < length (cuts size p) → length (packet s p k (fragment_at (cuts size p) k)) ≡ size
      packet_full more = rw (length_packet s p k (fragment_at (cuts size p) k) cut_inside.to) (size_filled (fragment_at (cuts size p) k) ((cuts_filled fit k index).all more))

-- The sender's own cuts are one way to cut a picture.
module _ (s : Stamp) (p : Picture) (size k : ℕ) (ok : Accepted p size k) (time : s.time < 2 ^ 32) (source : s.source < 2 ^ 32) where
  pub sent_cut : Cut s p (cuts size p)
  sent_cut = record {
    sendable = record { header = ok.fit.header; tables = ok.fit.tables; time = time; source = source };
    tiles = cuts_tile ok.fit;
    few = ok.few;
    reach = omega (arith, ok.fit.scan);
    short = λ j index. omega (arith, cut_size ok.fit j index, ok.fit.packet_size);
  }

  -- Read back: packet k, with the stamp that it bears.
  pub sent_read_back : ReadBack s p (fragment_at (cuts size p) k) (packet s p k (fragment_at (cuts size p) k))
  sent_read_back = cut_read_back sent_cut k ok.index

-- A call that succeeds was asked for a packet of a picture that is taken, and leaves that packet in front.
pub record Sent (p : Picture) (size : ℕ) (s : Stamp) (k : ℕ) (w : Written) (after : List ℕ) : Type 0 where
  pub ok : Accepted p size k
  pub long : w.length ≡ length (packet s p k (fragment_at (cuts size p) k))
  pub front : take w.length after ≡ packet s p k (fragment_at (cuts size p) k)

module _ (p : Picture) (size : ℕ) (s : Stamp) (k : ℕ) {before : List ℕ} {w : Written} {after : List ℕ} (sends : Sends p size s k before w after) (success : w.reply ≡ Reply.success) where
  pub sent : Sent p size s k w after
  unfolding sending
  sent =
      let t = success_checked (checks p size k) (packet s p k (fragment_at (cuts size p) k)) sends refl refl success in
      record {
        ok = accepted p size k t.0;
        long = t.1;
        front = t.2;
      }

  pub success_read_back : s.time < 2 ^ 32 → s.source < 2 ^ 32 → ReadBack s p (fragment_at (cuts size p) k) (take w.length after)
  success_read_back time source = rw sent.front (sent_read_back s p size k sent.ok time source)
