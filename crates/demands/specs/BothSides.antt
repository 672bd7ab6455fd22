-- Cases on both sides of each bound, as one table that the checker computes.
-- Assumes nothing.
use Rattle.std.specs.Prelude.{ℕ, ◌+◌, ◌-◌, ◌^◌, true, false, [], ◌∷◌, ◌≡◌, get_or, replicate, Err}
use Rattle.fragments.specs.declared.Fragment.{Fragment}
use Rattle.receiver.specs.Picture.{begun, starts}
use Rattle.receiver.specs.Time.{is_newer}
use Rattle.receiver.specs.Verdict.{verdict}
use Rattle.replies.specs.Checks.{judged}
use Rattle.replies.specs.Checks.{Passed}
use Rattle.replies.specs.Refusal.{number}
use Rattle.replies.specs.declared.Refusal.TheVariants as Refusal
use Rattle.sender.specs.Cuts.{cuts}
use Rattle.sender.specs.Picture.{Picture, picture}
use Rattle.sender.specs.Sending.{checks}
use Rattle.state.specs.Receiver.{fresh}
use Rattle.state.specs.declared.Receiver.{Receiver}
use Rattle.tables.specs.Quantiser.{scale, tables_of}
use Rattle.wire.specs.declared.Packet.{Packet}

-- entry i of a Q's luma table, and of its chroma table
abbrev pub luma : ℕ → ℕ → ℕ
luma q i = get_or (tables_of q) i 0

abbrev pub chroma : ℕ → ℕ → ℕ
chroma q i = get_or (tables_of q) (64 + i) 0

-- a picture of type 0 and Q 50, and one of type 65 and Q 255 with its tables, each with a scan of n bytes
abbrev pub plain : ℕ → Picture
plain n = picture (record { kind = 0; q = 50; width = 2; height = 2; interval = 0 }) [] (replicate n 170)

abbrev pub bringing : ℕ → Picture
bringing n = picture (record { kind = 65; q = 255; width = 2; height = 2; interval = 4 }) (replicate 128 16) (replicate n 170)

abbrev pub cut : ℕ → ℕ → ℕ → Fragment
cut offset length marker = record { offset = offset; length = length; marker = marker }

-- what a packet of that time stamp says, and a receiver that holds a picture of it
abbrev pub stamped : ℕ → Packet
stamped time = record {
  marker = 0;
  time = time;
  offset = 0;
  header = (plain 4).header;
  tables = record { at = 20; length = 0 };
  scan = record { at = 20; length = 4 };
}

abbrev pub held_at : ℕ → Receiver
held_at time = begun (fresh 1 65536) (stamped time)

pub record BothSides : Type 0 where
  pub q_50_luma_0 : luma 50 0 ≡ 16
  pub q_50_luma_2 : luma 50 2 ≡ 12
  pub q_10_luma_0 : luma 10 0 ≡ 80
  pub q_1_luma_5 : luma 1 5 ≡ 255
  pub q_99_luma_0 : luma 99 0 ≡ 1
  pub q_3_luma_1 : luma 3 1 ≡ 183
  pub q_3_scale : scale 3 ≡ 1666
  pub q_51_chroma_63 : chroma 51 63 ≡ 97
  pub scan_172 : cuts 192 (plain 172) ≡ cut 0 172 1 ∷ []
  pub scan_172_packet_0 : judged (checks (plain 172) 192 0) ≡ Passed
  pub scan_172_packet_1 : judged (checks (plain 172) 192 1) ≡ Err Refusal.IndexTooLarge
  pub scan_173 : cuts 192 (plain 173) ≡ cut 0 172 0 ∷ cut 172 1 1 ∷ []
  pub scan_173_packet_1 : judged (checks (plain 173) 192 1) ≡ Passed
  pub scan_173_packet_2 : judged (checks (plain 173) 192 2) ≡ Err Refusal.IndexTooLarge
  pub tables_in_the_first : cuts 192 (bringing 205) ≡ cut 0 36 0 ∷ cut 36 168 0 ∷ cut 204 1 1 ∷ []
  pub tables_packet_2 : judged (checks (bringing 205) 192 2) ≡ Passed
  pub tables_packet_3 : judged (checks (bringing 205) 192 3) ≡ Err Refusal.IndexTooLarge
  pub across_2^32 : is_newer 0 0xFFFFFFFF ≡ true
  pub across_2^32_starts : starts (held_at 0xFFFFFFFF) (stamped 0) ≡ true
  pub half_way_less_1 : is_newer (2 ^ 31 - 1) 0 ≡ true
  pub half_way_less_1_starts : starts (held_at 0) (stamped (2 ^ 31 - 1)) ≡ true
  pub half_way : is_newer (2 ^ 31) 0 ≡ false
  pub half_way_past : verdict (held_at 0) [] [] (stamped (2 ^ 31)) ≡ Err Refusal.Past
  pub index_too_large_is_45 : number Refusal.IndexTooLarge ≡ 45
  pub past_is_22 : number Refusal.Past ≡ 22
