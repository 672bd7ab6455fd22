-- The reply numbers that C is answered, each under the name of what it means. Assumes nothing.
use Rattle.std.specs.Prelude.{ℕ}

-- opening, table making, the sender or the builder has done what was asked
abbrev pub success : ℕ
success = 0

-- the receiver has taken the packet
abbrev pub held : ℕ
held = 0

-- the receiver has taken the packet, and the picture has no gap left
abbrev pub whole : ℕ
whole = 1

-- an exact repeat of a packet that is held: nothing changes
abbrev pub again : ℕ
again = 2

-- opened with a room outside 1 to 65,536
abbrev pub room_outside : ℕ
room_outside = 7

-- the area is not as long as the room
abbrev pub area_not_room : ℕ
area_not_room = 8

-- the receiver is not well formed
abbrev pub not_well_formed : ℕ
not_well_formed = 9

-- the packet is short, or breaks the padding rule
abbrev pub too_short : ℕ
too_short = 10

-- the packet is longer than 2,048 bytes
abbrev pub too_long : ℕ
too_long = 11

-- the RTP version is not 2
abbrev pub other_version : ℕ
other_version = 12

-- the payload type is not 26
abbrev pub other_payload : ℕ
other_payload = 13

-- the packet is of another source
abbrev pub other_source : ℕ
other_source = 14

-- the type is not 0, 1, 64 or 65
abbrev pub other_type : ℕ
other_type = 15

-- the type-specific byte is not 0
abbrev pub other_type_specific : ℕ
other_type_specific = 16

-- Q is 0 or 100 to 127
abbrev pub q_reserved : ℕ
q_reserved = 17

-- the width or the height is 0
abbrev pub side_zero : ℕ
side_zero = 18

-- the restart interval is 0
abbrev pub interval_zero : ℕ
interval_zero = 19

-- the packet's tables break a rule
abbrev pub table_rule : ℕ
table_rule = 20

-- the packet has no scan data
abbrev pub no_scan : ℕ
no_scan = 21

-- older than the picture held, exactly 2^31 away, or of a picture that is whole
abbrev pub past : ℕ
past = 22

-- type, Q, width, height or interval is unlike the picture's
abbrev pub unlike : ℕ
unlike = 23

-- the data would end beyond the room
abbrev pub beyond : ℕ
beyond = 24

-- the data contradicts what is held
abbrev pub clash : ℕ
clash = 25

-- 64 fragments are held
abbrev pub full : ℕ
full = 26

-- the packet brings no tables, and none are kept for its Q
abbrev pub bare : ℕ
bare = 27

-- builder: the picture is not whole
abbrev pub not_whole : ℕ
not_whole = 30

-- builder: the output is too short
abbrev pub file_output : ℕ
file_output = 31

-- table making: Q is not 1 to 99
abbrev pub q_not_made : ℕ
q_not_made = 34

-- table making: the output is under 128 bytes
abbrev pub tables_output : ℕ
tables_output = 35

-- sender: type, Q, width, height or interval
abbrev pub parameters : ℕ
parameters = 40

-- sender: the scan's length
abbrev pub scan_length : ℕ
scan_length = 41

-- sender: the packet size
abbrev pub packet_size : ℕ
packet_size = 42

-- sender: the tables
abbrev pub sent_tables : ℕ
sent_tables = 43

-- sender: the picture takes more than 64 packets
abbrev pub over_64_packets : ℕ
over_64_packets = 44

-- sender: the picture has no packet k
abbrev pub index_too_large : ℕ
index_too_large = 45

-- sender: the output is too short
abbrev pub packet_output : ℕ
packet_output = 46
