-- What a receiver holds. Assumes nothing.
use Rattle.std.specs.Prelude.{ℕ, List, take, drop}
use Rattle.fragments.specs.Array.{no_fragments}
use Rattle.fragments.specs.declared.Fragment.{Fragment}
use Rattle.wire.specs.declared.Header.{Header}
use Rattle.kept.specs.Kept.{blank, none}
use Rattle.state.specs.declared.Receiver.{Receiver}

-- the fragments held, and the places that are not used
abbrev pub held_fragments : Receiver → List Fragment
held_fragments r = take r.fragment_count r.fragments

abbrev pub unused : Receiver → List Fragment
unused r = drop r.fragment_count r.fragments

-- its picture's header fields
abbrev pub header_of : Receiver → Header
header_of r = record { kind = r.kind; q = r.q; width = r.width; height = r.height; interval = r.interval }

-- Fresh: no picture, no kept tables, and every number but source and room 0.
abbrev pub fresh : ℕ → ℕ → Receiver
fresh source room = record {
  source = source;
  room = room;
  picture = 0;
  time = 0;
  kind = 0;
  q = 0;
  width = 0;
  height = 0;
  interval = 0;
  end = 0;
  whole = 0;
  fragment_count = 0;
  fragments = no_fragments;
  tables = blank;
  kept = none;
}
