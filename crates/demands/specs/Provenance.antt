-- What the last sentence of demand 3 says: "Under any such history, a whole picture has no gap, and each byte is what a packet
-- accepted for it brought for that place." Definitions alone: the theorems are in `Demand3`. Assumes nothing.
use Rattle.std.specs.Prelude.{ℕ, ◌+◌, ◌≤◌, ◌<◌, true, List, [], ◌∷◌, ◌++◌, ◌≡◌, length, get_or, Ok}
use Rattle.fragments.specs.Fragments.{fragment_at}
use Rattle.fragments.specs.Shared.{holds}
use Rattle.fragments.specs.declared.Fragment.{Fragment}
use Rattle.laws.specs.Each.{Each}
use Rattle.laws.specs.Within.{Between}
use Rattle.receiver.specs.Picture.{starts}
use Rattle.state.specs.Receiver.{fresh, header_of, held_fragments}
use Rattle.wire.specs.Field.{Bytes}
use Rattle.wire.specs.Reading.{reading, scan_in}
use Rattle.wire.specs.declared.Packet.{Packet}
use Rattle.demands.specs.History.{State, state, Accepted, Outcome, after}

-- Place i lies in exactly one of these fragments.
pub record InExactlyOne (i : ℕ) (fs : List Fragment) : Type 0 where
  pub index : ℕ
  pub among_them : index < length fs
  pub lies_in : holds i (fragment_at fs index) ≡ true
  pub no_other : (k : ℕ) → k < length fs → holds i (fragment_at fs k) ≡ true → k ≡ index

-- A packet of that source brings v for place i: its scan data lie in the picture from its offset on, and v is the byte of them that
-- lies there.
pub record Brings (source : ℕ) (packet : List ℕ) (i v : ℕ) : Type 0 where
  pub said : Packet
  pub read : reading source packet ≡ Ok said
  pub at : ℕ
  pub in_its_data : at < length (scan_in packet said)
  pub place : said.offset + at ≡ i
  pub byte : get_or (scan_in packet said) at 0 ≡ v

-- Of any step that takes packets one by one.
module _ (step : State → List ℕ → Outcome State) where
  -- A packet that comes to x is accepted and starts a picture: none is held, or the packet is newer than the one held.
  pub record StartsPicture (x : State) (packet : List ℕ) : Type 0 where
    pub accepted : Accepted (step x packet).answer
    pub said : Packet
    pub read : reading x.receiver.source packet ≡ Ok said
    pub starts_one : starts x.receiver said ≡ true

  -- Packets come to x, one after the other, and none of them starts a picture.
  abbrev pub NoneStarts : State → List (List ℕ) → Type 0
  NoneStarts x [] = Unit {0}
  NoneStarts x (p ∷ packets) = (StartsPicture x p → ⊥) × NoneStarts (step x p).left packets

  -- Among packets that came to x, and have left y of it, is one that brought what is at place i of the area, and was accepted for the
  -- picture that y holds: none that came later started another, and it is of that picture's time stamp and header fields.
  pub record ByteBrought (x : State) (packets : List (List ℕ)) (y : State) (i : ℕ) : Type 0 where
    pub before : List (List ℕ)
    pub packet : List ℕ
    pub later : List (List ℕ)
    pub order : packets ≡ before ++ (packet ∷ later)
    pub accepted : Accepted (step (after step x before) packet).answer
    pub none_started_later : NoneStarts (step (after step x before) packet).left later
    pub brings : Brings x.receiver.source packet i (get_or y.area i 0)
    pub of_its_time : brings.said.time ≡ y.receiver.time
    pub of_its_header : brings.said.header ≡ header_of y.receiver

  -- What these packets have left of x: up to the end, which lies in the area, there is no gap, and each byte was brought for its place.
  pub record AsBrought (x : State) (packets : List (List ℕ)) (y : State) : Type 0 where
    pub end_known : 0 < y.receiver.end
    pub in_the_area : y.receiver.end ≤ length y.area
    pub no_gap : (i : ℕ) → i < y.receiver.end → InExactlyOne i (held_fragments y.receiver)
    pub each_byte : (i : ℕ) → i < y.receiver.end → ByteBrought x packets y i

  -- The sentence: from open on, after any packets of bytes, a picture that is whole is as brought.
  abbrev pub WholeAsBrought : Type 0
  WholeAsBrought =
      (source room : ℕ) (area : List ℕ) (packets : List (List ℕ))
      → Between 1 65536 room
      → length area ≡ room
      → Each Bytes packets
      → (after step (state (fresh source room) area) packets).receiver.whole ≡ 1
      → AsBrought (state (fresh source room) area) packets (after step (state (fresh source room) area) packets)
