-- Opening a receiver. Assumes nothing.
use Rattle.std.specs.Prelude.{ℕ, true, false, cond, ◌≡◌, refl}
use Rattle.std.proofs.Common.{arith}
use Rattle.fragments.specs.Array.{no_fragments}
use Rattle.fragments.specs.Held.{reached}
use Rattle.fragments.specs.Shared.{alike}
use Rattle.kept.specs.Kept.{blank, none_well}
use Rattle.laws.specs.Truth.{split}
use Rattle.laws.specs.Within.{Between, is_within, is_under, between}
use Rattle.replies.specs.Reply
use Rattle.state.specs.Receiver.{fresh}
use Rattle.state.specs.WellFormed.{is_room, is_unset, picture_right, tables_given, well_formed, is_well_formed}
use Rattle.state.specs.declared.Opened.{Opened}
use Rattle.state.specs.declared.Receiver.{Receiver}

abbrev pub opened : ℕ → Receiver → Opened
opened reply r = record { answer = record { reply = reply; held = 0 }; receiver = r }

-- A room of 1 to 65,536 opens; any other gives a fresh receiver with room 0.
unfoldable pub opening : ℕ → ℕ → Opened
opening source room = cond (is_room room) (opened Reply.success (fresh source room)) (opened Reply.room_outside (fresh source 0))

-- The outcome of `open`.
abbrev pub Opens : ℕ → ℕ → Opened → Type 0
Opens source room o = o ≡ opening source room

-- ---- laws

pub opens : (source room : ℕ) → Between 1 65536 room → opening source room ≡ opened Reply.success (fresh source room)
unfolding opening
opens source room b = rw (is_within 1 65536 room b.0 b.1)

pub opens_not : (source room : ℕ) → is_room room ≡ false → opening source room ≡ opened Reply.room_outside (fresh source 0)
unfolding opening
opens_not source room e = rw e

-- so success says that the room is of that range
pub opened_room : (source room : ℕ) → (opening source room).answer.reply ≡ Reply.success → Between 1 65536 room
opened_room source room e = split (is_room room)
    (λ t. between 1 65536 room t)
    (λ t. absurd (omega (arith, rw (opens_not source room t) at e)))

-- what is opened is well formed, and a receiver with room 0 is not
pub fresh_well_formed : (source room : ℕ) → Between 1 65536 room → well_formed (fresh source room) ≡ true
unfolding picture_right is_unset tables_given no_fragments blank alike reached
fresh_well_formed source room b = is_well_formed (fresh source room) (record {
  room = b;
  count = omega arith;
  placed = record { order = tt; inside = tt; marked = tt };
  unused = refl;
  picture = refl;
  end = refl;
  tables = refl;
  kept = none_well;
  whole = refl;
})

pub no_room : (r : Receiver) → r.room ≡ 0 → well_formed r ≡ false
unfolding well_formed
no_room r z = rw (is_under 1 65536 r.room (omega arith))
