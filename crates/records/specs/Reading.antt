-- A record read from an input, and taken. Assumes nothing.
use Rattle.std.specs.Prelude.{ℕ, ◌≤◌, Bool, true, List, Option, ◌⊎◌, ◌≡◌, length, take, drop}
use Rattle.std.specs.Io.KnownBytes.{Consumes, IsAtEnd}
use Rattle.state.specs.declared.Receiver.{Receiver}
use Rattle.records.specs.Framing.{record_length}
use Rattle.records.specs.Taking.{Takes}
use Rattle.records.specs.declared.Taken.{Taken}

-- The input gave n bytes, which are the front of a buffer, and no byte behind the record that they begin. Behind that record the buffer
-- is as it was before. What the input has left is known where its type says what it gives.
pub record ReadsRecord (left : Option (List ℕ)) (before : List ℕ) (n : ℕ) (buffer : List ℕ) (left_after : Option (List ℕ)) : Type 0 where
  pub within : n ≤ length buffer
  pub read : Consumes left left_after (take n buffer)
  pub no_further : n ≤ record_length (take n buffer)
  pub behind : drop (record_length (take n buffer)) buffer ≡ drop (record_length (take n buffer)) before

-- Where no read failed, these n bytes are a record that is all there, so 2 at least, or the input is at its end.
abbrev pub EndsRecord : Bool → ℕ → List ℕ → Option (List ℕ) → Type 0
EndsRecord unfailed n buffer left_after = unfailed ≡ true → (record_length (take n buffer) ≡ n) ⊎ IsAtEnd left_after

-- The outcome of `take_next`: what one such reading gave was taken.
pub record TakesNext (left : Option (List ℕ)) (r : Receiver) (area before buffer : List ℕ) (t : Taken) (unfailed : Bool) (area_after : List ℕ) (left_after : Option (List ℕ)) : Type 0 where
  pub n : ℕ
  pub reads : ReadsRecord left before n buffer left_after
  pub ends : EndsRecord unfailed n buffer left_after
  pub takes : Takes r area (take n buffer) t area_after
