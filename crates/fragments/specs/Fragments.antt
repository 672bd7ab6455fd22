-- Fragments of a scan. Assumes nothing.
use Rattle.std.specs.Prelude.{ℕ, ◌+◌, ◌≤◌, List, ◌≡◌, length, take, drop, get_or}
use Rattle.std.proofs.Common.{arith, length-take, length-drop}
use Rattle.fragments.specs.declared.Fragment.{Fragment}

-- where a fragment ends
abbrev pub stop : Fragment → ℕ
stop c = c.offset + c.length

-- no fragment
abbrev pub nothing : Fragment
nothing = record { offset = 0; length = 0; marker = 0 }

-- fragment k of a list
abbrev pub fragment_at : List Fragment → ℕ → Fragment
fragment_at cs k = get_or cs k nothing

-- its bytes of the scan
abbrev pub bytes_of : List ℕ → Fragment → List ℕ
bytes_of scan c = take c.length (drop c.offset scan)

-- ---- laws

pub length_bytes_of : (scan : List ℕ) (c : Fragment) → stop c ≤ length scan → length (bytes_of scan c) ≡ c.length
length_bytes_of scan c inside = simp (length-take, length-drop) (omega arith)
