-- A file that is not that of the two packets: by the last byte of its scan. Assumes nothing.
use Rattle.std.specs.Prelude.{ℕ, ◌-◌, Bool, not, ◌&&◌, leb, eqb, length, get_or, take, List, [], ◌∷◌}
use Rattle.builder.specs.File.{body}
use Rattle.laws.specs.All.{all}

-- The third byte from the end, which in a file that is closed by FF D9 is the last of its scan.
abbrev pub third_last : List ℕ → ℕ
third_last l = get_or l (length l - 3) 0

-- Whether the file of a scan has another byte there than DD, with which the scan of the two packets ends.
abbrev pub is_other : List ℕ → Bool
is_other scan = leb 3 (length (body scan)) && not (eqb (third_last (body scan)) 0xDD)

-- So it is not theirs where no front of the area, which has 4 bytes, ends as they do.
abbrev pub no_front_ends_so : List ℕ → Bool
no_front_ends_so area = all (λ (n : ℕ). is_other (take n area)) (1 ∷ 2 ∷ 3 ∷ 4 ∷ [])
