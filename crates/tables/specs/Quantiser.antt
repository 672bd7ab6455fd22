-- The quantiser tables of a Q: T.81 tables K.1 and K.2, scaled as RFC 2435 section 4.2 says. Assumes nothing.
use Rattle.std.specs.Prelude.{ℕ, ◌+◌, ◌-◌, ◌*◌, ◌/◌, ◌%◌, min, max, cond, List, [], ◌∷◌, ◌++◌, map, ◌≡◌, refl, leb, length, get_or}
use Rattle.std.proofs.Common.{◌∙◌, length-append}
use native.Mathlib.Omega.{arith}
use Rattle.std.proofs.lemmas.List.{length-map}
use Rattle.laws.specs.Each.{Each, each_append, each_map}
use Rattle.laws.specs.Within.{Between}

-- T.81 table K.1, luma: the entry at a row and a column, each 0 to 7
unfoldable pub luma_at : ℕ → ℕ → ℕ
luma_at row column = get_or (get_or rows row []) column 0
  where
    rows : List (List ℕ)
    rows =
        (16 ∷ 11 ∷ 10 ∷ 16 ∷ 24 ∷ 40 ∷ 51 ∷ 61 ∷ [])
        ∷ (12 ∷ 12 ∷ 14 ∷ 19 ∷ 26 ∷ 58 ∷ 60 ∷ 55 ∷ [])
        ∷ (14 ∷ 13 ∷ 16 ∷ 24 ∷ 40 ∷ 57 ∷ 69 ∷ 56 ∷ [])
        ∷ (14 ∷ 17 ∷ 22 ∷ 29 ∷ 51 ∷ 87 ∷ 80 ∷ 62 ∷ [])
        ∷ (18 ∷ 22 ∷ 37 ∷ 56 ∷ 68 ∷ 109 ∷ 103 ∷ 77 ∷ [])
        ∷ (24 ∷ 35 ∷ 55 ∷ 64 ∷ 81 ∷ 104 ∷ 113 ∷ 92 ∷ [])
        ∷ (49 ∷ 64 ∷ 78 ∷ 87 ∷ 103 ∷ 121 ∷ 120 ∷ 101 ∷ [])
        ∷ (72 ∷ 92 ∷ 95 ∷ 98 ∷ 112 ∷ 100 ∷ 103 ∷ 99 ∷ [])
        ∷ []

-- T.81 table K.2, chroma: four rows begin like this, and every other entry is 99
unfoldable pub chroma_at : ℕ → ℕ → ℕ
chroma_at row column = get_or (get_or corner row []) column 99
  where
    corner : List (List ℕ)
    corner =
        (17 ∷ 18 ∷ 24 ∷ 47 ∷ [])
        ∷ (18 ∷ 21 ∷ 26 ∷ 66 ∷ [])
        ∷ (24 ∷ 26 ∷ 56 ∷ 99 ∷ [])
        ∷ (47 ∷ 66 ∷ 99 ∷ 99 ∷ [])
        ∷ []

-- the row-order place, row times 8 and column, from which each entry of a DQT segment comes
unfoldable pub zigzag : List ℕ
zigzag =
    0 ∷ 1 ∷ 8 ∷ 16 ∷ 9 ∷ 2 ∷ 3 ∷ 10
    ∷ 17 ∷ 24 ∷ 32 ∷ 25 ∷ 18 ∷ 11 ∷ 4 ∷ 5
    ∷ 12 ∷ 19 ∷ 26 ∷ 33 ∷ 40 ∷ 48 ∷ 41 ∷ 34
    ∷ 27 ∷ 20 ∷ 13 ∷ 6 ∷ 7 ∷ 14 ∷ 21 ∷ 28
    ∷ 35 ∷ 42 ∷ 49 ∷ 56 ∷ 57 ∷ 50 ∷ 43 ∷ 36
    ∷ 29 ∷ 22 ∷ 15 ∷ 23 ∷ 30 ∷ 37 ∷ 44 ∷ 51
    ∷ 58 ∷ 59 ∷ 52 ∷ 45 ∷ 38 ∷ 31 ∷ 39 ∷ 46
    ∷ 53 ∷ 60 ∷ 61 ∷ 54 ∷ 47 ∷ 55 ∷ 62 ∷ 63
    ∷ []

-- the 64 entries of a table in that order
unfoldable pub in_zigzag : (ℕ → ℕ → ℕ) → List ℕ
in_zigzag entry = map (λ (place : ℕ). entry (place / 8) (place % 8)) zigzag

-- S of a Q from 1 to 99
unfoldable pub scale : ℕ → ℕ
scale q = cond (leb q 50) (5000 / q) (200 - 2 * q)

-- what an entry v becomes at a scale s, held within 1 to 255
unfoldable pub made : ℕ → ℕ → ℕ
made s v = max 1 (min 255 ((v * s + 50) / 100))

-- both tables at a scale: luma, then chroma
unfoldable pub scaled : ℕ → List ℕ
scaled s = map (made s) (in_zigzag luma_at) ++ map (made s) (in_zigzag chroma_at)

-- the 128 table bytes of a Q from 1 to 99
unfoldable pub tables_of : ℕ → List ℕ
tables_of q = scaled (scale q)

-- ---- laws

pub length_in_zigzag : (entry : ℕ → ℕ → ℕ) → length (in_zigzag entry) ≡ 64
unfolding in_zigzag zigzag
length_in_zigzag entry = refl

module _ (s : ℕ) where
  pub made_in_range : (v : ℕ) → Between 1 255 (made s v)
  unfolding made
  made_in_range v = (omega arith, omega arith)

  pub scaled_in_range : Each (Between 1 255) (scaled s)
  unfolding scaled
  scaled_in_range =
      each_append (Between 1 255) (map (made s) (in_zigzag luma_at)) (map (made s) (in_zigzag chroma_at))
      (each_map (Between 1 255) (made s) made_in_range (in_zigzag luma_at))
      (each_map (Between 1 255) (made s) made_in_range (in_zigzag chroma_at))

  pub length_made : (entry : ℕ → ℕ → ℕ) → length (map (made s) (in_zigzag entry)) ≡ 64
  length_made entry = length-map (in_zigzag entry) (made s) ∙ length_in_zigzag entry

  pub length_scaled : length (scaled s) ≡ 128
  unfolding scaled
  length_scaled = simp (length-append, length_made)

pub length_tables : (q : ℕ) → length (tables_of q) ≡ 128
unfolding tables_of
length_tables q = length_scaled (scale q)

pub tables_in_range : (q : ℕ) → Each (Between 1 255) (tables_of q)
unfolding tables_of
tables_in_range q = scaled_in_range (scale q)
