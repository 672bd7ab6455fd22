-- Lengths and bytes of some files, as one table that the checker computes. Assumes nothing.
use Rattle.std.specs.Prelude.{ℕ, ◌+◌, List, [], ◌∷◌, ◌≡◌, length, take, drop}
use Rattle.builder.specs.File.{body, file}
use Rattle.head.specs.Head.{restarts, head}
use Rattle.head.specs.declared.Frame.{Frame}
use Rattle.tables.specs.Quantiser.{tables_of}

abbrev pub frame : ℕ → ℕ → Frame
frame kind interval = record { kind = kind; width = 2; height = 2; interval = interval }

-- the head of a picture of Q 50, and the file of the transcript's picture with another scan
abbrev pub head_of : ℕ → ℕ → List ℕ
head_of kind interval = head (frame kind interval) (tables_of 50)

abbrev pub transcript_with : List ℕ → List ℕ
transcript_with scan = file (frame 1 0) (tables_of 50) scan

-- the sampling byte of luma in a head, behind SOI, two DQT, DRI if there is one, and the first 11 bytes of SOF0
abbrev pub sampling : ℕ → ℕ → List ℕ
sampling kind interval = take 1 (drop (2 + 138 + length (restarts interval) + 11) (head_of kind interval))

pub record FileCases : Type 0 where
  pub head_without_dri : length (head_of 1 0) ≡ 605
  pub head_with_dri : length (head_of 65 4) ≡ 611
  pub type_0 : sampling 0 0 ≡ 0x21 ∷ []
  pub type_1 : sampling 1 0 ≡ 0x22 ∷ []
  pub type_64 : sampling 64 4 ≡ 0x21 ∷ []
  pub type_65 : sampling 65 4 ≡ 0x22 ∷ []
  pub closed_already : length (transcript_with (0xAA ∷ 0xBB ∷ 0xFF ∷ 0xD9 ∷ [])) ≡ 605 + 4
  pub one_byte : body (0xD9 ∷ []) ≡ 0xD9 ∷ 0xFF ∷ 0xD9 ∷ []
