-- Lengths and bytes of some files, as one table that the checker computes. Assumes nothing.
use Rattle.std.specs.Prelude.{refl}
use Rattle.demands.specs.Computing.{computes_file}
use Rattle.demands.specs.FileCases.{FileCases}

pub file_cases : FileCases
unfolding computes_file
file_cases = record {
  head_without_dri = refl;
  head_with_dri = refl;
  type_0 = refl;
  type_1 = refl;
  type_64 = refl;
  type_65 = refl;
  closed_already = refl;
  one_byte = refl;
}
