use Rattle.demands.proofs.BothSides.{both_sides}
use Rattle.demands.proofs.FileCases.{file_cases}
use Rattle.demands.proofs.Transcript.{transcript}
use Rattle.demands.proofs.cases.Goals as goal

pub returns-clause-both_sides : goal.returns-clause-both_sides
returns-clause-both_sides c = both_sides

pub returns-clause-file_cases : goal.returns-clause-file_cases
returns-clause-file_cases c = file_cases

pub returns-clause-transcript : goal.returns-clause-transcript
returns-clause-transcript c = transcript
