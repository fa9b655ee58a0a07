use Rattle.line_frames.proofs.Read as Read
use Rattle.line_frames.proofs.laws.frames_are_read.Goals as goal

pub returns-clause-own : goal.returns-clause-own
returns-clause-own c = Read.own_bits_are_read

pub returns-clause-read : goal.returns-clause-read
returns-clause-read c = Read.frames_are_read
