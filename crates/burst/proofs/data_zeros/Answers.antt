-- `burst::data_zeros` meets its contract: so many copies are so long. What is copied is written out, so that nothing is computed. Assumes nothing.
use Rattle.std.proofs.Common.{sym}
use Rattle.std.proofs.lemmas.List.{length-replicate}
use lib.Ieee.{binary32, of_bits}
use Rattle.burst.proofs.data_zeros.Goals as goal

pub returns : goal.returns
returns c = sym (length-replicate 532480 (of_bits binary32 0))
