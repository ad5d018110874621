-- Lemmas that several crates above cite.
use Rattle.lmn_instr_reading.specs.Reading.{IsIn64Bits}
use Rattle.std.proofs.Common.{negsuc, pos, ℤ, ◌<◌, ◌^◌}
use lib.Signed.{mag}

pub size_of : (z : ℤ) → IsIn64Bits z → mag z < 2 ^ 63
size_of (pos n) h = h
size_of (negsuc n) h = h
