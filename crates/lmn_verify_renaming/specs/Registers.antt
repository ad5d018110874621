-- Registers of head code with other numbers.
use Rattle.lmn_instr_code.specs.Running.{HeadRegisters}
use Rattle.lmn_verify_renaming.specs.Renamed.{Renaming, renamed_port}

abbrev pub renamed_head : Renaming → HeadRegisters → HeadRegisters
renamed_head r g = record {
  images = record {
    atom = λ k. r.atoms.to (g.images.atom k);
    membrane = λ k. r.mems.to (g.images.membrane k);
    part = λ k. renamed_port r.atoms.to (g.images.part k);
  };
  integer = g.integer;
}
