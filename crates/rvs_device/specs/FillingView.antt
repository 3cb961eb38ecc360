-- What a filling tells.
use Rattle.rvs_device.specs.declared.filling.Filling.{Filling as Borrowed}
use Rattle.rvs_device.specs.Command.{Filling}

abbrev pub view : Borrowed → Filling
view f = record {
  program = f.program.now;
  test = f.test.now;
  elf = f.elf.now;
  signature = f.signature.now;
  text_base = f.text_base;
  data_base = f.data_base;
}
