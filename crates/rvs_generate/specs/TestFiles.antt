-- The files of a label's test.
use Rattle.std.specs.Prelude.{◌≢◌, ◌++◌, Bool, IsTrue, List, ℕ, codes, decimal}
use Rattle.rvs_generate.specs.Generate.{path_of}
use Rattle.rvs_generate.specs.declared.test_files.TestFiles.{TestFiles}

-- those of the label of this name in a folder: its test, the executable of it, the signature that
-- the reference machine leaves, and the one that the device leaves
abbrev pub files_of : List ℕ → List ℕ → TestFiles
files_of work name = record {
  test = path_of work name;
  executable = work ++ (codes "/" ++ (name ++ codes ".elf"));
  reference = work ++ (codes "/" ++ (name ++ codes ".reference.sig"));
  device = work ++ (codes "/" ++ (name ++ codes ".device.sig"));
}

-- the files of the test at this place of a database: its own, and those that are named by the place
abbrev pub files_at : List ℕ → ℕ → List ℕ → TestFiles
files_at work place test = record {
  test = test;
  executable = (files_of work (decimal place)).executable;
  reference = (files_of work (decimal place)).reference;
  device = (files_of work (decimal place)).device;
}

-- a file that is none of these, of which the executable is one where it is wanted
pub record IsOther (wants : Bool) (files : TestFiles) (other : List ℕ) : Type 0 where
  pub test : other ≢ files.test
  pub executable : IsTrue wants → other ≢ files.executable
  pub reference : other ≢ files.reference
  pub device : other ≢ files.device
