-- What an input comes to, by what is found of its file.
use Rattle.std.proofs.Common.{◌≡◌, ◌<◌, ◌≤◌, ℕ, List, Some, None, Ok, Err, length}
use Rattle.std.proofs.Common.{ap, arith}
use Rattle.std.proofs.lemmas.Bool.{lt-ltb, le-ltb, cond-true, cond-false}
use Rattle.rvs_base.specs.Host.{Files}
use Rattle.rvs_plan.specs.Inputs.{part_end, too_long_text}
use Rattle.rvs_plan.specs.declared.stop.Stop.TheVariants.{Refused, NoFile}

pub found-none : (limit : ℕ) (files : Files) (name : List ℕ) → files name ≡ None
    → part_end limit name name limit (files name) ≡ Err (NoFile name)
found-none limit files name none = ap (part_end limit name name limit) none

pub found-long : (limit : ℕ) (files : Files) (name bytes : List ℕ) → files name ≡ Some bytes
    → limit < length bytes
    → part_end limit name name limit (files name) ≡ Err (Refused (too_long_text name limit))
found-long limit files name bytes there long = grind (arith, cond-true, lt-ltb)

pub found-whole : (limit : ℕ) (files : Files) (name bytes : List ℕ) → files name ≡ Some bytes
    → length bytes ≤ limit → part_end limit name name limit (files name) ≡ Ok bytes
found-whole limit files name bytes there within = grind (arith, cond-false, le-ltb)
