-- The numbers of the kinds of refusals of an image file, and what fault lines say of one.
use Rattle.std.specs.Prelude.{ℕ, List, ◌++◌, codes, decimal}
use Rattle.rvs_machine.specs.declared.reading.ImageKind.{ImageKind}
use Rattle.rvs_machine.specs.declared.reading.ImageKind.TheVariants.{BadLine, BadRegion, TooLarge}
use Rattle.rvs_machine.specs.declared.reading.ImageRefusal.{ImageRefusal}

abbrev pub image_number : ImageKind → ℕ
image_number BadLine = 1
image_number BadRegion = 2
image_number TooLarge = 3

-- the number of the kind, and the line
abbrev pub refusal_text : ImageRefusal → List ℕ
refusal_text refusal =
    codes "image "
    ++ (decimal (image_number refusal.kind) ++ (codes " line " ++ decimal refusal.line))
