-- What is said of labels, with the last line, is their listing.
use Rattle.std.proofs.Common.{◌≡◌, ◌++◌, ℕ, List, flat_map}
use Rattle.rvs_insn.specs.Isa.{Isa}
use Rattle.rvs_cgf.specs.Groups.{Label}
use Rattle.rvs_generate.specs.GenerateTexts.{Totals, none, label_text, with_labels, total_line}
use Rattle.rvs_generate.specs.GenerateTexts.{listing}

pub listed : (isa : Isa) (ls : List Label) (text : List ℕ) (totals : Totals)
    → text ≡ flat_map (label_text isa) ls → totals ≡ with_labels isa none ls
    → text ++ total_line totals ≡ listing isa ls
unfolding listing
listed isa ls text totals lines counted = λ i. lines i ++ total_line (counted i)
