-- What fault lines say of signature files.
use Rattle.std.specs.Prelude.{ℕ, List, ◌++◌, codes, decimal}
use Rattle.rvs_sig.specs.declared.words.SigRefusal.{SigRefusal}
use Rattle.rvs_sig.specs.declared.words.SigRefusal.TheVariants.{BadLine, TooLong}

-- the first bad line, or that there are too many
abbrev pub refusal_text : SigRefusal → List ℕ
refusal_text (BadLine line) = codes "sig 1 line " ++ decimal line
refusal_text TooLong = codes "sig 2"
