-- The lines that `compare` puts.
use Rattle.std.specs.Prelude.{ℕ, List, ◌++◌, codes, decimal}
use Rattle.rvs_base.specs.Number.{hex_word_of}
use Rattle.rvs_sig.specs.declared.comparison.Verdict.{Verdict}
use Rattle.rvs_sig.specs.declared.comparison.Verdict.TheVariants.{Same, Differs, Lengths}

-- both files spell the same n words
unfoldable pub same_line : ℕ → List ℕ
same_line n = codes "PASS " ++ (decimal n ++ codes " words\n")

-- of n words the first that differ are these, at a place that counts from 0
unfoldable pub differs_line : ℕ → ℕ → ℕ → ℕ → ℕ → List ℕ
differs_line n at left right differing = codes "FAIL word " ++ (decimal at ++ (codes " is "
    ++ (hex_word_of left ++ (codes " and " ++ (hex_word_of right ++ (codes ", "
    ++ (decimal differing ++ (codes " of " ++ (decimal n ++ codes " words differ\n")))))))))

-- the files spell this many words
unfoldable pub lengths_line : ℕ → ℕ → List ℕ
lengths_line left right =
    codes "FAIL lengths " ++ (decimal left ++ (codes " and " ++ (decimal right ++ codes "\n")))

-- the line of a verdict on files of which the left one spells n words
abbrev pub verdict_line : ℕ → Verdict → List ℕ
verdict_line n (Same same) = same_line same
verdict_line n (Differs at left right differing) = differs_line n at left right differing
verdict_line n (Lengths left right) = lengths_line left right
