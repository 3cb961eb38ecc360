-- Worked rows.
use Rattle.std.proofs.Common.{◌≡◌, List, [], ◌∷◌, ◌++◌, refl}
use Rattle.std.specs.Prelude.{ℕ, Some, None, codes}
use Rattle.rvs_base.specs.Digits.{digits_of}
use Rattle.rvs_test.specs.Named.{claims_read}

abbrev header_text : List ℕ
header_text =
    codes "#! rvsuite test 1\n#! label add\n#! isa RV32IM\n#! steps 144\n"
    ++ (codes "#! case 0 mnemonics add\n" ++ codes "#! case 1 op_comb rs1 == rd != rs2\n")

-- a key may have spaces, and a line of the code claims nothing
header_claims : claims_read
    (header_text ++ codes "    .text # case 2 rs1 x1\n    #! case 3 rs1 x1\n")
    ≡ Some
    (record { case = 0; kind = codes "mnemonics"; key = codes "add" }
    ∷ record { case = 1; kind = codes "op_comb"; key = codes "rs1 == rd != rs2" } ∷ [])
unfolding digits_of claims_read
header_claims = refl

no_number : claims_read (header_text ++ codes "#! case x rs1 x1\n") ≡ None
unfolding digits_of claims_read
no_number = refl

no_key : claims_read (header_text ++ codes "#! case 2 rs1\n") ≡ None
unfolding digits_of claims_read
no_key = refl
