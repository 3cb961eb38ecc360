-- What some command lines ask for.
use Rattle.std.proofs.Common.{◌≡◌, [], ◌∷◌, Some, None, codes, refl}
use Rattle.rvs_base.specs.Digits.{digits_of}
use Rattle.rvs_words.specs.Commands.{command_of, number_of}
use Rattle.rvs_words.specs.declared.command.Command.TheVariants.{Unknown, Validate, Reference}

row_validate : command_of (codes "rvsuite" ∷ codes "validate" ∷ codes "--isa" ∷ codes "i.yaml" ∷ [])
    ≡ Validate (record { isa = codes "i.yaml" })
row_validate = refl

row_isa_twice : command_of (codes "rvsuite" ∷ codes "validate" ∷ codes "--isa" ∷ codes "i.yaml"
    ∷ codes "--isa" ∷ codes "i.yaml" ∷ []) ≡ Unknown
row_isa_twice = refl

row_stray : command_of (codes "rvsuite" ∷ codes "validate" ∷ codes "i.yaml" ∷ []) ≡ Unknown
row_stray = refl

row_dash : command_of (codes "rvsuite" ∷ codes "validate" ∷ codes "--isa" ∷ codes "-" ∷ [])
    ≡ Unknown
row_dash = refl

-- options stand in any order
row_any_order : command_of (codes "rvsuite" ∷ codes "reference" ∷ codes "--steps" ∷ codes "0001000"
    ∷ codes "--signature" ∷ codes "s" ∷ codes "--isa" ∷ codes "i" ∷ codes "--log" ∷ codes "l"
    ∷ codes "--test" ∷ codes "t" ∷ []) ≡ Reference
    (record {
      isa = codes "i";
      test = codes "t";
      signature = codes "s";
      log = Some (codes "l");
      steps = Some 1000;
    })
unfolding digits_of
row_any_order = refl

row_plain : command_of (codes "rvsuite" ∷ codes "reference" ∷ codes "--isa" ∷ codes "i"
    ∷ codes "--test" ∷ codes "t" ∷ codes "--signature" ∷ codes "s" ∷ []) ≡ Reference
    (record { isa = codes "i"; test = codes "t"; signature = codes "s"; log = None; steps = None })
row_plain = refl

row_no_signature : command_of (codes "rvsuite" ∷ codes "reference" ∷ codes "--isa" ∷ codes "i"
    ∷ codes "--test" ∷ codes "t" ∷ []) ≡ Unknown
row_no_signature = refl

row_log_twice : command_of (codes "rvsuite" ∷ codes "reference" ∷ codes "--isa" ∷ codes "i"
    ∷ codes "--test" ∷ codes "t" ∷ codes "--signature" ∷ codes "s" ∷ codes "--log" ∷ codes "l"
    ∷ codes "--log" ∷ codes "l" ∷ []) ≡ Unknown
row_log_twice = refl

row_no_steps : command_of (codes "rvsuite" ∷ codes "reference" ∷ codes "--isa" ∷ codes "i"
    ∷ codes "--test" ∷ codes "t" ∷ codes "--signature" ∷ codes "s" ∷ codes "--steps" ∷ codes "0"
    ∷ []) ≡ Unknown
unfolding digits_of
row_no_steps = refl

row_too_many_steps : command_of (codes "rvsuite" ∷ codes "reference" ∷ codes "--isa" ∷ codes "i"
    ∷ codes "--test" ∷ codes "t" ∷ codes "--signature" ∷ codes "s" ∷ codes "--steps"
    ∷ codes "2000001" ∷ []) ≡ Unknown
unfolding digits_of
row_too_many_steps = refl

row_most : number_of (codes "9999999") ≡ Some 9999999
unfolding digits_of
row_most = refl

row_eight_digits : number_of (codes "00000001") ≡ None
unfolding digits_of
row_eight_digits = refl

row_signed : number_of (codes "+1") ≡ None
unfolding digits_of
row_signed = refl
