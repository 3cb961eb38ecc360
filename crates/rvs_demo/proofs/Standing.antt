-- Instructions whose bytes stand in the text stand in memory.
use Rattle.std.proofs.Common.{◌≡◌, ℕ, ◌+◌, true, List, [], ◌∷◌, ◌++◌}
use Rattle.std.proofs.Common.{length, sym, ap, ◌∙◌, arith, subst, append_assoc}
use Rattle.std.proofs.Common.{length-append}
use Rattle.std.specs.Int.{w32, to_le_bytes}
use Rattle.rvs_insn.specs.Isa.{Isa}
use Rattle.rvs_insn.specs.Fields.{Fields}
use Rattle.rvs_insn.specs.Names.{is_admitted}
use Rattle.rvs_insn.specs.Word.{word_of, IsEncodable}
use Rattle.rvs_insn.proofs.RoundTrip.{word_fits}
use Rattle.rvs_machine.specs.Machine.{Setup}
use Rattle.rvs_machine.proofs.Fetching.{word_there}
use Rattle.rvs_machine.proofs.Steps.{StandsAt}
use Rattle.rvs_demo.specs.Program.{code}

-- the machine can execute each of these instructions
abbrev pub AllRun : Isa → List Fields → Type 0
AllRun isa [] = Unit {0}
AllRun isa (i ∷ is) = IsEncodable i × (is_admitted isa i ≡ true) × AllRun isa is

-- they stand from this place on
abbrev pub StandFrom : Setup → ℕ → List Fields → Type 0
StandFrom setup pc [] = Unit {0}
StandFrom setup pc (i ∷ is) = StandsAt setup pc i × StandFrom setup (pc + 4) is

pub stand_from : (setup : Setup) (is : List Fields) (a b : List ℕ)
    → setup.text ≡ a ++ (code is ++ b) → AllRun setup.isa is
    → StandFrom setup (setup.isa.memory.text_base + length a) is
stand_from setup [] a b e run = tt
stand_from setup (i ∷ is) a b e run =
    let bytes = to_le_bytes w32 (word_of i) in
    let here : setup.text ≡ a ++ (bytes ++ (code is ++ b)) =
    e ∙ ap (λ x. a ++ x) (append_assoc bytes (code is) b) in
    let later : setup.text ≡ (a ++ bytes) ++ (code is ++ b) =
    here ∙ sym (append_assoc a bytes (code is ++ b)) in
    let base = setup.isa.memory.text_base in
    let at : base + length (a ++ bytes) ≡ base + length a + 4 =
    ap (λ k. base + k) (length-append a bytes) ∙ omega arith in
    let P : ℕ → Type 0 = λ x. StandFrom setup x is in (
      record {
        there = word_there setup.isa.memory setup.text a (code is ++ b) (word_of i) here
            (word_fits i run.0);
        encodable = run.0;
        admitted = run.1;
      },
      subst P at (stand_from setup is (a ++ bytes) b later run.2),
    )
