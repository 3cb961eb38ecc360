-- Worked rows.
use Rattle.std.proofs.Common.{◌≡◌, ℕ, true, false, List, [], ◌∷◌, ◌++◌, refl}
use Rattle.std.specs.Prelude.{codes, Ok, Err, pos}
use Rattle.rvs_insn.specs.Isa.{Isa}
use Rattle.rvs_insn.specs.Memory.{usual_memory}
use Rattle.rvs_insn.specs.Names.{op_of_name}
use Rattle.rvs_base.specs.Digits.{digits_of}
use Rattle.rvs_asm_text.specs.Text.{tokens}
use Rattle.rvs_asm_text.specs.Registers.{abi_of}
use Rattle.rvs_asm_text.specs.Directives.{directive_of}
use Rattle.rvs_asm_text.specs.Lines.{read_line}
use Rattle.rvs_asm.specs.declared.refusal.AsmKind.TheVariants.{OutOfRange}
use Rattle.rvs_asm.specs.Answer.{answer}

rv32im : Isa
rv32im = record {
  e = false;
  m = true;
  a = false;
  zicsr = false;
  zifencei = false;
  misaligned = false;
  address_bits = 32;
  memory = usual_memory;
}

abbrev newline : List ℕ
newline = 10 ∷ []

abbrev request_text : List ℕ
request_text =
    codes "    lui x5, %hi(tohost)" ++ newline ++ codes "    addi x6, x0, 1" ++ newline
    ++ codes "    sw x6, %lo(tohost)(x5)" ++ newline
    ++ codes ".data" ++ newline ++ codes "begin_signature:" ++ newline ++ codes ".word 7" ++ newline
    ++ codes "end_signature:" ++ newline ++ codes "tohost:" ++ newline ++ codes ".word 0"
    ++ newline

row : answer rv32im request_text ≡ Ok (record {
  memory = usual_memory;
  text = 0xb7 ∷ 0x02 ∷ 0x00 ∷ 0x81 ∷ 0x13 ∷ 0x03 ∷ 0x10 ∷ 0x00 ∷ 0x23 ∷ 0xa2 ∷ 0x62 ∷ 0x00 ∷ [];
  data_bytes = 7 ∷ 0 ∷ 0 ∷ 0 ∷ 0 ∷ 0 ∷ 0 ∷ 0 ∷ [];
  tohost = 0x8100_0004;
  sig_begin = 0x8100_0000;
  sig_end = 0x8100_0004;
  symbols = record { name = codes "begin_signature"; at = 0x8100_0000 }
      ∷ record { name = codes "end_signature"; at = 0x8100_0004 }
      ∷ record { name = codes "tohost"; at = 0x8100_0004 } ∷ [];
})
unfolding digits_of answer tokens read_line op_of_name directive_of abi_of rv32im
row = refl

-- a number outside its field is refused with its line
out_of_range : answer rv32im (codes "nop" ++ newline ++ codes "addi x1, x0, 2048")
    ≡ Err (record { line = 2; kind = OutOfRange (pos 2048) })
unfolding digits_of answer tokens read_line op_of_name directive_of abi_of rv32im
out_of_range = refl

-- ---- a core with 64 KiB of text at 0, and its data behind it
low : Isa
low = record rv32im { memory = record { text_base = 0; data_base = 0x1_0000 } }

low_row : answer low request_text ≡ Ok (record {
  memory = record { text_base = 0; data_base = 0x1_0000 };
  text = 0xb7 ∷ 0x02 ∷ 0x01 ∷ 0x00 ∷ 0x13 ∷ 0x03 ∷ 0x10 ∷ 0x00 ∷ 0x23 ∷ 0xa2 ∷ 0x62 ∷ 0x00 ∷ [];
  data_bytes = 7 ∷ 0 ∷ 0 ∷ 0 ∷ 0 ∷ 0 ∷ 0 ∷ 0 ∷ [];
  tohost = 0x1_0004;
  sig_begin = 0x1_0000;
  sig_end = 0x1_0004;
  symbols = record { name = codes "begin_signature"; at = 0x1_0000 }
      ∷ record { name = codes "end_signature"; at = 0x1_0004 }
      ∷ record { name = codes "tohost"; at = 0x1_0004 } ∷ [];
})
unfolding digits_of answer tokens read_line op_of_name directive_of abi_of rv32im low
low_row = refl
