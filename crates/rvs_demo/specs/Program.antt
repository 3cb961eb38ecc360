-- The program of the demonstration.
use Rattle.std.specs.Prelude.{ℕ, zero, suc, ◌+◌, ◌*◌, ◌/◌, ◌%◌, ◌^◌, ◌==◌, true, false}
use Rattle.std.specs.Prelude.{if◌then◌else◌, pos, List, [], ◌∷◌, ◌++◌, map, flat_map, replicate}
use Rattle.std.specs.Prelude.{Some, None}
use Rattle.std.specs.List.{range_with_len}
use Rattle.std.specs.Int.{w32, to_le_bytes}
use Rattle.rvs_insn.specs.declared.op.Op.{Op}
use Rattle.rvs_insn.specs.declared.op.Op.TheVariants.{Lui, Sw, Addi, Add, Sub, Xor, Or, And, Slt}
use Rattle.rvs_insn.specs.declared.op.Op.TheVariants.{Sltu, Mul}
use Rattle.rvs_insn.specs.Isa.{Isa}
use Rattle.rvs_insn.specs.Fields.{Fields}
use Rattle.rvs_insn.specs.Word.{word_of}
use Rattle.rvs_insn.specs.Memory.{usual_memory}
use Rattle.rvs_machine.specs.Image.{ImageValue}

-- RV32IM, without misaligned data
abbrev pub core : Isa
core =
    record {
      e = false;
      m = true;
      a = false;
      zicsr = false;
      zifencei = false;
      misaligned = false;
      address_bits = 32;
      memory = usual_memory;
    }

-- the numbers that the program is drawn from, each from the one before it
abbrev pub next_seed : ℕ → ℕ
next_seed s = (s * 1103515245 + 12345) % 2 ^ 31

-- the mnemonic of this number, from 0 to 7
abbrev pub drawn_op : ℕ → Op
drawn_op k =
    if k == 0 then Add else (if k == 1 then Sub else (if k == 2 then Xor else (if k == 3 then Or
    else (if k == 4 then And else (if k == 5 then Slt else (if k == 6 then Sltu else Mul))))))

-- an instruction over x8 to x15, by a number
abbrev pub drawn : ℕ → Fields
drawn t =
    record {
      op = drawn_op (t % 8);
      rd = Some (8 + t / 8 % 8);
      rs1 = Some (8 + t / 64 % 8);
      rs2 = Some (8 + t / 512 % 8);
      imm = None;
    }

-- so many instructions, drawn from the seeds behind one
abbrev pub generated : ℕ → ℕ → List Fields
generated zero s = []
generated (suc n) s = drawn (next_seed s / 256) ∷ generated n (next_seed s)

-- addi xj, x0, j
abbrev pub own_number : ℕ → Fields
own_number j = record { op = Addi; rd = Some j; rs1 = Some 0; rs2 = None; imm = Some (pos j) }

-- x8 to x15 get their own numbers
abbrev pub beginning : List Fields
beginning = map own_number (range_with_len 8 8)

-- lui x5, 0x81000, then addi x6, x0, 1, then sw x6, 0(x5), which halts the run
abbrev pub ending : List Fields
ending =
    record { op = Lui; rd = Some 5; rs1 = None; rs2 = None; imm = Some (pos 0x8_1000) }
    ∷ record { op = Addi; rd = Some 6; rs1 = Some 0; rs2 = None; imm = Some (pos 1) }
    ∷ record { op = Sw; rd = None; rs1 = Some 5; rs2 = Some 6; imm = Some (pos 0) }
    ∷ []

abbrev pub program : ℕ → List Fields
program n = beginning ++ (generated n n ++ ending)

-- instructions in memory
abbrev pub code : List Fields → List ℕ
code is = flat_map (λ i. to_le_bytes w32 (word_of i)) is

-- the program in memory, with eight bytes of data and an empty signature
abbrev pub image : ℕ → ImageValue
image n =
    record {
      memory = usual_memory;
      text = code (program n);
      data_bytes = replicate 8 0;
      tohost = usual_memory.data_base;
      sig_begin = usual_memory.data_base;
      sig_end = usual_memory.data_base;
      symbols = [];
    }
