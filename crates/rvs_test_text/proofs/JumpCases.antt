-- The lines of a case with a jump frame.
use Rattle.std.proofs.Common.{◌≡◌, ℕ, suc, ◌+◌, ◌*◌, ◌%◌, ◌^◌, ◌<◌, ◌≤◌, true, List}
use Rattle.std.proofs.Common.{◌∷◌, Some, sym, arith, subst}
use Rattle.std.proofs.lemmas.Bool.Decides.{nat_tests}
use Rattle.std.specs.Prelude.{ℤ, pos, negsuc}
use Rattle.rvs_insn.specs.Memory.{Memory}
use Rattle.rvs_insn.specs.declared.op.Format.{Format}
use Rattle.rvs_insn.specs.declared.op.Format.TheVariants.{Branch, Jump}
use Rattle.rvs_insn.specs.Isa.{Isa}
use Rattle.rvs_insn.specs.Table.{row}
use Rattle.rvs_insn.specs.Fields.{Fields}
use Rattle.rvs_insn.specs.Word.{IsEncodable}
use Rattle.rvs_insn.specs.Names.{is_admitted}
use Rattle.rvs_asm_text.specs.Instructions.{in_field}
use Rattle.rvs_asm.specs.declared.mark.Mark.{Mark}
use Rattle.rvs_asm.specs.declared.location.Location.{Location}
use Rattle.rvs_asm.specs.Bytes.{distance}
use Rattle.rvs_test_text.specs.declared.statement.Name.TheVariants.{Case as CaseName, Target, Done}
use Rattle.rvs_test_text.specs.declared.statement.Name.TheVariants.{Slot}
use Rattle.rvs_test_text.specs.declared.statement.Statement.{Statement}
use Rattle.rvs_test_text.specs.declared.statement.Statement.TheVariants.{Label, To}
use Rattle.rvs_test_text.specs.Sound.{IsNearby}
use Rattle.rvs_test_text.specs.TestText.{jal, save, between, back_body, frame}
use Rattle.rvs_test_text.proofs.KindLaws.{LinkedFormat}
use Rattle.rvs_test_text.proofs.Tables.{Marks, find_name}
use Rattle.rvs_test_text.proofs.Passes.{AllFine}
use Rattle.rvs_test_text.proofs.Passes.{AllLinked, linked_join}
use Rattle.rvs_test_text.proofs.Passes.{IsThere, IsNear}
use Rattle.rvs_test_text.proofs.Assembled.{text_at}
use Rattle.rvs_test_text.proofs.Registers.{Has}
use Rattle.rvs_test_text.proofs.JumpNames.{back_after}

-- ---- fine lines

pub record IsLinkable (isa : Isa) (j : Fields) : Type 0 where
  pub form : LinkedFormat (row j.op).form
  pub imm : j.imm ≡ Some (pos 0)
  pub encodable : IsEncodable j
  pub admitted : is_admitted isa j ≡ true

pub frame_fine : (z : ℤ) (isa : Isa) (k m : ℕ) (j : Fields) (rest : List Statement) → Has isa m
    → k < 2 ^ 32 → IsLinkable isa j → IsNearby z → AllFine isa rest
    → AllFine isa (frame z k m j rest)
frame_fine z isa k m j rest hm small is near hr = grind arith

-- ---- linked lines
-- formats with a label
abbrev pub IsLabelled : Format → Type 0
IsLabelled Branch = Unit {0}
IsLabelled Jump = Unit {0}
IsLabelled _ = ⊥

near_forward : (f : Format) (a b d : ℕ) → IsLabelled f → a ≡ b + d → d ≤ 4000 → d % 2 ≡ 0
    → in_field f (distance a b) ≡ true
near_forward f a b d l e h w = grind arith

near_back : (f : Format) (a b d : ℕ) → IsLabelled f → b ≡ a + suc d → d < 4000 → d % 2 ≡ 1
    → in_field f (distance a b) ≡ true
near_back f a b d l e h w = grind arith

abbrev pub mark_at : Memory → ℕ → Mark
mark_at memory x = record { at = memory.text_base + x; in_text = true }

-- where the names of a frame are
abbrev pub FrameThere : Memory → ℤ → Marks → ℕ → ℕ → Type 0
FrameThere memory (pos n) t k s = find_name t (Target k)
    ≡ Some (mark_at memory (s + 8 + 4 * between (pos n)))
FrameThere memory (negsuc n) t k s =
    (find_name t (Target k) ≡ Some (mark_at memory (s + 8)))
    × (find_name t (CaseName k) ≡ Some (mark_at memory (s + 12 + 4 * between (negsuc n))))
    × (find_name t (Done k) ≡ Some (mark_at memory (s + 16 + 4 * between (negsuc n))))

save_linked : (t : Marks) (p k a b : ℕ) (at : Location) → IsThere t (Slot k)
    → AllLinked t (save p k a b) at
save_linked t p k a b at slot = (slot, (slot, (tt, (tt, tt))))

back_linked : (memory : Memory) (t : Marks) (k m q a r done : ℕ) → k < 2 ^ 32 → done ≡ a + 8 + 4 * q
    → q ≤ 512
    → find_name t (Done k) ≡ Some (mark_at memory done)
    → AllLinked t (back_body k m q) (text_at memory a r)
back_linked memory t k m q a r done small e most there = grind arith

pub frame_linked : (memory : Memory) (z : ℤ) (t : Marks) (k m p d : ℕ) (j : Fields) (s r : ℕ)
    → k < 2 ^ 32
    → IsLabelled (row j.op).form → IsNearby z → FrameThere memory z t k s → IsThere t (Slot k)
    → AllLinked t (frame z k m j (save p k m d)) (text_at memory s r)
frame_linked memory (pos n) t k m p d j s r small l near there slot = grind (arith, nat_tests)
frame_linked memory (negsuc n) t k m p d j s r small l near there slot =
    let q = between (negsuc n) in
    let rest = save p k m d in
    let tail = Label (CaseName k) ∷ To j (Target k) ∷ Label (Done k) ∷ rest in
    let at8 = s + 4 + 4 + 0 in
    let p3 = text_at memory at8 r in
    let go : IsNear t (memory.text_base + (s + 4)) (jal 0) (CaseName k) =
    record {
      mark = mark_at memory (s + 12 + 4 * q);
      there = there.1;
      small = small;
      near =
          near_forward Jump (memory.text_base + (s + 12 + 4 * q)) (memory.text_base + (s + 4))
          (8 + 4 * q) tt
          (omega arith) (omega (arith, near.most)) (omega arith);
    } in
    let last : AllLinked t tail (text_at memory (at8 + 4 + 4 * q) r) = (
      tt,
      (
        record {
          mark = mark_at memory (s + 8);
          there = there.0;
          small = small;
          near =
              near_back (row j.op).form (memory.text_base + (s + 8))
              (memory.text_base + (at8 + 4 + 4 * q + 0))
              (3 + 4 * q) l (omega arith) (omega (arith, near.most)) (omega arith);
        },
        (tt, save_linked t p k m d (text_at memory (at8 + 4 + 4 * q + 0 + 4 + 0) r) slot),
      ),
    ) in (
      tt,
      (
        go,
        (
          tt,
          linked_join t (back_body k m q) tail p3
              (back_linked memory t k m q at8 r (s + 16 + 4 * q) small (omega arith)
              (omega (arith, near.most))
              there.2) (subst (AllLinked t tail) (sym (back_after memory k m q at8 r)) last),
        ),
      ),
    )
