-- What the statements of a case of any kind mark, and that no name is marked twice.
use Rattle.std.proofs.Common.{◌≡◌, ℕ, ◌+◌, ◌^◌, ◌<◌, ◌≤◌, [], List, ◌∷◌, ◌++◌, refl}
use Rattle.std.proofs.Common.{arith, rules}
use Rattle.std.specs.Prelude.{pos, unwrap_or}
use Rattle.rvs_insn.specs.Memory.{Memory}
use Rattle.rvs_insn.specs.declared.op.Format.{Format}
use Rattle.rvs_insn.specs.declared.op.Format.TheVariants.{R, JumpReg, Store, Branch, Jump, Amo}
use Rattle.rvs_insn.specs.declared.op.Format.TheVariants.{LoadReserved}
use Rattle.rvs_insn.specs.declared.op.Op.{Op}
use Rattle.rvs_insn.specs.Isa.{Isa}
use Rattle.rvs_insn.specs.Table.{row}
use Rattle.rvs_insn.specs.Word.{IsEncodable}
use Rattle.rvs_asm.specs.declared.location.Location.{Location}
use Rattle.rvs_asm.specs.Locations.{next}
use Rattle.rvs_choice.specs.Choice.{ChoiceValue, fields_of}
use Rattle.rvs_test_text.specs.declared.statement.Name.{Name}
use Rattle.rvs_test_text.specs.declared.statement.Name.TheVariants.{Case as CaseName, Target, Done}
use Rattle.rvs_test_text.specs.declared.statement.Name.TheVariants.{Scratch}
use Rattle.rvs_test_text.specs.declared.statement.Statement.{Statement}
use Rattle.rvs_test_text.specs.declared.statement.Statement.TheVariants.{Plain, High, Low}
use Rattle.rvs_test_text.specs.Statements.{line_of}
use Rattle.rvs_test_text.specs.TestText.{sw, source, pointer, marker, save, store_case, jalr_case}
use Rattle.rvs_test_text.specs.TestText.{jump_case, unlinked, frame, case_by, choice_statements}
use Rattle.rvs_test_text.specs.TestText.{reserve, atomic_case}
use Rattle.rvs_test_text.proofs.JumpNames.{frame_distinct}
use Rattle.rvs_test_text.proofs.Tables.{Marks, AllBelow, Lacks, stage, below_join, lacks_later}
use Rattle.rvs_test_text.proofs.Tables.{lacks_join}
use Rattle.rvs_test_text.proofs.Passes.{marks, Distinct}
use Rattle.rvs_test_text.proofs.Assembled.{text_at}
use Rattle.rvs_test_text.proofs.PlainCases.{plain_distinct}
use Rattle.rvs_test_text.proofs.PlainCases.{source_distinct}
use Rattle.rvs_test_text.proofs.CaseParts.{IsMade, imm_of}
use Rattle.rvs_test_text.proofs.CaseBytes.{store_tail, atomic_tail, atomic_rest}
use Rattle.rvs_test_text.proofs.CaseNames.{own_by, own_marks}

marks_by : (memory : Memory) (f : Format) (k : ℕ) (c : ChoiceValue) (a m : ℕ) → (row c.op).form ≡ f
    → IsEncodable (fields_of c) → marks (case_by f k c) (text_at memory a m) ≡ own_by memory f k c a
marks_by memory f k c a m e h = grind arith

pub case_marks_is : (isa : Isa) (k : ℕ) (c : ChoiceValue) (a m : ℕ) → IsMade isa c
    → marks (choice_statements k c) (text_at isa.memory a m) ≡ own_marks isa.memory k c a
case_marks_is isa k c a m is = marks_by isa.memory (row c.op).form k c a m refl is.sound.encodable

nil_below : (n l : ℕ) (t : Marks) → AllBelow n l t → AllBelow n l (t ++ [])
nil_below n l t h = below_join n l t [] h tt

store_distinct : (n k : ℕ) (c : ChoiceValue) (t : Marks) (p : Location) → k < 2 ^ 32
    → AllBelow n (k + 1) t → Distinct t (store_case k c) p
store_distinct n k c t p small below =
    let tail = store_tail k c in
    let t4 = (((t ++ []) ++ []) ++ []) ++ [] in
    let b4 : AllBelow n (k + 1) t4 =
    nil_below n (k + 1) (((t ++ []) ++ []) ++ [])
    (nil_below n (k + 1) ((t ++ []) ++ [])
    (nil_below n (k + 1) (t ++ []) (nil_below n (k + 1) t below))) in
    let here : (q : Location) → Distinct t4 tail q =
    λ q. (
      (small, lacks_later n (k + 1) t4 (CaseName k) (omega arith) b4),
      (tt, (tt, (tt, (tt, (tt, (tt, (tt, (tt, (tt, (tt, (tt, (tt, (tt, tt))))))))))))),
    ) in
    let rest : (q : Location) → Distinct t4 (source c.rs1 c.w1 ++ (source c.rs2 c.w2 ++ tail)) q =
    λ q. source_distinct t4 c.rs1 c.w1 (source c.rs2 c.w2 ++ tail) q
    (λ r. source_distinct t4 c.rs2 c.w2 tail r here) in
    let cleared =
    rest
    (next
    (next
    (next (next p (line_of (High (pointer c) Scratch)).body)
    (line_of (Low (pointer c) Scratch)).body) (line_of (Plain (sw 0 (pointer c) (pos 0)))).body)
    (line_of (Plain (sw 0 (pointer c) (pos 4)))).body) in
    (tt, (tt, (tt, (tt, cleared))))

reserve_distinct : (op : Op) (x y : ℕ) (t : Marks) (ss : List Statement) (p : Location)
    → ((q : Location) → Distinct t ss q) → Distinct t (reserve op x y ++ ss) p
reserve_distinct op x y t ss p h = search rules

atomic_distinct : (n k : ℕ) (c : ChoiceValue) (t : Marks) (p : Location) → k < 2 ^ 32
    → AllBelow n (k + 1) t → Distinct t (atomic_case k c) p
atomic_distinct n k c t p small below =
    let t3 = ((t ++ []) ++ []) ++ [] in
    let t7 = (((t3 ++ []) ++ []) ++ []) ++ [] in
    let b3 : AllBelow n (k + 1) t3 =
    nil_below n (k + 1) ((t ++ []) ++ [])
    (nil_below n (k + 1) (t ++ []) (nil_below n (k + 1) t below)) in
    let b7 : AllBelow n (k + 1) t7 =
    nil_below n (k + 1) (((t3 ++ []) ++ []) ++ [])
    (nil_below n (k + 1) ((t3 ++ []) ++ [])
    (nil_below n (k + 1) (t3 ++ []) (nil_below n (k + 1) t3 b3))) in
    let here : (q : Location) → Distinct t7 (atomic_tail k c) q =
    λ q. (
      (small, lacks_later n (k + 1) t7 (CaseName k) (omega arith) b7),
      (tt, (tt, (tt, (tt, (tt, (tt, (tt, (tt, tt)))))))),
    ) in
    let rest : (q : Location)
    → Distinct t7 (source c.rs1 c.w1 ++ (source c.rs2 c.w2 ++ atomic_rest k c)) q =
    λ q. source_distinct t7 c.rs1 c.w1 (source c.rs2 c.w2 ++ atomic_rest k c) q
    (λ r. source_distinct t7 c.rs2 c.w2 (atomic_rest k c) r
    (λ s. reserve_distinct c.op (unwrap_or c.rs1 0) (marker c) t7 (atomic_tail k c) s here)) in
    (tt, (tt, (tt, (tt, (tt, (tt, (tt, rest _)))))))

jalr_distinct : (n k : ℕ) (c : ChoiceValue) (t : Marks) (p : Location) → k < 2 ^ 32
    → AllBelow n (k + 1) t → Distinct t (jalr_case k c) p
jalr_distinct n k c t p small below =
    let t5 = ((((t ++ []) ++ []) ++ []) ++ []) ++ [] in
    let b5 : AllBelow n (k + 1) t5 =
    nil_below n (k + 1) ((((t ++ []) ++ []) ++ []) ++ [])
    (nil_below n (k + 1) (((t ++ []) ++ []) ++ [])
    (nil_below n (k + 1) ((t ++ []) ++ [])
    (nil_below n (k + 1) (t ++ []) (nil_below n (k + 1) t below)))) in
    let own : ℕ → Marks = λ x. (CaseName k, record { at = x; in_text = p.in_text }) ∷ [] in
    let lack5 = lacks_later n (k + 1) t5 (Target k) (omega arith) b5 in (
      tt,
      (
        tt,
        (
          tt,
          (
            tt,
            (
              tt,
              (
                (small, lacks_later n (k + 1) t5 (CaseName k) (omega arith) b5),
                (
                  tt,
                  (
                    tt,
                    (
                      (
                        small,
                        lacks_join ((t5 ++ _) ++ []) [] (Target k)
                            (lacks_join (t5 ++ _) [] (Target k)
                            (lacks_join t5 _ (Target k) lack5 refl) refl) refl,
                      ),
                      (tt, (tt, (tt, (tt, tt)))),
                    ),
                  ),
                ),
              ),
            ),
          ),
        ),
      ),
    )

jump_distinct : (n k : ℕ) (c : ChoiceValue) (t : Marks) (p : Location) → k < 2 ^ 32
    → AllBelow n (k + 1) t → Distinct t (jump_case k c) p
jump_distinct n k c t p small below =
    let tail =
    frame (imm_of c) k (marker c) (unlinked c)
    (save (pointer c) k (marker c) (unwrap_or c.rd 0)) in
    let l : (x : Name) → k + 1 ≤ stage n x → Lacks t x = λ x h. lacks_later n (k + 1) t x h below in
    source_distinct t c.rs1 c.w1 (source c.rs2 c.w2 ++ tail) p
    (λ q. source_distinct t c.rs2 c.w2 tail q
    (λ r. frame_distinct (imm_of c) k (marker c) (pointer c) (unwrap_or c.rd 0) (unlinked c) t r
    small (l (CaseName k) (omega arith)) (l (Target k) (omega arith))
    (l (Done k) (omega arith))))

distinct_by : (f : Format) (n k : ℕ) (c : ChoiceValue) (t : Marks) (p : Location) → k < 2 ^ 32
    → AllBelow n (k + 1) t → Distinct t (case_by f k c) p
distinct_by Store n k c t p small below = store_distinct n k c t p small below
distinct_by JumpReg n k c t p small below = jalr_distinct n k c t p small below
distinct_by Amo n k c t p small below = atomic_distinct n k c t p small below
distinct_by LoadReserved n k c t p small below = atomic_distinct n k c t p small below
distinct_by Branch n k c t p small below = jump_distinct n k c t p small below
distinct_by Jump n k c t p small below = jump_distinct n k c t p small below
distinct_by R n k c t p small below = plain_distinct n k c t p small below
distinct_by _ n k c t p small below = plain_distinct n k c t p small below

pub case_distinct : (n k : ℕ) (c : ChoiceValue) (t : Marks) (p : Location) → k < 2 ^ 32
    → AllBelow n (k + 1) t → Distinct t (choice_statements k c) p
case_distinct n k c t p small below = distinct_by (row c.op).form n k c t p small below
