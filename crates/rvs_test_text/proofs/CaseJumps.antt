-- The jump of a case, wherever it stands.
use Rattle.std.proofs.Common.{◌≡◌, ℕ, suc, ◌+◌, ◌*◌, ◌%◌, ◌^◌, ◌<◌, ◌≤◌, [], List, ◌∷◌, ◌++◌}
use Rattle.std.proofs.Common.{length, Option, Some, None, refl, ap, ◌∙◌, arith, subst, rules}
use Rattle.std.specs.Prelude.{ℤ, pos, negsuc, unwrap_or, replicate, ◌-ℤ◌}
use Rattle.rvs_insn.specs.declared.op.Format.{Format}
use Rattle.rvs_insn.specs.declared.op.Format.TheVariants.{Branch, Jump}
use Rattle.rvs_insn.specs.Isa.{Isa}
use Rattle.rvs_insn.specs.Table.{row}
use Rattle.rvs_insn.specs.Word.{IsEncodable}
use Rattle.rvs_machine.specs.Effects.{add32}
use Rattle.rvs_machine.specs.Machine.{Setup, imm_word}
use Rattle.rvs_asm.specs.Bytes.{distance, with_imm}
use Rattle.rvs_choice.specs.Choice.{ChoiceValue, fields_of}
use Rattle.rvs_test_text.specs.declared.statement.Name.{Name}
use Rattle.rvs_test_text.specs.declared.statement.Name.TheVariants.{Target, Slot}
use Rattle.rvs_test_text.specs.Sound.{IsNearby}
use Rattle.rvs_test_text.specs.TestText.{source, pointer, marker, save, between, unlinked, frame}
use Rattle.rvs_test_text.proofs.Runs.{StandFrom}
use Rattle.rvs_test_text.proofs.Cases.{IsGood}
use Rattle.rvs_test_text.proofs.Shapes.{source_size, source_small, source_code, save as save_code}
use Rattle.rvs_test_text.proofs.Shapes.{stand_split, stands_there}
use Rattle.std.specs.Int.{w32, cast_unsigned}
use Rattle.std.proofs.lemmas.Int.{ints}
use Rattle.rvs_machine.proofs.Steps.{StandsAt}
use Rattle.rvs_machine.proofs.Results.{HasValue}
use Rattle.rvs_machine.proofs.Jumps.{Jumping, branch_jumps, jal_jumps}
use Rattle.rvs_test_text.proofs.Frames.{skip_code, back_code, to_place}
use Rattle.rvs_test_text.proofs.JumpGood.{IsJump, forward_code, backward_code, front_piece}
use Rattle.rvs_test_text.proofs.JumpGood.{forward_good, backward_good, back_length}
use Rattle.rvs_test_text.proofs.JumpNames.{forward_made, backward_made, frame_size}
use Rattle.rvs_test_text.proofs.JumpCases.{IsLabelled}
use Rattle.rvs_test_text.proofs.Assembled.{made_all}
use Rattle.rvs_test_text.proofs.Helpers.{pointer_free}
use Rattle.rvs_test_text.proofs.PlainCases.{source_made}
use Rattle.rvs_test_text.proofs.Registers.{registers_of}
use Rattle.rvs_test_text.proofs.CaseParts.{IsMade, marked, shape_by, imm_of, sources}
use Rattle.rvs_test_text.proofs.CaseBytes.{source_four}
use Rattle.rvs_test_text.proofs.CaseNames.{FrameAt}
use Rattle.rvs_test_text.proofs.CaseRuns.{jump_case_of, jump_value, jump_taken, IsPlaced}
use Rattle.rvs_test_text.proofs.CaseRuns.{same_taken}

jumps_by : (f : Format) (setup : Setup) (c : ChoiceValue) (at target : ℕ) → (row c.op).form ≡ f
    → IsLabelled f → StandsAt setup at (fields_of c) → add32 at (imm_word (fields_of c)) ≡ target
    → target % 4 ≡ 0 → at + 4 < 2 ^ 32 → (ram : List ℕ)
    → Jumping setup ram at (fields_of c) c.w1 c.w2 (jump_value f at) (jump_taken f c) target
jumps_by Branch setup c at target e l there here al room ram =
    subst (λ t. Jumping setup ram at (fields_of c) c.w1 c.w2 None t target)
    (same_taken c.op e c.w1 c.w2)
    (branch_jumps setup ram at (fields_of c) c.w1 c.w2 target e there here al room)
jumps_by Jump setup c at target e l there here al room ram = search (rules, jal_jumps)
jumps_by _ setup c at target e l there here al room ram = absurd l

pub not_zero : (n : ℕ) → (n ≡ 0 → ⊥) → 0 < n
not_zero n h = grind arith

value_fits : (f : Format) (c : ChoiceValue) (at : ℕ) → (row c.op).form ≡ f → IsLabelled f
    → IsEncodable (fields_of c) → at + 4 < 2 ^ 32 → HasValue c.rd (jump_value f at)
value_fits f c at e l h room = grind arith

is_jump : (f : Format) (isa : Isa) (c : ChoiceValue) (at : ℕ) → (row c.op).form ≡ f → IsLabelled f
    → IsMade isa c → at + 4 < 2 ^ 32
    → IsJump (fields_of c) c.w1 c.w2 (jump_value f at) (pointer c) (marker c)
is_jump f isa c at e l is room = grind (arith, registers_of, pointer_free, marked, value_fits)

own_imm : (c : ChoiceValue) (z z' : ℤ) → c.imm ≡ Some z → z' ≡ z
    → with_imm (unlinked c) z' ≡ fields_of c
own_imm c z z' e same = grind (arith, Option, Some)

imm_word_is : (c : ChoiceValue) (z : ℤ) → c.imm ≡ Some z
    → imm_word (fields_of c) ≡ cast_unsigned w32 z
imm_word_is c z e = ap (λ o. cast_unsigned w32 (unwrap_or o (pos 0))) e

pub jumping : (z : ℤ) (f : Format) (setup : Setup) (ram0 : List ℕ) (env : Name → ℕ) (k : ℕ)
    (c : ChoiceValue) (pc slot : ℕ) → c.imm ≡ Some z → (row c.op).form ≡ f → IsLabelled f
    → IsMade setup.isa c → IsNearby z → IsPlaced setup ram0 pc slot (sources c + frame_size z + 16)
    → env (Slot k) ≡ setup.isa.memory.data_base + slot
    → FrameAt z env k (pc + source_size c.rs1 + source_size c.rs2)
    → StandFrom setup pc
    (made_all env pc
    (source c.rs1 c.w1
    ++
    (source c.rs2 c.w2 ++ frame z k (marker c) (unlinked c)
    (save (pointer c) k (marker c) (unwrap_or c.rd 0)))))
    → IsGood setup ram0 (jump_case_of z c (jump_value f) (jump_taken f c) pc slot)
jumping (pos n) f setup ram0 env k c pc slot imm e l is near at sig target there =
    let i = fields_of c in
    let p = pointer c in
    let m = marker c in
    let d = unwrap_or c.rd 0 in
    let la = source_size c.rs1 in
    let lb = source_size c.rs2 in
    let sa : la ≤ 8 = source_small c.rs1 in
    let sb : lb ≤ 8 = source_small c.rs2 in
    let s = pc + la + lb in
    let q = between (pos n) in
    let place = s + 4 in
    let dest = place + 4 + 4 * q in
    let dist : pos (env (Target k)) -ℤ pos place ≡ pos n =
    apart (env (Target k)) place n (omega (arith, target, near.words, near.some)) in
    let tail = frame (pos n) k m (unlinked c) (save p k m d) in
    let code : made_all env pc (source c.rs1 c.w1 ++ (source c.rs2 c.w2 ++ tail))
    ≡ forward_code i c.w1 c.w2 p m q (setup.isa.memory.data_base + slot) =
    source_made env pc c.rs1 c.w1 (source c.rs2 c.w2 ++ tail)
    ∙ ap (λ x. source_code c.rs1 c.w1 ++ x)
    (source_made env (pc + la) c.rs2 c.w2 tail
    ∙ ap (λ x. source_code c.rs2 c.w2 ++ x)
    (forward_made env s n k m p d (setup.isa.memory.data_base + slot) (unlinked c) i sig
    (own_imm c (pos n) (distance (env (Target k)) place) imm dist))) in
    let stands = subst (StandFrom setup pc) code there in
    let jump = is_jump f setup.isa c place e l is (omega (arith, at.room, sa, sb)) in
    let inner =
    front_piece setup None pc i c.w1 c.w2 (jump_value f place) p m
    (i ∷ (skip_code m q ++ save_code p (setup.isa.memory.data_base + slot) m d)) (replicate 32 0) []
    refl jump
    stands (omega (arith, at.room)) in
    let goes_there : add32 place (imm_word i) ≡ dest =
    ap (add32 place) (imm_word_is c (pos n) imm)
    ∙ (let w : add32 place n ≡ dest =
    omega (arith, at.room, sa, sb, near.words, near.some, near.most) in w) in
    let al : dest % 4 ≡ 0 = omega (arith, at.aligned, source_four c.rs1, source_four c.rs2) in
    forward_good setup ram0 i c.w1 c.w2 (jump_value f place) (jump_taken f c) p m q pc slot jump
    stands
    (jumps_by f setup c place dest e l inner.1.0 goes_there al (omega (arith, at.room, sa, sb)))
    (omega (arith, near.most)) (omega (arith, at.room)) at.words at.fits at.short
    (omega (arith, at.tohost, at.later))
  where
    apart : (a b n : ℕ) → a ≡ b + n → pos a -ℤ pos b ≡ pos n
    apart a b n h = grind (arith, ints)
jumping (negsuc n) f setup ram0 env k c pc slot imm e l is near at sig target there =
    let i = fields_of c in
    let p = pointer c in
    let m = marker c in
    let d = unwrap_or c.rd 0 in
    let la = source_size c.rs1 in
    let lb = source_size c.rs2 in
    let sa : la ≤ 8 = source_small c.rs1 in
    let sb : lb ≤ 8 = source_small c.rs2 in
    let s = pc + la + lb in
    let q = between (negsuc n) in
    let place = s + 12 + 4 * q in
    let dest = s + 8 in
    let dist : pos (env (Target k)) -ℤ pos place ≡ negsuc n =
    apart (env (Target k)) place n (omega (arith, target.0, near.words, near.some)) in
    let tail = frame (negsuc n) k m (unlinked c) (save p k m d) in
    let code : made_all env pc (source c.rs1 c.w1 ++ (source c.rs2 c.w2 ++ tail))
    ≡ backward_code i c.w1 c.w2 p m q s (setup.isa.memory.data_base + slot) =
    source_made env pc c.rs1 c.w1 (source c.rs2 c.w2 ++ tail)
    ∙ ap (λ x. source_code c.rs1 c.w1 ++ x)
    (source_made env (pc + la) c.rs2 c.w2 tail
    ∙ ap (λ x. source_code c.rs2 c.w2 ++ x)
    (backward_made env s n k m p d (setup.isa.memory.data_base + slot) place (s + 16 + 4 * q)
    (unlinked c) i sig
    target.1 target.2 refl
    (own_imm c (negsuc n) (distance (env (Target k)) place) imm dist))) in
    let stands = subst (StandFrom setup pc) code there in
    let jump = is_jump f setup.isa c place e l is (omega (arith, at.room, sa, sb, near.most)) in
    let bc = back_code m (s + 8) q (s + 16 + 4 * q) in
    let saving = save_code p (setup.isa.memory.data_base + slot) m d in
    let inner =
    front_piece setup None pc i c.w1 c.w2 (jump_value f place) p m
    (to_place (s + 4) place ∷ (bc ++ (i ∷ saving))) (replicate 32 0) [] refl jump stands
    (omega (arith, at.room)) in
    let sp = stand_split setup (s + 4 + 4) bc (i ∷ saving) inner.1.1 in
    let len : 4 * length bc ≡ 4 + 4 * q = back_length m (s + 8) q (s + 16 + 4 * q) in
    let there_i =
    stands_there setup (s + 4 + 4 + 4 * length bc) place i (omega (arith, len)) sp.1.0 in
    let goes_there : add32 place (imm_word i) ≡ dest =
    ap (add32 place) (imm_word_is c (negsuc n) imm)
    ∙ (let w : add32 place (cast_unsigned w32 (negsuc n)) ≡ dest =
    omega (arith, at.room, sa, sb, near.words, near.some, near.most) in w) in
    let al : dest % 4 ≡ 0 = omega (arith, at.aligned, source_four c.rs1, source_four c.rs2) in
    backward_good setup ram0 i c.w1 c.w2 (jump_value f place) (jump_taken f c) p m q pc s slot refl
    at.aligned jump stands
    (jumps_by f setup c place dest e l there_i goes_there al
    (omega (arith, at.room, sa, sb, near.most))) (omega (arith, near.most)) (omega (arith, at.room))
    at.words
    at.fits at.short (omega (arith, at.tohost, at.later))
  where
    apart : (a b n : ℕ) → b ≡ a + suc n → pos a -ℤ pos b ≡ negsuc n
    apart a b n h = grind (arith, ints)

pub imm_there : (f : Format) (isa : Isa) (c : ChoiceValue) → (row c.op).form ≡ f → IsLabelled f
    → IsMade isa c → c.imm ≡ Some (imm_of c)
imm_there f isa c e l is = grind (arith, shape_by, Some)
