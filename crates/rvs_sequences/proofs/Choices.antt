-- The instructions of a place, by mnemonic.
use Rattle.std.proofs.Common.{◌≡◌, ℕ, ◌+◌, ◌*◌, ◌≤◌, List, [], ◌∷◌, length, Option, refl, sym, ap}
use Rattle.std.proofs.Common.{◌∙◌, arith}
use Rattle.std.specs.Prelude.{ℤ, find, flat_map}
use Rattle.std.specs.List.{sum_by}
use Rattle.std.proofs.lemmas.List.Concat.{length-flat_map}
use Rattle.std.proofs.lemmas.List.Sums.{sum_by-cons}
use Rattle.std.proofs.lemmas.List.{length-map}
use Rattle.rvs_insn.specs.declared.op.Op.{Op}
use Rattle.rvs_insn.specs.declared.op.Format.{Format}
use Rattle.rvs_insn.specs.declared.op.Format.TheVariants.{R, I, Shift}
use Rattle.rvs_insn.specs.Isa.{Isa}
use Rattle.rvs_insn.specs.Table.{row}
use Rattle.rvs_insn.specs.Names.{is_admitted_op}
use Rattle.rvs_insn.specs.Fields.{Fields}
use Rattle.rvs_cross.specs.Cross.{Place}
use Rattle.rvs_cross.specs.Windows.{Values, fits}
use Rattle.rvs_sequences.specs.Sequences.{at_rs1, at_rd, over_registers, in_format, insns_of}
use Rattle.rvs_sequences.specs.Sequences.{listed}
use Rattle.rvs_sequences.specs.Sequences.{candidates, solution}
use Rattle.rvs_sequences.specs.Choosing.{insns_if, admitted_insns}
use Rattle.rvs_cross.proofs.Searching.{flat_filter}

pub insns_are : (op : Op) (form : Format) → form ≡ (row op).form → insns_of op ≡ in_format form op
unfolding insns_of
insns_are op form h = ap (λ f. in_format f op) (sym h)

pub found_of_op : (v : Values) (p : Place) (op : Op) (form : Format) (found : Option Fields)
    → form ≡ (row op).form → found ≡ find (fits v p) (in_format form op)
    → found ≡ find (fits v p) (insns_of op)
found_of_op v p op form found e h = h ∙ ap (find (fits v p)) (sym (insns_are op form e))

pub cost_of_op : (op : Op) (form : Format) (new old : ℕ) → form ≡ (row op).form
    → new ≤ old + length (in_format form op) → new ≤ old + length (insns_of op)
cost_of_op op form new old e h = rw (insns_are op form e) h

pub no_others : (op : Op) (form : Format) → (form ≡ R → ⊥) → (form ≡ I → ⊥) → (form ≡ Shift → ⊥)
    → in_format form op ≡ []
no_others op form r i s = grind arith

-- ---- how many there are

pub sum_same : {X : Type 0} (f : X → ℕ) (n : ℕ) → ((x : X) → f x ≡ n) → (xs : List X)
    → sum_by f xs ≡ length xs * n
sum_same f n h [] = omega arith
sum_same f n h (x ∷ xs) = grind (arith, sum_by-cons, (sum_same f n h xs))

pub over_length : (op : Op) (imm : Option ℤ) (rds rs1s rs2s : List (Option ℕ))
    → length (over_registers op imm rds rs1s rs2s) ≡ length rds * (length rs1s * length rs2s)
unfolding over_registers
over_length op imm rds rs1s rs2s =
    length-flat_map (at_rd op imm rs1s rs2s) rds
    ∙ sum_same _ (length rs1s * length rs2s)
    (λ d. length-flat_map (at_rs1 op imm rs2s d) rs1s
    ∙ sum_same _ (length rs2s)
    (λ s. length-map rs2s (λ t. record { op = op; rd = d; rs1 = s; rs2 = t; imm = imm })) rs1s) rds

-- ---- those that the core admits

pub candidates_are : (spec : Isa) (p : Place)
    → candidates spec p ≡ flat_map (admitted_insns spec) (listed p.ops)
candidates_are spec p =
    flat_filter insns_of insns_if (is_admitted_op spec) (λ op. refl) (λ op. refl) (listed p.ops)

pub solution_is : (spec : Isa) (v : Values) (p : Place) (ops : List Op) (found : Option Fields)
    → ops ≡ listed p.ops → found ≡ find (fits v p) (flat_map (admitted_insns spec) ops)
    → found ≡ solution spec v p
solution_is spec v p ops found e h = grind (arith, candidates_are)

pub solution_costs : (spec : Isa) (p : Place) (ops : List Op) (new old : ℕ) → ops ≡ listed p.ops
    → new ≤ old + length (flat_map (admitted_insns spec) ops)
    → new ≤ old + length (candidates spec p)
solution_costs spec p ops new old e h = grind (arith, candidates_are)
