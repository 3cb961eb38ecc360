-- What hits a point of a test is counted in the log of its run.
use Rattle.std.proofs.Common.{◌≡◌, ◌≢◌, ◌≤◌, ℕ, ◌+◌, Bool, true, cond}
use Rattle.std.proofs.Common.{List, [], ◌∷◌, ◌++◌, map, Option, refl, sym, ap}
use Rattle.std.proofs.Common.{subst, ◌∙◌, arith, rules}
use Rattle.std.specs.Prelude.{count_by}
use Rattle.std.proofs.Math.Seq.{take-append_seam}
use Rattle.std.proofs.lemmas.Bool.{eq-eqb}
use Rattle.std.proofs.lemmas.List.Sums.{sum_by-cons}
use Rattle.rvs_machine.specs.declared.event.Executed.{Executed}
use Rattle.rvs_insn.specs.Memory.{Memory}
use Rattle.rvs_insn.specs.Fields.{Fields}
use Rattle.rvs_cross.specs.Cross.{Place}
use Rattle.rvs_cross.specs.Windows.{matches}
use Rattle.rvs_cgf.specs.Groups.{Meaning, op_is, reg_is, regs, nums, window, Label, Point}
use Rattle.rvs_log.specs.Entries.{Entry}
use Rattle.rvs_log.specs.Logs.{as_entry}
use Rattle.rvs_index.specs.Runs.{suffixes}
use Rattle.rvs_index.specs.Counting.{begins, count, count_for, decoded, hits}
use Rattle.rvs_index.proofs.Matching.{length_matches}
use Rattle.rvs_test_text.specs.Claim.{IsOnly, insns_of}
use Rattle.rvs_test.specs.Claimed.{HitsAlone, HitsAs}

-- ---- one instruction
abbrev bit : Bool → ℕ
bit b = cond b 1 0

counted : {X : Type 0} (q : X → Bool) (x : X) (xs : List X) → q x ≡ true
    → 1 ≤ count_by q (x ∷ xs)
counted {X} q x xs h =
    let sum : count_by q (x ∷ xs) ≡ bit (q x) + count_by q xs =
    sum_by-cons (λ (y : X). bit (q y)) x xs in
    let one : ◌≡◌ {A = ℕ} (bit (q x)) 1 = ap bit h in
    omega (arith, sum, one)

counted-behind : {X : Type 0} (q : X → Bool) (x : X) (xs : List X) → 1 ≤ count_by q xs
    → 1 ≤ count_by q (x ∷ xs)
counted-behind {X} q x xs h = omega (arith, sum_by-cons)

alone : (q : Entry → Bool) (xs : List Executed) (e : Executed) (ys : List Executed)
    → q (as_entry e) ≡ true → 1 ≤ count_by q (map as_entry (xs ++ e ∷ ys))
alone q [] e ys h = counted q (as_entry e) (map as_entry ys) h
alone q (x ∷ xs) e ys h = grind (arith, counted-behind, (alone q xs e ys h))

-- ---- neighbours
decoded-all : (es : List Executed) → map decoded (map as_entry es) ≡ insns_of es
decoded-all [] = refl
decoded-all (e ∷ es) = simp (decoded-all es)

insns-append : (xs ys : List Executed) → insns_of (xs ++ ys) ≡ insns_of xs ++ insns_of ys
insns-append [] ys = refl
insns-append (x ∷ xs) ys = simp (insns-append xs ys)

together : (ps : List Place) (xs : List Executed) (e : Executed) (ys : List Executed)
    → begins ps (insns_of (e ∷ ys)) ≡ true
    → 1 ≤ count_by (begins ps) (suffixes (insns_of (xs ++ e ∷ ys)))
together ps [] e ys h = counted (begins ps) (insns_of (e ∷ ys)) (suffixes (insns_of ys)) h
together ps (x ∷ xs) e ys h = omega (arith, (together ps xs e ys h), counted-behind)

same-size : (a b : ℕ) → (a ≢ b → ⊥) → a ≡ b
same-size a b h = grind (arith, eq-eqb)

window-begins : (ps : List Place) (e : Executed) (more after : List Executed)
    → matches ps (insns_of (e ∷ more)) ≡ true
    → begins ps (insns_of (e ∷ (more ++ after))) ≡ true
window-begins ps e more after h =
    grind (arith, same-size, length_matches, insns-append, take-append_seam)

-- ---- a claim
alone-hits : (memory : Memory) (l : Label) (p : Point) (e : Executed) (more : List Executed)
    (outcome : ℕ × ℕ)
    → HitsAlone memory l p e more outcome → hits (record { ops = l.ops; point = p }) (as_entry e)
    ≡ true
alone-hits memory l p e more outcome h = grind arith

single : (memory : Memory) (l : Label) (p : Point) (at : ℕ) (e : Executed) (more es : List Executed)
    (outcome : ℕ × ℕ) → IsOnly at e more es → HitsAlone memory l p e more outcome
    → 1 ≤ count_by (hits (record { ops = l.ops; point = p })) (map as_entry es)
single memory l p at e more es outcome only h = grind (arith, alone, alone-hits)

counted-as : (memory : Memory) (l : Label) (p : Point) (m : Meaning) (at : ℕ) (e : Executed)
    (more es : List Executed)
    (outcome : ℕ × ℕ) → IsOnly at e more es → HitsAs memory l p m e more outcome
    → 1 ≤ count_for m (map as_entry es) (record { ops = l.ops; point = p })
counted-as memory l p (window ps) at e more es outcome only h =
    let met : matches ps (insns_of (e ∷ more)) ≡ true = ap (matches ps) h.decoded ∙ h.hit in
    let is : map decoded (map as_entry es)
    ≡ insns_of (only.before ++ e ∷ (more ++ only.after)) =
    decoded-all es ∙ ap insns_of only.split in
    subst (λ (ds : List (Option Fields)). 1 ≤ count_by (begins ps) (suffixes ds)) (sym is)
    (together ps only.before e (more ++ only.after) (window-begins ps e more only.after met))
counted-as memory l p (op_is op) at e more es outcome only h = search (rules, single)
counted-as memory l p (reg_is n) at e more es outcome only h = search (rules, single)
counted-as memory l p (regs f) at e more es outcome only h = search (rules, single)
counted-as memory l p (nums f) at e more es outcome only h = search (rules, single)

pub counted-claim : (memory : Memory) (l : Label) (p : Point) (at : ℕ) (e : Executed)
    (more es : List Executed)
    (outcome : ℕ × ℕ) → IsOnly at e more es → HitsAs memory l p p.meaning e more outcome
    → 1 ≤ count (map as_entry es) (record { ops = l.ops; point = p })
counted-claim memory l p at e more es outcome only h = search (rules, counted-as)
