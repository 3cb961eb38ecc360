-- What a test claims is read back from its text.
use Rattle.std.proofs.Common.{◌≡◌, ℕ, ◌+◌, ◌^◌, ◌<◌, true, false, cond, List, [], ◌∷◌, ◌++◌, length}
use Rattle.std.proofs.Common.{Option, Some, None, refl, sym, ap, ◌∙◌, arith, append-nil}
use Rattle.std.specs.Prelude.{◌==◌, map, option_map, option_and_then}
use Rattle.std.specs.List.{filter_map}
use Rattle.std.specs.Fmt.{decimal}
use Rattle.std.proofs.lemmas.Bool.Decides.{nat_tests}
use Rattle.std.proofs.lemmas.List.Elements.{filter_map-append}
use Rattle.rvs_insn.specs.Isa.{Isa}
use Rattle.rvs_insn.specs.Memory.{HasRoom}
use Rattle.rvs_base.specs.Digits.{digits_of}
use Rattle.rvs_base.specs.Lines.{before, after}
use Rattle.rvs_base.proofs.Readings.{digits_of-decimal}
use Rattle.rvs_points.specs.Points as groups
use Rattle.rvs_points.specs.Points.{Label}
use Rattle.rvs_points.specs.Valid.{IsValid}
use Rattle.rvs_choice.specs.declared.solved.Solved.{Solved}
use Rattle.rvs_test_text.specs.declared.claim.Claim.{Claim}
use Rattle.rvs_test_text.specs.declared.statement.Statement.{Statement}
use Rattle.rvs_test_text.specs.Statements.{printed}
use Rattle.rvs_test_text.specs.TestText.{Point, claim_lines, header, step_limit, test_text}
use Rattle.rvs_test_text.specs.TestText.{last_register}
use Rattle.rvs_test.specs.Made.{places, solved_among, numbered, claims_of, cases_of, named_or_none}
use Rattle.rvs_test.specs.Made.{named_at}
use Rattle.rvs_test.specs.Named.{Named, point_read, claim_read, behind_front, all_read, claims_read}
use Rattle.rvs_test.specs.Named.{named_claim}
use Rattle.rvs_test_text.proofs.Chars.{All, is_clean}
use Rattle.rvs_test_text.proofs.Digits.{decimal_spells, digit_words}
use Rattle.rvs_test.proofs.Loops.{numbered_length}
use Rattle.rvs_test.proofs.Solvings.{cases_few, cases_ready, claims_same, name_text, points_text}
use Rattle.rvs_test_text.proofs.TestNames.{whole}
use Rattle.rvs_test_text.proofs.Main.{text_cut}
use Rattle.rvs_test.proofs.Joined.{points_same}

-- ---- a line of a claim

no_space : (c : ℕ) → is_clean c ≡ true → (c == 32) ≡ false
no_space c h = grind (arith, nat_tests)

before_space : (t rest : List ℕ) → All is_clean t → before 32 (t ++ 32 ∷ rest) ≡ t
before_space [] rest h = refl
before_space (c ∷ cs) rest h = grind (arith, cond, no_space, (before_space cs rest h.1))

after_space : (t rest : List ℕ) → All is_clean t → after 32 (t ++ 32 ∷ rest) ≡ Some rest
after_space [] rest h = refl
after_space (c ∷ cs) rest h = grind (arith, cond, Some, no_space, (after_space cs rest h.1))

claim_back : (k : ℕ) (p : Point) → k < 2 ^ 64 → All is_clean p.kind
    → claim_read (decimal k ++ 32 ∷ (p.kind ++ 32 ∷ p.key))
    ≡ Some (record { case = k; kind = p.kind; key = p.key })
claim_back k p small h =
    let s = decimal_spells k small in
    let digits = digit_words (decimal k) s.digits in
    let rest = p.kind ++ 32 ∷ p.key in
    let made : List ℕ → List ℕ → Named = λ kind key. record { case = k; kind = kind; key = key } in
    let text = decimal k ++ 32 ∷ rest in
    ap (λ r. option_and_then (point_read r) (digits_of 10 (before 32 text)))
    (after_space (decimal k) rest digits)
    ∙ ap (λ t. option_and_then (point_read (Some rest)) (digits_of 10 t))
    (before_space (decimal k) rest digits)
    ∙ ap (option_and_then (point_read (Some rest))) (digits_of-decimal k small)
    ∙ ap (option_map (made (before 32 rest))) (after_space p.kind p.key h)
    ∙ ap (λ kind. Some (made kind p.key)) (before_space p.kind p.key h)

-- ---- a kind is one word

named_clean : (o : Option groups.Point) → All is_clean (named_or_none o).kind
named_clean o = grind arith

-- ---- the lines of the statements claim nothing

silent : (s : Statement) → behind_front (printed s) ≡ None
silent s = grind arith

all_silent : (ss : List Statement) → filter_map behind_front (map printed ss) ≡ []
all_silent [] = refl
all_silent (s ∷ ss) = simp (silent, (all_silent ss))

-- ---- all lines

abbrev points_of : Label → List Claim → List Point
points_of l ds = map (λ (c : Claim). named_at l c.point) ds

numbered_back : (l : Label) (j : ℕ) (ks : List ℕ) → j + length ks < 2 ^ 64
    → all_read (filter_map behind_front (claim_lines j (points_of l (numbered j ks))))
    ≡ Some (map (named_claim l) (numbered j ks))
numbered_back l j [] h = refl
numbered_back l j (k ∷ ks) h =
    grind (arith, claim_back, named_clean, (numbered_back l (j + 1) ks (omega arith)))

claims_back : (isa : Isa) (l : Label) → IsValid isa l
    → all_read (filter_map behind_front (claim_lines 0 (points_of l (claims_of isa l))))
    ≡ Some (map (named_claim l) (claims_of isa l))
unfolding claims_of
claims_back isa l v =
    let ks = solved_among isa l (places l) in
    let same : length (numbered 0 ks) ≡ length (cases_of isa l) = claims_same isa l in
    numbered_back l 0 ks (omega (arith, numbered_length 0 ks, same, cases_few isa l v))

label_back : (isa : Isa) → HasRoom isa.memory → (l : Label) → IsValid isa l
    → claims_read (test_text l.name isa (points_of l (claims_of isa l)) (cases_of isa l))
    ≡ Some (map (named_claim l) (claims_of isa l))
unfolding claims_read
label_back isa room l v =
    let cs = cases_of isa l in
    let ps = points_of l (claims_of isa l) in
    let head = header l.name isa (step_limit cs) ps in
    let fronts : List (List ℕ) → List (List ℕ) = filter_map behind_front in
    ap (λ ls. all_read (fronts ls)) (text_cut isa l.name ps cs (cases_few isa l v)
    (points_same isa l) (name_text l.name v.named) (points_text isa l v)
    (cases_ready isa room l v))
    ∙ ap all_read
    (filter_map-append behind_front head (map printed (whole (last_register isa) cs))
    ∙ ap (λ x. fronts head ++ x) (all_silent (whole (last_register isa) cs))
    ∙ append-nil (fronts head))
    ∙ claims_back isa l v

-- the same with what the code holds
pub back_there : (isa : Isa) → HasRoom isa.memory → (l : Label) → IsValid isa l
    → (text : List ℕ) (ds : List Claim) (cs : List Solved)
    → ds ≡ claims_of isa l → cs ≡ cases_of isa l
    → text ≡ test_text l.name isa (points_of l ds) cs
    → claims_read text ≡ Some (map (named_claim l) ds)
back_there isa room l v text ds cs hd hc h =
    let t : List Claim → List Solved → List ℕ = λ xs ys. test_text l.name isa (points_of l xs) ys in
    ap claims_read (h ∙ ap (λ xs. t xs cs) hd ∙ ap (t (claims_of isa l)) hc)
    ∙ label_back isa room l v ∙ ap (λ xs. Some (map (named_claim l) xs)) (sym hd)
