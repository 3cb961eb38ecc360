-- The points of a node are read again from their keys.
use Rattle.std.proofs.Common.{◌≡◌, ◌≤◌, Bool, true, false, not, List, ◌∷◌, [], ◌++◌, length}
use Rattle.std.proofs.Common.{All, refl, sym, ap, subst, ◌∙◌, arith, append-nil, length-append}
use Rattle.std.specs.Prelude.{if◌then◌else◌}
use Rattle.std.specs.List.{list_any, list_all}
use Rattle.std.proofs.lemmas.List.Elements.{All-head, All-tail}
use Rattle.rvs_cross.proofs.Members.{by_test}
use Rattle.rvs_insn.specs.Isa.{Isa}
use Rattle.rvs_insn.specs.Names.{is_admitted_op}
use Rattle.rvs_insn.specs.declared.op.Op.{Op}
use Rattle.rvs_cgf.specs.Groups.{Meaning, op_is, reg_is, regs, nums, window, Point, admits}
use Rattle.rvs_cgf.specs.Groups.{same_kind, has, op_in, ops_of}
use Rattle.rvs_points.specs.Valid.{are_distinct, IsMeant}
use Rattle.rvs_cgf.specs.Spelled.{Block, block, joined, blocks, kinds_are_apart}
use Rattle.rvs_points.specs.declared.group.Kind.{Kind}
use Rattle.rvs_points.specs.declared.group.Kind.TheVariants as kind
use Rattle.rvs_points.proofs.SameKinds.{kind-is}
use Rattle.rvs_points.proofs.Distinct.{and-left, and-right, or-left, or-right, both-ways, if-yes}
use Rattle.rvs_points.proofs.Distinct.{if-no, no}
use Rattle.rvs_points.proofs.Saying.{said_by}
use Rattle.rvs_cgf.proofs.Validity.{front-distinct, ops-append}
use Rattle.rvs_cgf.proofs.PointsRead.{Reads, reads_by, ReadsAll}

-- ---- the points by their kinds
abbrev pub points_in : List Block → List Point
points_in [] = []
points_in (b ∷ bs) = b.points ++ points_in bs

abbrev pub under : Kind → List Block → List Point
under k [] = []
under k (b ∷ bs) = if same_kind b.kind k then b.points else under k bs

abbrev pub AllRead : Isa → List Block → Type 0
AllRead isa [] = Unit {0}
AllRead isa (b ∷ bs) = ReadsAll isa b.kind b.points × AllRead isa bs

abbrev pub MeantUnder : Kind → List Point → Type 0
MeantUnder k [] = Unit {0}
MeantUnder k (p ∷ ps) = (p.kind ≡ k) × IsMeant p × MeantUnder k ps

abbrev pub AllMeant : List Block → Type 0
AllMeant [] = Unit {0}
AllMeant (b ∷ bs) = MeantUnder b.kind b.points × AllMeant bs

pub joined-points : (p : Point) (bs : List Block) → points_in (joined p bs) ≡ p ∷ points_in bs
joined-points p [] = refl
joined-points p (b ∷ bs) = by (same_kind b.kind p.kind)
  where
    by : (x : Bool)
        → points_in (if x then block p.kind (p ∷ b.points) ∷ bs else block p.kind (p ∷ []) ∷ b ∷ bs)
        ≡ p ∷ (b.points ++ points_in bs)
    by true = refl
    by false = refl

pub blocks-points : (ps : List Point) → points_in (blocks ps) ≡ ps
blocks-points [] = refl
blocks-points (p ∷ ps) = joined-points p (blocks ps) ∙ ap (λ xs. p ∷ xs) (blocks-points ps)

pub joined-read : (isa : Isa) (p : Point) (bs : List Block) → Reads isa p.kind p
    → AllRead isa bs → AllRead isa (joined p bs)
joined-read isa p [] r h = ((r, tt), tt)
joined-read isa p (b ∷ bs) r h = by (same_kind b.kind p.kind) refl
  where
    by : (x : Bool) → same_kind b.kind p.kind ≡ x → AllRead isa
        (if x then block p.kind (p ∷ b.points) ∷ bs else block p.kind (p ∷ []) ∷ b ∷ bs)
    by true e = (
      (
        r,
        subst (λ (k : Kind). ReadsAll isa k b.points)
            (kind-is b.kind p.kind e) h.0,
      ),
      h.1,
    )
    by false e = ((r, tt), h)

pub joined-meant : (p : Point) (bs : List Block) → IsMeant p → AllMeant bs → AllMeant (joined p bs)
joined-meant p [] m h = ((refl, m, tt), tt)
joined-meant p (b ∷ bs) m h = by (same_kind b.kind p.kind) refl
  where
    by : (x : Bool) → same_kind b.kind p.kind ≡ x
        → AllMeant (if x then block p.kind (p ∷ b.points) ∷ bs else block p.kind (p ∷ []) ∷ b ∷ bs)
    by true e =
        ((refl, m, subst (λ (k : Kind). MeantUnder k b.points) (kind-is b.kind p.kind e) h.0), h.1)
    by false e = ((refl, m, tt), h)

pub blocks-meant : (ps : List Point) → All IsMeant ps → AllMeant (blocks ps)
blocks-meant [] h = tt
blocks-meant (p ∷ ps) h =
    joined-meant p (blocks ps) (All-head IsMeant p ps h) (blocks-meant ps (All-tail IsMeant p ps h))

-- all mnemonics among the meanings are admitted
pub fit-first : (isa : Isa) (m : Meaning) (ops : List Op)
    → list_all (is_admitted_op isa) (op_in m ++ ops) ≡ true → admits isa m ≡ true
fit-first isa (op_is op) ops e =
    and-left (is_admitted_op isa op) (list_all (is_admitted_op isa) ops) e
fit-first isa (reg_is r) ops e = refl
fit-first isa (regs f) ops e = refl
fit-first isa (nums f) ops e = refl
fit-first isa (window ps) ops e = refl

pub fit-rest : (isa : Isa) (m : Meaning) (ops : List Op)
    → list_all (is_admitted_op isa) (op_in m ++ ops) ≡ true
    → list_all (is_admitted_op isa) ops ≡ true
fit-rest isa (op_is op) ops e =
    and-right (is_admitted_op isa op) (list_all (is_admitted_op isa) ops) e
fit-rest isa (reg_is r) ops e = e
fit-rest isa (regs f) ops e = e
fit-rest isa (nums f) ops e = e
fit-rest isa (window ps) ops e = e

pub blocks-read : (isa : Isa) (ps : List Point) → All IsMeant ps
    → list_all (is_admitted_op isa) (ops_of ps) ≡ true → AllRead isa (blocks ps)
blocks-read isa [] h f = tt
blocks-read isa (p ∷ ps) h f =
    joined-read isa p (blocks ps)
    (reads_by isa p (All-head IsMeant p ps h) (fit-first isa p.meaning (ops_of ps) f))
    (blocks-read isa ps (All-tail IsMeant p ps h) (fit-rest isa p.meaning (ops_of ps) f))

-- ---- the block of the mnemonics
abbrev pub main_in : List Block → List Point
main_in bs = under kind.Mnemonic bs

pub under-yes : (b : Block) (bs : List Block) → same_kind b.kind kind.Mnemonic ≡ true
    → main_in (b ∷ bs) ≡ b.points
under-yes b bs e = if-yes (same_kind b.kind kind.Mnemonic) b.points (main_in bs) e

pub under-no : (b : Block) (bs : List Block) → same_kind b.kind kind.Mnemonic ≡ false
    → main_in (b ∷ bs) ≡ main_in bs
under-no b bs e = if-no (same_kind b.kind kind.Mnemonic) b.points (main_in bs) e

pub under-none : (bs : List Block) → list_any (λ c. same_kind c.kind kind.Mnemonic) bs ≡ false
    → main_in bs ≡ []
under-none [] e = refl
under-none (b ∷ bs) e = under-no b bs (or-left (same_kind b.kind kind.Mnemonic) _ e)
    ∙ under-none bs (or-right (same_kind b.kind kind.Mnemonic) _ e)

pub under-short : (bs : List Block) → length (main_in bs) ≤ length (points_in bs)
under-short [] = omega arith
under-short (b ∷ bs) =
    by_test (same_kind b.kind kind.Mnemonic)
    (λ e. omega (arith, ap length (under-yes b bs e), length-append b.points (points_in bs)))
    (λ e. omega
    (arith, ap length (under-no b bs e), under-short bs, length-append b.points (points_in bs)))

pub reads-under : (isa : Isa) (bs : List Block) → AllRead isa bs
    → ReadsAll isa kind.Mnemonic (main_in bs)
reads-under isa [] h = tt
reads-under isa (b ∷ bs) h =
    by_test (same_kind b.kind kind.Mnemonic)
    (λ e. subst (ReadsAll isa kind.Mnemonic) (sym (under-yes b bs e)) (subst
    (λ (k : Kind). ReadsAll isa k b.points) (kind-is b.kind kind.Mnemonic e) h.0))
    (λ e. subst (ReadsAll isa kind.Mnemonic) (sym (under-no b bs e)) (reads-under isa bs h.1))

pub back-distinct : (ps qs : List Point) → are_distinct (ps ++ qs) ≡ true → are_distinct qs ≡ true
back-distinct [] qs e = e
back-distinct (p ∷ ps) qs e =
    back-distinct ps qs (and-right (not (has p.kind p.key (ps ++ qs))) (are_distinct (ps ++ qs)) e)

pub under-distinct : (bs : List Block) → are_distinct (points_in bs) ≡ true
    → are_distinct (main_in bs) ≡ true
under-distinct [] d = refl
under-distinct (b ∷ bs) d =
    by_test (same_kind b.kind kind.Mnemonic)
    (λ e. ap are_distinct (under-yes b bs e) ∙ front-distinct b.points (points_in bs) d)
    (λ e. ap are_distinct (under-no b bs e)
    ∙ under-distinct bs (back-distinct b.points (points_in bs) d))

-- other kinds have no mnemonics
pub op-none : (p : Point) → same_kind p.kind kind.Mnemonic ≡ false → IsMeant p
    → op_in p.meaning ≡ []
op-none p o m = said_by p.kind p.key p.meaning m.said
    (λ op k is. both-ways (same_kind p.kind kind.Mnemonic) k o) (λ r _ is. ap op_in is)
    (λ f _ is. ap op_in is) (λ f _ is. ap op_in is) (λ ps _ is. ap op_in is)

pub no-ops : (k : Kind) (ps : List Point) → same_kind k kind.Mnemonic ≡ false → MeantUnder k ps
    → ops_of ps ≡ []
no-ops k [] o h = refl
no-ops k (p ∷ ps) o h =
    ap (λ xs. xs ++ ops_of ps)
    (op-none p (ap (λ j. same_kind j kind.Mnemonic) h.0 ∙ o) h.1)
    ∙ no-ops k ps o h.2

pub no-ops-in : (bs : List Block) → AllMeant bs
    → list_any (λ c. same_kind c.kind kind.Mnemonic) bs ≡ false → ops_of (points_in bs) ≡ []
no-ops-in [] h e = refl
no-ops-in (b ∷ bs) h e =
    ops-append b.points (points_in bs)
    ∙ ap (λ xs. xs ++ ops_of (points_in bs))
    (no-ops b.kind b.points (or-left (same_kind b.kind kind.Mnemonic) _ e) h.0)
    ∙ no-ops-in bs h.1 (or-right (same_kind b.kind kind.Mnemonic) _ e)

pub others-apart : (b : Block) (bs : List Block) → same_kind b.kind kind.Mnemonic ≡ true
    → kinds_are_apart (b ∷ bs) ≡ true → list_any (λ c. same_kind c.kind kind.Mnemonic) bs ≡ false
others-apart b bs e a =
    ap (λ k. list_any (λ c. same_kind c.kind k) bs) (sym (kind-is b.kind kind.Mnemonic e))
    ∙ no (list_any (λ c. same_kind c.kind b.kind) bs)
    (and-left (not (list_any (λ c. same_kind c.kind b.kind) bs)) (kinds_are_apart bs) a)

pub rest-apart : (b : Block) (bs : List Block) → kinds_are_apart (b ∷ bs) ≡ true
    → kinds_are_apart bs ≡ true
rest-apart b bs a =
    and-right (not (list_any (λ c. same_kind c.kind b.kind) bs)) (kinds_are_apart bs) a

pub ops_under : (bs : List Block) → AllMeant bs → kinds_are_apart bs ≡ true
    → ops_of (main_in bs) ≡ ops_of (points_in bs)
ops_under [] h a = refl
ops_under (b ∷ bs) h a =
    by_test (same_kind b.kind kind.Mnemonic)
    (λ e. ap ops_of (under-yes b bs e) ∙ sym (append-nil (ops_of b.points))
    ∙ ap (λ xs. ops_of b.points ++ xs) (sym (no-ops-in bs h.1 (others-apart b bs e a)))
    ∙ sym (ops-append b.points (points_in bs)))
    (λ e. ap ops_of (under-no b bs e) ∙ ops_under bs h.1 (rest-apart b bs a)
    ∙ ap (λ xs. xs ++ ops_of (points_in bs)) (sym (no-ops b.kind b.points e h.0))
    ∙ sym (ops-append b.points (points_in bs)))
