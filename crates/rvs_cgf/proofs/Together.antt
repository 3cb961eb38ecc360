-- Points of a kind that stand together.
use Rattle.std.proofs.Common.{◌≡◌, Bool, true, false, not, ◌&&◌, List, [], ◌∷◌, ◌++◌, refl, sym, ap}
use Rattle.std.proofs.Common.{◌∙◌}
use Rattle.std.proofs.lemmas.Bool.{and_from, or_from, or_left, or_right}
use Rattle.std.specs.Prelude.{◌||◌, if◌then◌else◌}
use Rattle.std.specs.List.{list_any, list_all}
use Rattle.std.proofs.lemmas.List.Folds.{list_any-append}
use Rattle.rvs_cgf.specs.Groups.{Point, same_kind}
use Rattle.rvs_cgf.specs.Spelled.{Block, block, joined, blocks, kinds_are_apart}
use Rattle.rvs_points.specs.declared.group.Kind.{Kind}
use Rattle.rvs_points.proofs.SameKinds.{kind-is, kind-sym}
use Rattle.rvs_points.proofs.Distinct.{and-left, and-right, or-left, or-right}
use Rattle.rvs_points.proofs.Distinct.{or-cases, no}

-- ---- points of a kind
abbrev pub has_kind : Kind → List Point → Bool
has_kind k ps = list_any (λ p. same_kind p.kind k) ps

abbrev pub all_of : Kind → List Point → Bool
all_of k ps = list_all (λ p. same_kind p.kind k) ps

abbrev pub begins_kind : Kind → List Point → Bool
begins_kind k [] = false
begins_kind k (q ∷ qs) = same_kind q.kind k

-- each kind's points stand together
abbrev pub together : List Point → Bool
together [] = true
together (p ∷ ps) = (begins_kind p.kind ps || not (has_kind p.kind ps)) && together ps

-- points of one kind have no other
pub others-none : (k j : Kind) (ps : List Point) → all_of k ps ≡ true → same_kind k j ≡ false
    → has_kind j ps ≡ false
others-none k j [] a d = refl
others-none k j (p ∷ ps) a d =
    or_from (same_kind p.kind j) (has_kind j ps)
    (ap (λ x. same_kind x j) (kind-is p.kind k (and-left (same_kind p.kind k) (all_of k ps) a)) ∙ d)
    (others-none k j ps (and-right (same_kind p.kind k) (all_of k ps) a) d)

pub one-kind : (k : Kind) (ps : List Point) → all_of k ps ≡ true → together ps ≡ true
one-kind k [] a = refl
one-kind k (p ∷ []) a = refl
one-kind k (p ∷ q ∷ qs) a =
    let own = kind-is p.kind k (and-left (same_kind p.kind k) (all_of k (q ∷ qs)) a) in
    let rest = and-right (same_kind p.kind k) (all_of k (q ∷ qs)) a in
    and_from (same_kind q.kind p.kind || not (has_kind p.kind (q ∷ qs))) (together (q ∷ qs))
    (or_left (same_kind q.kind p.kind) (not (has_kind p.kind (q ∷ qs)))
    (ap (same_kind q.kind) own ∙ and-left (same_kind q.kind k) (all_of k qs) rest))
    (one-kind k (q ∷ qs) rest)

pub begins-append : (k : Kind) (xs ys : List Point) → begins_kind k xs ≡ true
    → begins_kind k (xs ++ ys) ≡ true
begins-append k [] ys e = cc
begins-append k (x ∷ xs) ys e = e

-- behind points that stand together, points of a kind that isn't among them
pub together-append : (k : Kind) (xs ys : List Point) → together xs ≡ true → all_of k ys ≡ true
    → has_kind k xs ≡ false → together (xs ++ ys) ≡ true
together-append k [] ys t a h = one-kind k ys a
together-append k (x ∷ xs) ys t a h =
    let apart = kind-sym k x.kind ∙ (or-left (same_kind x.kind k) (has_kind k xs) h) in
    let first = and-left (begins_kind x.kind xs || not (has_kind x.kind xs)) (together xs) t in
    and_from (begins_kind x.kind (xs ++ ys) || not (has_kind x.kind (xs ++ ys)))
    (together (xs ++ ys))
    (or-cases (begins_kind x.kind xs) (not (has_kind x.kind xs)) first
    (λ b. or_left (begins_kind x.kind (xs ++ ys)) (not (has_kind x.kind (xs ++ ys)))
    (begins-append x.kind xs ys b))
    (λ n. or_right (begins_kind x.kind (xs ++ ys)) (not (has_kind x.kind (xs ++ ys)))
    (ap not (list_any-append (λ p. same_kind p.kind x.kind) xs ys ∙ or_from (has_kind x.kind xs)
    (has_kind x.kind ys) (no (has_kind x.kind xs) n) (others-none k x.kind ys a apart)))))
    (together-append k xs ys
    (and-right (begins_kind x.kind xs || not (has_kind x.kind xs)) (together xs) t) a
    (or-right (same_kind x.kind k) (has_kind k xs) h))

-- ---- blocks
abbrev pub block_has : Kind → List Block → Bool
block_has k bs = list_any (λ c. same_kind c.kind k) bs

pub joined-has : (k : Kind) (p : Point) (bs : List Block)
    → block_has k (joined p bs) ≡ (same_kind p.kind k || block_has k bs)
joined-has k p [] = refl
joined-has k p (b ∷ bs) = by (same_kind b.kind p.kind) refl
  where
    twice : (x y : Bool) → (x || y) ≡ (x || (x || y))
    twice true y = refl
    twice false y = refl

    by : (x : Bool) → same_kind b.kind p.kind ≡ x → block_has k
        (if x then block p.kind (p ∷ b.points) ∷ bs else block p.kind (p ∷ []) ∷ b ∷ bs)
        ≡ (same_kind p.kind k || (same_kind b.kind k || block_has k bs))
    by true e = twice (same_kind p.kind k) (block_has k bs) ∙ ap
        (λ j. same_kind p.kind k || (same_kind j k || block_has k bs))
        (sym (kind-is b.kind p.kind e))
    by false e = refl

pub blocks-have : (k : Kind) (ps : List Point) → block_has k (blocks ps) ≡ has_kind k ps
blocks-have k [] = refl
blocks-have k (p ∷ ps) =
    joined-has k p (blocks ps) ∙ ap (λ b. same_kind p.kind k || b) (blocks-have k ps)

-- the first block is of the first point's kind
pub record Front (k : Kind) (bs : List Block) : Type 0 where
  pub first : Block
  pub rest : List Block
  pub is : bs ≡ first ∷ rest
  pub kind_first : first.kind ≡ k

pub front-of : (p : Point) (bs : List Block) → Front p.kind (joined p bs)
front-of p [] = record { first = block p.kind (p ∷ []); rest = []; is = refl; kind_first = refl }
front-of p (b ∷ bs) = by (same_kind b.kind p.kind)
  where
    by : (x : Bool) → Front p.kind
        (if x then block p.kind (p ∷ b.points) ∷ bs else block p.kind (p ∷ []) ∷ b ∷ bs)
    by true =
        record { first = block p.kind (p ∷ b.points); rest = bs; is = refl; kind_first = refl }
    by false = record { first = block p.kind (p ∷ []); rest = b ∷ bs; is = refl; kind_first = refl }

-- joined to blocks whose first is of its kind, or which have none of its kind
pub joined-same : (p : Point) (b : Block) (bs : List Block) → same_kind b.kind p.kind ≡ true
    → kinds_are_apart (b ∷ bs) ≡ true → kinds_are_apart (joined p (b ∷ bs)) ≡ true
joined-same p b bs e a = by (same_kind b.kind p.kind) e
  where
    by : (x : Bool) → x ≡ true → kinds_are_apart
        (if x then block p.kind (p ∷ b.points) ∷ bs else block p.kind (p ∷ []) ∷ b ∷ bs) ≡ true
    by true f =
        ap (λ k. not (block_has k bs) && kinds_are_apart bs) (sym (kind-is b.kind p.kind e)) ∙ a
    by false f = cc

pub joined-new : (p : Point) (bs : List Block) → block_has p.kind bs ≡ false
    → kinds_are_apart bs ≡ true → kinds_are_apart (joined p bs) ≡ true
joined-new p [] h a = refl
joined-new p (b ∷ bs) h a =
    by (same_kind b.kind p.kind) (or-left (same_kind b.kind p.kind) (block_has p.kind bs) h)
  where
    by : (x : Bool) → x ≡ false → kinds_are_apart
        (if x then block p.kind (p ∷ b.points) ∷ bs else block p.kind (p ∷ []) ∷ b ∷ bs) ≡ true
    by true f = cc
    by false f = and_from (not (block_has p.kind (b ∷ bs))) (kinds_are_apart (b ∷ bs)) (ap not h) a

pub joined-front : (p : Point) (k : Kind) (bs : List Block) → Front k bs → same_kind k p.kind ≡ true
    → kinds_are_apart bs ≡ true → kinds_are_apart (joined p bs) ≡ true
joined-front p k bs f e a =
    ap (λ x. kinds_are_apart (joined p x)) f.is
    ∙ joined-same p f.first f.rest (ap (λ j. same_kind j p.kind) f.kind_first ∙ e)
    (ap kinds_are_apart (sym f.is) ∙ a)

pub together-apart : (ps : List Point) → together ps ≡ true → kinds_are_apart (blocks ps) ≡ true
together-apart [] t = refl
together-apart (p ∷ []) t = refl
together-apart (p ∷ q ∷ qs) t =
    let rest = together-apart (q ∷ qs) (and-right
    (begins_kind p.kind (q ∷ qs) || not (has_kind p.kind (q ∷ qs))) (together (q ∷ qs)) t) in
    or-cases (begins_kind p.kind (q ∷ qs)) (not (has_kind p.kind (q ∷ qs))) (and-left
    (begins_kind p.kind (q ∷ qs) || not (has_kind p.kind (q ∷ qs))) (together (q ∷ qs)) t)
    (λ e. joined-front p q.kind (blocks (q ∷ qs)) (front-of q (blocks qs)) e rest)
    (λ n. joined-new p (blocks (q ∷ qs))
    (blocks-have p.kind (q ∷ qs) ∙ no (has_kind p.kind (q ∷ qs)) n) rest)
