-- Each label that is read is valid for the core.
use Rattle.std.proofs.Common.{◌≡◌, ℕ, suc, ◌+◌, ◌<◌, ◌≤◌, Bool, true, false, not, ◌&&◌, List, []}
use Rattle.std.proofs.Common.{◌∷◌, ◌++◌, length, map, All, Option, Some, Ok, Err, Result}
use Rattle.std.proofs.Common.{IfOk, refl, sym, ap, subst, ◌∙◌, arith, append_assoc}
use Rattle.std.proofs.Common.{append-nil, length-append, bytes_eq, codes}
use Rattle.std.specs.Prelude.{nat_le, nat_lt, ◌==◌, ◌||◌, if◌then◌else◌, cond}
use Rattle.std.specs.List.{list_any, list_all, find}
use Rattle.std.proofs.lemmas.Bool.Decides.{nat_tests}
use Rattle.std.proofs.lemmas.Bool.{eqb-true, and_from, or_from}
use Rattle.std.proofs.lemmas.List.Elements.{All-nil, All-cons, All-push, All-append, All-head}
use Rattle.std.proofs.lemmas.List.Elements.{All-tail}
use Rattle.std.proofs.lemmas.List.Folds.{list_all-append, list_any-append}
use Rattle.std.proofs.lemmas.Slice.Eq.{bytes_eq-Decides}
use Rattle.rvs_base.specs.declared.fault.Fault.{Fault}
use Rattle.rvs_insn.specs.Isa.{Isa}
use Rattle.rvs_insn.specs.Names.{op_of_name, is_admitted_op}
use Rattle.rvs_insn.specs.Table.{row, all_ops}
use Rattle.rvs_insn.specs.declared.op.Op.{Op}
use Rattle.rvs_tree.specs.Data.{Data, Pairs, own_pairs, is_map, value_at}
use Rattle.rvs_facts.specs.Mnemonics.{number, is_same}
use Rattle.rvs_facts.proofs.Places.{same_number}
use Rattle.rvs_abstract.specs.declared.families.Families.{Families}
use Rattle.rvs_points.specs.Keys.{is_label_name, is_printable}
use Rattle.rvs_points.specs.Says.{of_op}
use Rattle.rvs_cgf.specs.Groups.{Meaning, op_is, Point, Label, means, says, admits}
use Rattle.rvs_cgf.specs.Groups.{EntryNames, at_label, at_node, at_key, Found, refused, ◌>>=◌, ◌>>◌}
use Rattle.rvs_cgf.specs.Groups.{holds, Taken, same_kind, is_point, has, entries, entry_of}
use Rattle.rvs_cgf.specs.Groups.{all_entries, passed_over, role_of, Nodes}
use Rattle.rvs_cgf.specs.Groups.{with_first, kept_first, by_role, node_step, for_each}
use Rattle.rvs_cgf.specs.Groups.{config_holds, selects, main_of, some_points}
use Rattle.rvs_cgf.specs.Groups.{nothing_taken, op_in, ops_of, finished, starting, nodes}
use Rattle.rvs_cgf.specs.Groups.{first_points, selected_label, unselected, chosen, map_label}
use Rattle.rvs_cgf.specs.Groups.{label_of, size_of, Listed, with_label, label_step}
use Rattle.rvs_cgf.specs.Groups.{nothing_listed, groups_of}
use Rattle.rvs_points.specs.Valid.{are_distinct, ops_are_distinct, IsMeant, IsValid}
use Rattle.rvs_points.specs.Valid.{IsValidIfSelected}
use Rattle.rvs_cgf.specs.GroupView.{AnswersWith, label_view}
use Rattle.rvs_points.specs.declared.group.Label.{Label as Read}
use Rattle.rvs_cgf.specs.declared.refusal.CgfRefusal.{CgfRefusal}
use Rattle.rvs_cgf.specs.declared.groups.Role.{Role}
use Rattle.rvs_cgf.specs.declared.groups.Role.TheVariants as role
use Rattle.rvs_points.specs.declared.group.Kind.{Kind}
use Rattle.rvs_points.specs.declared.group.Kind.TheVariants as kind
use Rattle.rvs_points.specs.declared.refusal.CgfKind.TheVariants as fault
use Rattle.rvs_points.proofs.SameKinds.{kind-is}
use Rattle.rvs_points.proofs.Distinct.{and-left, and-right, or-left, or-right}
use Rattle.rvs_points.proofs.Distinct.{no, has-append, distinct_insert, is_mnemonic, no-mnemonic}
use Rattle.rvs_points.proofs.Saying.{by-op}
use Rattle.rvs_cgf.proofs.Adding.{ok-is, err-not, if-ok, bind-ok, holds-then, Kept, IsOf, Gives}
use Rattle.rvs_cgf.proofs.Adding.{each-kept, point-kept, entry-kept, entries-kept, passed-kept}
use Rattle.rvs_cgf.proofs.Roles.{same-bytes, Suits, role-suits, main-printable}

-- ---- nodes
-- the points so far and those of the mnemonics, as long as their node isn't met
pub record Fits (n : Nodes) : Type 0 where
  pub count_is : length (n.taken.points ++ n.first) ≡ n.taken.count
  pub limit : n.taken.count ≤ 2048
  pub distinct : are_distinct (n.taken.points ++ n.first) ≡ true
  pub meant : All IsMeant n.taken.points
  pub first_meant : All IsMeant n.first
  pub mains : list_all is_mnemonic n.first ≡ true

abbrev pub at : List Point → Taken → Nodes
at first t = record { taken = t; first = first }

below-limit : (n : ℕ) → nat_le 2048 n ≡ false → suc n ≤ 2048
below-limit n e = grind (arith, nat_tests)

longer : (ps qs : List Point) (p : Point) (n : ℕ) → length (ps ++ qs) ≡ n
    → length ((ps ++ p ∷ []) ++ qs) ≡ suc n
longer ps qs p n e = omega
    (arith, e, length-append (ps ++ p ∷ []) qs, length-append ps (p ∷ []), length-append ps qs)

fits-kept : (k : Kind) (first : List Point) → Kept (λ t. Fits (at first t)) (IsOf k)
fits-kept k first = record {
  one = λ p t h q b c. record {
    count_is = longer t.points first p t.count h.count_is;
    limit = below-limit t.count c;
    distinct = ap are_distinct (append_assoc t.points (p ∷ []) first)
        ∙ distinct_insert t.points first p h.distinct b (no-mnemonic first p q.other h.mains);
    meant = All-push IsMeant t.points p h.meant q.meant;
    first_meant = h.first_meant;
    mains = h.mains;
  };
  passed = λ s t _ h. record {
    count_is = h.count_is;
    limit = h.limit;
    distinct = h.distinct;
    meant = h.meant;
    first_meant = h.first_meant;
    mains = h.mains;
  };
}

first-fits : (n : Nodes) → Fits n → Fits (with_first n)
first-fits n h = record {
  count_is = ap length (append-nil (n.taken.points ++ n.first)) ∙ h.count_is;
  limit = h.limit;
  distinct = ap are_distinct (append-nil (n.taken.points ++ n.first)) ∙ h.distinct;
  meant = All-append IsMeant n.taken.points n.first h.meant h.first_meant;
  first_meant = All-nil IsMeant;
  mains = refl;
}

pub kept-fits : (n m : Nodes) (found-of : Found Taken)
    → ((u : Taken) → found-of ≡ Ok u → Fits (at n.first u)) → kept_first n found-of ≡ Ok m → Fits m
kept-fits n m found-of h e = bind-ok found-of (λ t. Ok (at n.first t)) m e
    (λ u g r. subst Fits (ok-is (at n.first u) m r) (h u g))

role-fits : (isa : Isa) (families : Families) (label node : List ℕ) (d : Data) (r : Role)
    → Suits node r
    → (n m : Nodes) → Fits n → by_role isa families (at_node label node) d r n ≡ Ok m → Fits m
role-fits isa families label node d role.Main good n m h e =
    subst Fits (ok-is (with_first n) m e) (first-fits n h)
role-fits isa families label node d role.Config good n m h e = subst Fits (ok-is n m e) h
role-fits isa families label node d (role.Entries k) good n m h e =
    let place = at_node label node in
    kept-fits n m (all_entries isa families k place d n.taken)
    (λ u g. entries-kept (λ t. Fits (at n.first t)) isa families k place (λ key. entry-kept
    (λ t. Fits (at n.first t)) isa families k (fits-kept k n.first) (good.node_of k refl).other
    (at_key place key) (good.printable refl)) d n.taken u h g) e
role-fits isa families label node d role.PassedOver good n m h e =
    kept-fits n m (passed_over (at_node label node) d n.taken) (λ u g. passed-kept
    (λ t. Fits (at n.first t)) (IsOf kind.Mnemonic) (fits-kept kind.Mnemonic n.first)
    (at_node label node) (good.printable refl) d n.taken u h g) e
role-fits isa families label node d role.Unknown good n m h e = err-not _ m e

nodes-fit : (isa : Isa) (families : Families) (label : List ℕ) (es : Pairs) (n m : Nodes) → Fits n
    → for_each (node_step isa families label) es n ≡ Ok m → Fits m
nodes-fit isa families label = each-kept Fits (node_step isa families label)
    (λ node d n m h e. role-fits isa families label node d (role_of node) (role-suits node) n m h e)

-- ---- mnemonics
some-is : {A : Type 0} (x y : A) → Some x ≡ Some y → x ≡ y
some-is x y e = cc

find-by : {A : Type 0} (p : A → Bool) (x y : A) (o : Option A) (b : Bool) → p x ≡ b
    → cond b (Some x) o ≡ Some y → (o ≡ Some y → p y ≡ true) → p y ≡ true
find-by p x y o true e f g = ap p (sym (some-is x y f)) ∙ e
find-by p x y o false e f g = g f

find-passes : {A : Type 0} (p : A → Bool) (xs : List A) (y : A) → find p xs ≡ Some y → p y ≡ true
find-passes p [] y e = cc
find-passes p (x ∷ xs) y e = find-by p x y (find p xs) (p x) refl e (find-passes p xs y)

name-is : (key : List ℕ) (op : Op) → op_of_name key ≡ Some op → (row op).name ≡ key
unfolding op_of_name
name-is key op e =
    same-bytes (row op).name key (find-passes (λ o. bytes_eq (row o).name key) all_ops op e)

-- the mnemonics so far
pub record Mains (isa : Isa) (t : Taken) : Type 0 where
  pub count_is : length t.points ≡ t.count
  pub limit : t.count ≤ 2048
  pub distinct : are_distinct t.points ≡ true
  pub meant : All IsMeant t.points
  pub mains : list_all is_mnemonic t.points ≡ true
  pub own : ops_are_distinct (ops_of t.points) ≡ true
  pub all_admitted : list_all (is_admitted_op isa) (ops_of t.points) ≡ true
  pub each : length (ops_of t.points) ≡ length t.points

-- a point of a mnemonic of the core
pub record IsMain (isa : Isa) (p : Point) : Type 0 where
  pub meant : IsMeant p
  pub main : same_kind p.kind kind.Mnemonic ≡ true
  pub op : Op
  pub op_there : p.meaning ≡ op_is op
  pub named : op_of_name p.key ≡ Some op
  pub admitted_op : is_admitted_op isa op ≡ true

pub ops-append : (ps qs : List Point) → ops_of (ps ++ qs) ≡ ops_of ps ++ ops_of qs
ops-append [] qs = refl
ops-append (p ∷ ps) qs = ap (λ xs. op_in p.meaning ++ xs) (ops-append ps qs)
    ∙ sym (append_assoc (op_in p.meaning) (ops_of ps) (ops_of qs))

main-kind : (k : Kind) (key : List ℕ) (m : Meaning) → same_kind k kind.Mnemonic ≡ true
    → says k key ≡ means m → of_op (op_of_name key) ≡ means m
main-kind k key m h e = ap (λ j. says j key) (sym (kind-is k kind.Mnemonic h)) ∙ e

-- two points with one mnemonic have one key
other-op : (op other : Op) (key key' : List ℕ) → op_of_name key ≡ Some op
    → op_of_name key' ≡ Some other → (b : Bool) → is_same op other ≡ b → bytes_eq key' key ≡ false
    → b ≡ false
other-op op other key key' e f true s differs =
    let one : op ≡ other = same_number op other (eqb-true (number op) (number other) s) in
    let same : key' ≡ key =
    sym (name-is key' other f) ∙ ap (λ o. (row o).name) (sym one) ∙ name-is key op e in
    let yes : bytes_eq key' key ≡ true = (bytes_eq-Decides key' key).1 same in
    cc
other-op op other key key' e f false s differs = refl

not-both : (x y : Bool) → x ≡ true → (x && y) ≡ false → y ≡ false
not-both true y e h = h
not-both false y e h = cc

op-not-there : (ps : List Point) (op : Op) (key : List ℕ) → op_of_name key ≡ Some op
    → All IsMeant ps → list_all is_mnemonic ps ≡ true → has kind.Mnemonic key ps ≡ false
    → list_any (is_same op) (ops_of ps) ≡ false
op-not-there [] op key e meant mains h = refl
op-not-there (q ∷ qs) op key e meant mains h =
    let main = and-left (is_mnemonic q) (list_all is_mnemonic qs) mains in
    let rest = op-not-there qs op key e (All-tail IsMeant q qs meant)
    (and-right (is_mnemonic q) (list_all is_mnemonic qs) mains)
    (or-right (is_point kind.Mnemonic key q) (has kind.Mnemonic key qs) h) in
    let differs = not-both (same_kind q.kind kind.Mnemonic) (bytes_eq q.key key) main
    (or-left (is_point kind.Mnemonic key q) (has kind.Mnemonic key qs) h) in
    by-op (op_of_name q.key) q.meaning
    (main-kind q.kind q.key q.meaning main (All-head IsMeant q qs meant).said)
    (λ other f m. ap (λ x. list_any (is_same op) (op_in x ++ ops_of qs)) m
    ∙ or_from (is_same op other) (list_any (is_same op) (ops_of qs))
    (other-op op other key q.key e f (is_same op other) refl differs) rest)

ops-insert : (ops : List Op) (op : Op) → ops_are_distinct ops ≡ true
    → list_any (is_same op) ops ≡ false → ops_are_distinct (ops ++ op ∷ []) ≡ true
ops-insert [] op d h = refl
ops-insert (o ∷ ops) op d h =
    let own = and-left (not (list_any (is_same o) ops)) (ops_are_distinct ops) d in
    and_from (not (list_any (is_same o) (ops ++ op ∷ []))) (ops_are_distinct (ops ++ op ∷ []))
    (ap not (list_any-append (is_same o) ops (op ∷ [])
    ∙ or_from (list_any (is_same o) ops) (is_same o op || false) (no (list_any (is_same o) ops)
    own) (or_from (is_same o op) false
    (turned o op (or-left (is_same op o) (list_any (is_same op) ops) h)) refl)))
    (ops-insert ops op (and-right (not (list_any (is_same o) ops)) (ops_are_distinct ops) d)
    (or-right (is_same op o) (list_any (is_same op) ops) h))
  where
    turned : (a b : Op) → is_same b a ≡ false → is_same a b ≡ false
    turned a b e = turn (number a) (number b) e
      where
        turn : (n m : ℕ) → (m == n) ≡ false → (n == m) ≡ false
        turn n m e = grind (arith, nat_tests)

one-op : (isa : Isa) (t : Taken) (p : Point) (m : IsMain isa p)
    → ops_of (t.points ++ p ∷ []) ≡ ops_of t.points ++ m.op ∷ []
one-op isa t p m =
    ops-append t.points (p ∷ []) ∙ ap (λ x. ops_of t.points ++ (op_in x ++ [])) m.op_there

mains-kept : (isa : Isa) → Kept (Mains isa) (IsMain isa)
mains-kept isa = record {
  one = λ p t h q b c.
      let is = one-op isa t p q in
      let k : has kind.Mnemonic p.key t.points ≡ false =
      ap (λ k. has k p.key t.points) (sym (kind-is p.kind kind.Mnemonic q.main)) ∙ b in
      record {
        count_is = omega (arith, h.count_is, length-append t.points (p ∷ []));
        limit = below-limit t.count c;
        distinct = distinct_insert t.points [] p
            (ap are_distinct (append-nil t.points) ∙ h.distinct) b refl;
        meant = All-push IsMeant t.points p h.meant q.meant;
        mains = list_all-append is_mnemonic t.points (p ∷ []) ∙ and_from
            (list_all is_mnemonic t.points) (is_mnemonic p && true) h.mains
            (and_from (is_mnemonic p) true q.main refl);
        own = ap ops_are_distinct is ∙ ops-insert (ops_of t.points) q.op h.own
            (op-not-there t.points q.op p.key q.named h.meant h.mains k);
        all_admitted = ap (list_all (is_admitted_op isa)) is ∙ list_all-append (is_admitted_op isa)
            (ops_of t.points) (q.op ∷ []) ∙ and_from
            (list_all (is_admitted_op isa) (ops_of t.points))
            (is_admitted_op isa q.op && true) h.all_admitted
            (and_from (is_admitted_op isa q.op) true q.admitted_op refl);
        each = ap length is ∙ omega (
          arith,
          h.each,
          length-append (ops_of t.points) (q.op ∷ []),
          length-append t.points (p ∷ []),
        );
      };
  passed = λ s t _ h. record {
    count_is = h.count_is;
    limit = h.limit;
    distinct = h.distinct;
    meant = h.meant;
    mains = h.mains;
    own = h.own;
    all_admitted = h.all_admitted;
    each = h.each;
  };
}

main-point : (isa : Isa) (key : List ℕ) → Gives isa kind.Mnemonic key (IsMain isa)
main-point isa key m p is a = by-op (op_of_name key) m is (λ op f s. record {
  meant = record { printable = p; said = is };
  main = refl;
  op = op;
  op_there = s;
  named = f;
  admitted_op = ap (admits isa) (sym s) ∙ a;
})

pub mnemonic-kept : (isa : Isa) (families : Families) (place : EntryNames)
    → is_printable place.node ≡ true
    → (d : Data) (t u : Taken) → Mains isa t → entry_of isa families kind.Mnemonic place d t ≡ Ok u
    → Mains isa u
mnemonic-kept isa families place n = point-kept (Mains isa) (IsMain isa) isa place kind.Mnemonic
    (mains-kept isa) (main-point isa place.key) n

pub nothing-main : (isa : Isa) → Mains isa nothing_taken
nothing-main isa = record {
  count_is = refl;
  limit = omega arith;
  distinct = refl;
  meant = All-nil IsMeant;
  mains = refl;
  own = refl;
  all_admitted = refl;
  each = refl;
}

starting-fits : (isa : Isa) (t : Taken) → Mains isa t → Fits (starting t)
starting-fits isa t h = record {
  count_is = h.count_is;
  limit = h.limit;
  distinct = h.distinct;
  meant = All-nil IsMeant;
  first_meant = h.meant;
  mains = h.mains;
}

few-points : (ps qs : List Point) (n : ℕ) → length (ps ++ qs) ≡ n → n ≤ 2048 → length ps ≤ 2048
few-points ps qs n e h = omega (arith, e, length-append ps qs)

pub front-distinct : (ps qs : List Point) → are_distinct (ps ++ qs) ≡ true → are_distinct ps ≡ true
front-distinct [] qs e = refl
front-distinct (p ∷ ps) qs e =
    let front = and-left (not (has p.kind p.key (ps ++ qs))) (are_distinct (ps ++ qs)) e in
    and_from (not (has p.kind p.key ps)) (are_distinct ps)
    (ap not (or-left (has p.kind p.key ps) (has p.kind p.key qs)
    (sym (has-append p.kind p.key ps qs) ∙ no (has p.kind p.key (ps ++ qs)) front)))
    (front-distinct ps qs
    (and-right (not (has p.kind p.key (ps ++ qs))) (are_distinct (ps ++ qs)) e))

some-there : (n m k : ℕ) → not (n == 0) ≡ true → k ≡ m → m ≡ n → 0 < k
some-there n m k e f g = above n k (f ∙ g) e
  where
    above : (n k : ℕ) → k ≡ n → not (n == 0) ≡ true → 0 < k
    above n k h e = grind (arith, nat_tests)

pub first-mains : (isa : Isa) (families : Families) (name : List ℕ) (d : Data) (m : List ℕ × Data)
    (first : Taken)
    → main_of name d ≡ Ok m → first_points isa families (at_node name m.0) m.1 ≡ Ok first
    → Mains isa first × (not (first.count == 0) ≡ true)
first-mains isa families name d m first a b =
    let place = at_node name m.0 in
    bind-ok (all_entries isa families kind.Mnemonic place m.1 nothing_taken)
    (λ t. some_points place t)
    first b
    (λ t c g. holds-then (not (t.count == 0)) place fault.BadShape (Ok t) first g
    (λ some same. (
      subst (Mains isa) (ok-is t first same)
          (entries-kept (Mains isa) isa families kind.Mnemonic place
          (λ key. mnemonic-kept isa families (at_key place key) (main-printable name d m a)) m.1
          nothing_taken t (nothing-main isa) c),
      ap (λ (x : Taken). not (x.count == 0)) (sym (ok-is t first same)) ∙ some,
    )))

pub label-valid : (isa : Isa) (families : Families) (name : List ℕ) (d : Data) (l : Label)
    → is_label_name name ≡ true
    → selected_label isa families name d ≡ Ok l → IsValid isa l
label-valid isa families name d l named e =
    bind-ok (main_of name d) (λ m. first_points isa families (at_node name m.0) m.1
    >>= (λ first. nodes isa families name d first)) l e
    (λ m a r. bind-ok (first_points isa families (at_node name m.0) m.1)
    (λ first. nodes isa families name d first) l r
    (λ first b s.
    let p = first-mains isa families name d m first a b in
    let mains = p.0 in
    bind-ok (for_each (node_step isa families name) (own_pairs d) (starting first))
    (λ n. Ok (finished name (ops_of first.points) n)) l s
    (λ n f k.
    let fits =
    nodes-fit isa families name (own_pairs d) (starting first) n (starting-fits isa first mains) f
    in
    subst (IsValid isa) (ok-is (finished name (ops_of first.points) n) l k) (record {
      named = named;
      some_op = some-there first.count (length first.points) (length (ops_of first.points)) p.1
          mains.each mains.count_is;
      own_ops = mains.own;
      admitted = mains.all_admitted;
      few = few-points n.taken.points n.first n.taken.count fits.count_is fits.limit;
      distinct = front-distinct n.taken.points n.first fits.distinct;
      meant = fits.meant;
    }))))

-- ---- labels
chosen-good : (isa : Isa) (families : Families) (name : List ℕ) (d : Data) (b : Bool) (l : Label)
    → is_label_name name ≡ true → chosen isa families name d b ≡ Ok l → IsValidIfSelected isa l
chosen-good isa families name d true l named e = λ s. label-valid isa families name d l named e
chosen-good isa families name d false l named e =
    subst (IsValidIfSelected isa) (ok-is (unselected name) l e) (λ s. cc)

label-good : (isa : Isa) (families : Families) (name : List ℕ) (d : Data) (l : Label)
    → label_of isa families name d ≡ Ok l
    → IsValidIfSelected isa l
label-good isa families name d l e =
    if-ok (is_label_name name)
    (if is_map d then map_label isa families name d else refused (at_label name) fault.BadShape)
    (refused (at_label name) fault.BadLabelName) l e
    (λ named g. if-ok (is_map d) (map_label isa families name d)
    (refused (at_label name) fault.BadShape) l g
    (λ m r. bind-ok (selects name (config_holds isa (value_at (codes "config") d)))
    (λ b. chosen isa families name d b) l r (λ b a s. chosen-good isa families name d b l named s))
    (λ m r. err-not _ l r))
    (λ n g. err-not _ l g)

abbrev pub Goods : Isa → Listed → Type 0
Goods isa listed = All (IsValidIfSelected isa) listed.labels

step-good : (isa : Isa) (families : Families) (name : List ℕ) (d : Data) (l m : Listed)
    → Goods isa l
    → label_step isa families name d l ≡ Ok m → Goods isa m
step-good isa families name d l m h e =
    if-ok (bytes_eq name (codes "datasets")) (Ok l)
    (holds (nat_lt (length l.labels) 256) (at_label name)
    fault.TooManyLabels >> (label_of isa families name d >>= (λ x. with_label name x l))) m e
    (λ b g. subst (Goods isa) (ok-is l m g) h)
    (λ b g. holds-then (nat_lt (length l.labels) 256) (at_label name) fault.TooManyLabels
    (label_of isa families name d >>= (λ x. with_label name x l)) m g
    (λ few r. bind-ok (label_of isa families name d) (λ x. with_label name x l) m r
    (λ x a s. holds-then (nat_le (l.total + size_of x) 65536) (at_label name) fault.TooManyPoints
    (Ok (record {
      labels = l.labels ++ x ∷ [];
      total = l.total + size_of x;
    })) m s
    (λ c k. subst (Goods isa) (ok-is (record {
      labels = l.labels ++ x ∷ [];
      total = l.total + size_of x;
    }) m k) (All-push (IsValidIfSelected isa) l.labels x h (label-good isa families name d x a))))))

pub groups_good : (isa : Isa) (families : Families) (d : Data) (ls : List Label)
    → groups_of isa families d ≡ Ok ls
    → All (IsValidIfSelected isa) ls
unfolding groups_of
groups_good isa families d ls e =
    bind-ok (entries (at_label []) d)
    (λ es. for_each (label_step isa families) es nothing_listed >>= (λ listed. Ok listed.labels)) ls
    e
    (λ es _ r. bind-ok (for_each (label_step isa families) es nothing_listed)
    (λ listed. Ok listed.labels) ls r
    (λ listed a s. subst (λ (xs : List Label). All (IsValidIfSelected isa) xs)
    (ok-is listed.labels ls s)
    (each-kept (Goods isa) (label_step isa families) (step-good isa families) es nothing_listed
    listed
    (All-nil (IsValidIfSelected isa)) a)))

All-map : {A B : Type 0} (P : B → Type 0) (f : A → B) (xs : List A) → All P (map f xs)
    → All (λ x. P (f x)) xs
All-map P f [] h = All-nil (λ x. P (f x))
All-map P f (x ∷ xs) h = All-cons (λ x. P (f x)) x xs (All-head P (f x) (map f xs) h)
    (All-map P f xs (All-tail P (f x) (map f xs) h))

pub read_valid : (isa : Isa) (families : Families) (d : Data)
    (r : Result (List Read) (Fault CgfRefusal))
    → AnswersWith (map label_view) r (groups_of isa families d)
    → IfOk r (All (λ l. IsValidIfSelected isa (label_view l)))
read_valid isa families d (Ok ls) e =
    All-map (IsValidIfSelected isa) label_view ls (groups_good isa families d (map label_view ls) e)
read_valid isa families d (Err r) e = tt
