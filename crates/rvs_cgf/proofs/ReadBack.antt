-- A tree that spells plain groups gives them again.
use Rattle.std.proofs.Common.{◌≡◌, ℕ, suc, ◌+◌, ◌<◌, ◌≤◌, true, false, not, List, [], ◌∷◌, ◌++◌}
use Rattle.std.proofs.Common.{length, map, Some, None, Ok, refl, sym, ap, subst, ◌∙◌, arith}
use Rattle.std.proofs.Common.{append_assoc, append-nil, length-append, bytes_eq, codes}
use Rattle.std.specs.Prelude.{nat_le, nat_lt, ◌==◌, if◌then◌else◌, sum_by}
use Rattle.std.specs.List.{list_all}
use Rattle.std.proofs.lemmas.Bool.Decides.{nat_tests}
use Rattle.std.proofs.lemmas.List.Sums.{sum_by-cons}
use Rattle.rvs_cross.proofs.Members.{by_test}
use Rattle.rvs_insn.specs.Isa.{Isa}
use Rattle.rvs_insn.specs.Names.{is_admitted_op}
use Rattle.rvs_tree.specs.Data.{Data, Pairs, own_pairs, is_map, value_at, value_among}
use Rattle.rvs_abstract.specs.declared.families.Families.{Families}
use Rattle.rvs_points.specs.Keys.{is_label_name}
use Rattle.rvs_cgf.specs.Groups.{Point, Label, at_label, at_node, Found, refused, ◌>>=◌, ◌>>◌}
use Rattle.rvs_cgf.specs.Groups.{holds, Taken, same_kind, is_empty_scalar, entries, all_entries}
use Rattle.rvs_cgf.specs.Groups.{role_of, Nodes, with_first}
use Rattle.rvs_cgf.specs.Groups.{kept_first, by_role, node_step, config_holds, selects, for_each}
use Rattle.rvs_cgf.specs.Groups.{main_node, main_of, some_points, nothing_taken, ops_of, finished}
use Rattle.rvs_cgf.specs.Groups.{starting, nodes, first_points, chosen, map_label, label_of}
use Rattle.rvs_cgf.specs.Groups.{size_of, Listed, with_label, label_step}
use Rattle.rvs_cgf.specs.Groups.{nothing_listed, groups_of}
use Rattle.rvs_points.specs.Kinds.{kind_name}
use Rattle.rvs_points.specs.Valid.{are_distinct}
use Rattle.rvs_cgf.specs.Spelled.{Block, blocks, SpellsKeys, SpellsNodes, SpellsLabels, SpellsAll}
use Rattle.rvs_cgf.specs.Spelled.{Spells, selected, kinds_are_apart, IsPlain, ArePlain}
use Rattle.rvs_cgf.specs.Spelled.{CanBeSpelled, bare, are_admitted}
use Rattle.rvs_cgf.specs.declared.groups.Role.TheVariants as role
use Rattle.rvs_points.specs.declared.group.Kind.{Kind}
use Rattle.rvs_points.specs.declared.group.Kind.TheVariants as kind
use Rattle.rvs_points.specs.declared.refusal.CgfKind.TheVariants as fault
use Rattle.rvs_points.proofs.Distinct.{and-left, and-right, if-yes, if-no}
use Rattle.rvs_cgf.proofs.Validity.{front-distinct}
use Rattle.rvs_cgf.proofs.PointsRead.{holds-yes, bind-yes, entries-yes, ReadsAll, taken-at}
use Rattle.rvs_cgf.proofs.PointsRead.{block-read, entries-read}
use Rattle.rvs_cgf.proofs.BlocksRead.{points_in, AllRead}
use Rattle.rvs_cgf.proofs.BlocksRead.{blocks-points, blocks-meant, blocks-read, main_in, under-yes}
use Rattle.rvs_cgf.proofs.BlocksRead.{under-no, under-none, under-short, reads-under}
use Rattle.rvs_cgf.proofs.BlocksRead.{under-distinct, others-apart, rest-apart, ops_under}

-- ---- nodes
role-main : (k : Kind) → same_kind k kind.Mnemonic ≡ true → role_of (kind_name k) ≡ role.Main
role-main kind.Mnemonic e = refl
role-main kind.Rs1 e = cc
role-main kind.Rs2 e = cc
role-main kind.Rd e = cc
role-main kind.OpComb e = cc
role-main kind.ValComb e = cc
role-main kind.CrossComb e = cc

role-other : (k : Kind) → same_kind k kind.Mnemonic ≡ false
    → role_of (kind_name k) ≡ role.Entries k
role-other kind.Mnemonic e = cc
role-other kind.Rs1 e = refl
role-other kind.Rs2 e = refl
role-other kind.Rd e = refl
role-other kind.OpComb e = refl
role-other kind.ValComb e = refl
role-other kind.CrossComb e = refl

abbrev nodes-at : Taken → List Point → Nodes
nodes-at t first = record { taken = t; first = first }

abbrev ok-nodes : Nodes → Found Nodes
ok-nodes n = Ok n

-- the nodes are read to all points, with some number of them known
record End (isa : Isa) (families : Families) (label : List ℕ) (es : Pairs) (n : Nodes)
    (all : List Point) : Type 0 where
  pub count : ℕ
  pub read_is : for_each (node_step isa families label) es n
      ≡ Ok (nodes-at (taken-at count all n.taken.skipped) [])

step-main : (isa : Isa) (families : Families) (label : List ℕ) (b : Block) (key : List ℕ) (d : Data)
    (n : Nodes)
    → key ≡ kind_name b.kind → same_kind b.kind kind.Mnemonic ≡ true
    → node_step isa families label key d n ≡ Ok (with_first n)
step-main isa families label b key d n k e = ap (λ x. node_step isa families label x d n) k
    ∙ ap (λ r. by_role isa families (at_node label (kind_name b.kind)) d r n) (role-main b.kind e)

step-other : (isa : Isa) (families : Families) (label : List ℕ) (b : Block) (key : List ℕ)
    (d : Data) (n : Nodes)
    → key ≡ kind_name b.kind → same_kind b.kind kind.Mnemonic ≡ false → is_map d ≡ true
    → SpellsKeys b.points (own_pairs d) → ReadsAll isa b.kind b.points
    → are_distinct (n.taken.points ++ b.points) ≡ true → n.taken.count + length b.points ≤ 2048
    → node_step isa families label key d n ≡ Ok (nodes-at
    (taken-at (n.taken.count + length b.points) (n.taken.points ++ b.points) n.taken.skipped)
    n.first)
step-other isa families label b key d n k e m sp rd dis few =
    let place = at_node label (kind_name b.kind) in
    ap (λ x. node_step isa families label x d n) k
    ∙ ap (λ r. by_role isa families place d r n) (role-other b.kind e)
    ∙ ap (kept_first n) (entries-read isa families b.kind place d n.taken
    (taken-at (n.taken.count + length b.points) (n.taken.points ++ b.points) n.taken.skipped) m
    (block-read isa families b.kind place b.points (own_pairs d) sp rd n.taken dis few))

nodes-read : (isa : Isa) (families : Families) (label : List ℕ) (bs : List Block) (es : Pairs)
    → SpellsNodes bs es
    → AllRead isa bs → kinds_are_apart bs ≡ true → (n : Nodes) → n.first ≡ main_in bs
    → (all : List Point) → n.taken.points ++ points_in bs ≡ all → are_distinct all ≡ true
    → n.taken.count + length (points_in bs) ≤ 2048 + length n.first
    → End isa families label es n all
nodes-read isa families label [] [] sp rd ap' n f all is d few = record {
  count = n.taken.count;
  read_is = ap (λ xs. ok-nodes (nodes-at n.taken xs)) f ∙ ap
      (λ xs. ok-nodes (nodes-at (taken-at n.taken.count xs n.taken.skipped) []))
      (sym (append-nil n.taken.points) ∙ is);
}
nodes-read isa families label [] (e ∷ es) sp rd ap' n f all is d few = absurd sp
nodes-read isa families label (b ∷ bs) [] sp rd ap' n f all is d few = absurd sp
nodes-read isa families label (b ∷ bs) (e ∷ es) sp rd apart n f all is d few =
    let long = length-append b.points (points_in bs) in
    by_test (same_kind b.kind kind.Mnemonic)
    (λ main.
    let own : n.first ≡ b.points = f ∙ under-yes b bs main in
    let rest = nodes-read isa families label bs es sp.3 rd.1 (rest-apart b bs apart) (with_first n)
    (sym (under-none bs (others-apart b bs main apart))) all
    (ap (λ xs. (n.taken.points ++ xs) ++ points_in bs) own
    ∙ append_assoc n.taken.points b.points (points_in bs) ∙ is) d
    (omega (arith, ap length own, long, few)) in
    record {
      count = rest.count;
      read_is = bind-yes (node_step isa families label e.0 e.1 n)
          (λ m. for_each (node_step isa families label) es m)
          (with_first n) (step-main isa families label b e.0 e.1 n sp.0 main) ∙ rest.read_is;
    })
    (λ other.
    let own : n.first ≡ main_in bs = f ∙ under-no b bs other in
    let next = nodes-at
    (taken-at (n.taken.count + length b.points) (n.taken.points ++ b.points) n.taken.skipped)
    n.first in
    let here : n.taken.count + length b.points ≤ 2048 =
    omega (arith, ap length own, long, few, under-short bs) in
    let rest = nodes-read isa families label bs es sp.3 rd.1 (rest-apart b bs apart) next own all
    (append_assoc n.taken.points b.points (points_in bs) ∙ is) d (omega (arith, long, few)) in
    record {
      count = rest.count;
      read_is =
          bind-yes (node_step isa families label e.0 e.1 n)
          (λ m. for_each (node_step isa families label) es m) next
          (step-other isa families label b e.0 e.1 n sp.0 other sp.1 sp.2 rd.0
          (front-distinct (n.taken.points ++ b.points) (points_in bs)
          (ap are_distinct (append_assoc n.taken.points b.points (points_in bs) ∙ is) ∙ d))
          here)
          ∙ rest.read_is;
    })

-- ---- a label
none-at : (bs : List Block) (es : Pairs) → SpellsNodes bs es → (key : List ℕ)
    → ((k : Kind) → bytes_eq (kind_name k) key ≡ false) → value_among key es ≡ None
none-at [] [] sp key absent = refl
none-at [] (e ∷ es) sp key absent = absurd sp
none-at (b ∷ bs) [] sp key absent = absurd sp
none-at (b ∷ bs) (e ∷ es) sp key absent =
    if-no (bytes_eq e.0 key) (Some e.1) (value_among key es)
    (ap (λ k. bytes_eq k key) sp.0 ∙ absent b.kind)
    ∙ none-at bs es sp.3 key absent

no-config : (k : Kind) → bytes_eq (kind_name k) (codes "config") ≡ false
no-config kind.Mnemonic = refl
no-config kind.Rs1 = refl
no-config kind.Rs2 = refl
no-config kind.Rd = refl
no-config kind.OpComb = refl
no-config kind.ValComb = refl
no-config kind.CrossComb = refl

no-opcode : (k : Kind) → bytes_eq (kind_name k) (codes "opcode") ≡ false
no-opcode kind.Mnemonic = refl
no-opcode kind.Rs1 = refl
no-opcode kind.Rs2 = refl
no-opcode kind.Rd = refl
no-opcode kind.OpComb = refl
no-opcode kind.ValComb = refl
no-opcode kind.CrossComb = refl

main-name : (k : Kind) → bytes_eq (kind_name k) (codes "mnemonics") ≡ same_kind k kind.Mnemonic
main-name kind.Mnemonic = refl
main-name kind.Rs1 = refl
main-name kind.Rs2 = refl
main-name kind.Rd = refl
main-name kind.OpComb = refl
main-name kind.ValComb = refl
main-name kind.CrossComb = refl

-- the node of the mnemonics
record MainAt (bs : List Block) (es : Pairs) : Type 0 where
  pub node : Data
  pub there : value_among (codes "mnemonics") es ≡ Some node
  pub is_node : is_map node ≡ true
  pub spelled : SpellsKeys (main_in bs) (own_pairs node)

main-at : (bs : List Block) (es : Pairs) → SpellsNodes bs es → 0 < length (main_in bs)
    → MainAt bs es
main-at [] [] sp some = absurd (omega arith)
main-at [] (e ∷ es) sp some = absurd sp
main-at (b ∷ bs) [] sp some = absurd sp
main-at (b ∷ bs) (e ∷ es) sp some =
    by_test (same_kind b.kind kind.Mnemonic)
    (λ main. record {
      node = e.1;
      there = if-yes (bytes_eq e.0 (codes "mnemonics")) (Some e.1)
          (value_among (codes "mnemonics") es)
          (ap (λ k. bytes_eq k (codes "mnemonics")) sp.0 ∙ main-name b.kind ∙ main);
      is_node = sp.1;
      spelled = subst (λ (ps : List Point). SpellsKeys ps (own_pairs e.1))
          (sym (under-yes b bs main)) sp.2;
    })
    (λ other.
    let rest = main-at bs es sp.3 (omega (arith, some, ap length (under-no b bs other))) in
    record {
      node = rest.node;
      there = if-no (bytes_eq e.0 (codes "mnemonics")) (Some e.1)
          (value_among (codes "mnemonics") es)
          (ap (λ k. bytes_eq k (codes "mnemonics")) sp.0 ∙ main-name b.kind ∙ other) ∙ rest.there;
      is_node = rest.is_node;
      spelled = subst (λ (ps : List Point). SpellsKeys ps (own_pairs rest.node))
          (sym (under-no b bs other)) rest.spelled;
    })

counted : (n : ℕ) → 0 < n → not (0 + n == 0) ≡ true
counted n h = grind (arith, nat_tests)

some-main : (ps : List Point) → 0 < length (ops_of ps) → 0 < length ps
some-main [] h = h
some-main (p ∷ ps) h = omega arith

abbrev ok-label : Label → Found Label
ok-label l = Ok l

label-read : (isa : Isa) (families : Families) (l : Label) (d : Data) → IsPlain isa l
    → is_map d ≡ true
    → SpellsNodes (blocks l.points) (own_pairs d) → label_of isa families l.name d ≡ Ok (bare l)
label-read isa families l d p m sp =
    let bs = blocks l.points in
    let first = main_in bs in
    let whole : points_in bs ≡ l.points = blocks-points l.points in
    let ops : ops_of first ≡ l.ops = ops_under bs (blocks-meant l.points p.valid.meant) p.apart
    ∙ ap ops_of whole ∙ sym p.ops_are in
    let some : 0 < length first = some-main first (omega (arith, p.valid.some_op, ap length ops)) in
    let main = main-at bs (own_pairs d) sp some in
    let reads = blocks-read isa l.points p.valid.meant
    (ap (list_all (is_admitted_op isa)) (sym p.ops_are) ∙ p.valid.admitted) in
    let distinct : are_distinct (points_in bs) ≡ true = ap are_distinct whole ∙ p.valid.distinct in
    let few : length (points_in bs) ≤ 2048 = omega (arith, ap length whole, p.valid.few) in
    let taken = taken-at (0 + length first) first [] in
    let place = at_node l.name (codes "mnemonics") in
    let firsts : first_points isa families place main.node ≡ Ok taken =
    bind-yes (all_entries isa families kind.Mnemonic place main.node nothing_taken)
    (λ t. some_points place t) taken
    (entries-read isa families kind.Mnemonic place main.node nothing_taken taken main.is_node
    (block-read isa families kind.Mnemonic place first (own_pairs main.node) main.spelled
    (reads-under isa bs reads) nothing_taken (under-distinct bs distinct)
    (omega (arith, few, under-short bs))))
    ∙ holds-yes (not (0 + length first == 0)) place fault.BadShape (Ok taken)
    (counted (length first) some) in
    let end = nodes-read isa families l.name bs (own_pairs d) sp reads p.apart (starting taken) refl
    l.points
    whole p.valid.distinct (omega (arith, few)) in
    if-yes (is_label_name l.name)
    (if is_map d then map_label isa families l.name d else refused (at_label l.name) fault.BadShape)
    (refused (at_label l.name) fault.BadLabelName) p.valid.named
    ∙ if-yes (is_map d) (map_label isa families l.name d) (refused (at_label l.name) fault.BadShape)
    m
    ∙ ap (λ o. selects l.name (config_holds isa o) >>= (λ b. chosen isa families l.name d b))
    (none-at bs (own_pairs d) sp (codes "config") no-config)
    ∙ bind-yes (main_of l.name d)
    (λ x. first_points isa families (at_node l.name x.0) x.1
    >>= (λ t. nodes isa families l.name d t))
    (codes "mnemonics", main.node)
    (ap (λ o. main_node l.name o (value_at (codes "opcode") d)) main.there ∙ ap
    (main_node l.name (Some main.node))
    (none-at bs (own_pairs d) sp (codes "opcode") no-opcode))
    ∙ bind-yes (first_points isa families place main.node) (λ t. nodes isa families l.name d t)
    taken firsts
    ∙ bind-yes (for_each (node_step isa families l.name) (own_pairs d) (starting taken))
    (λ n. Ok (finished l.name (ops_of first) n)) (nodes-at (taken-at end.count l.points []) [])
    end.read_is
    ∙ ap (λ os. ok-label (record {
      name = l.name;
      selected = true;
      ops = os;
      points = l.points;
      skipped = [];
    })) ops

-- ---- labels
abbrev listed-at : List Label → ℕ → Listed
listed-at ls n = record { labels = ls; total = n }

abbrev ok-listed : Listed → Found Listed
ok-listed l = Ok l

below : (n m k : ℕ) → n + suc m ≤ k → nat_lt n k ≡ true
below n m k h = grind (arith, nat_tests)

at-most : (n m k : ℕ) → n + m ≤ k → nat_le n k ≡ true
at-most n m k h = grind (arith, nat_tests)

labels-read : (isa : Isa) (families : Families) (ls : List Label) (es : Pairs) → ArePlain isa ls
    → SpellsLabels ls es
    → (out : List Label) (n : ℕ) → length out + length ls ≤ 256 → n + sum_by size_of ls ≤ 65536
    → for_each (label_step isa families) es (listed-at out n)
    ≡ Ok (listed-at (out ++ map bare ls) (n + sum_by size_of ls))
labels-read isa families [] [] pl sp out n few small =
    ap (λ xs. ok-listed (listed-at xs n)) (sym (append-nil out))
    ∙ ap (λ k. ok-listed (listed-at (out ++ []) k)) (omega arith)
labels-read isa families [] (e ∷ es) pl sp out n few small = absurd sp
labels-read isa families (l ∷ ls) [] pl sp out n few small = absurd sp
labels-read isa families (l ∷ ls) (e ∷ es) pl sp out n few small =
    let p = pl.0 in
    let added : sum_by size_of (l ∷ ls) ≡ size_of l + sum_by size_of ls =
    sum_by-cons size_of l ls in
    let here : label_step isa families l.name e.1 (listed-at out n)
    ≡ Ok (listed-at (out ++ bare l ∷ []) (n + size_of l)) =
    if-no (bytes_eq l.name (codes "datasets")) (Ok (listed-at out n)) (holds
    (nat_lt (length out) 256) (at_label l.name) fault.TooManyLabels
    >> (label_of isa families l.name e.1
    >>= (λ x. with_label l.name x (listed-at out n)))) p.own_name
    ∙ holds-yes (nat_lt (length out) 256) (at_label l.name) fault.TooManyLabels
    (label_of isa families l.name e.1 >>= (λ x. with_label l.name x (listed-at out n)))
    (below (length out) (length ls) 256 few)
    ∙ bind-yes (label_of isa families l.name e.1) (λ x. with_label l.name x (listed-at out n))
    (bare l)
    (label-read isa families l e.1 p sp.1 sp.2)
    ∙ holds-yes (nat_le (n + size_of l) 65536) (at_label l.name) fault.TooManyPoints
    (Ok (listed-at (out ++ bare l ∷ []) (n + size_of l)))
    (at-most (n + size_of l) (sum_by size_of ls) 65536 (omega (arith, small, added))) in
    bind-yes (label_step isa families e.0 e.1 (listed-at out n))
    (λ next. for_each (label_step isa families) es next)
    (listed-at (out ++ bare l ∷ []) (n + size_of l))
    (ap (λ k. label_step isa families k e.1 (listed-at out n)) sp.0 ∙ here)
    ∙ labels-read isa families ls es pl.1 sp.3 (out ++ bare l ∷ []) (n + size_of l)
    (omega (arith, few, length-append out (bare l ∷ []))) (omega (arith, small, added))
    ∙ ap (λ xs. ok-listed (listed-at xs ((n + size_of l) + sum_by size_of ls)))
    (append_assoc out (bare l ∷ []) (map bare ls))
    ∙ ap (λ k. ok-listed (listed-at (out ++ bare l ∷ map bare ls) k)) (omega (arith, added))

spelled-by : (isa : Isa) (families : Families) (ls : List Label) (d : Data) → ArePlain isa ls
    → length ls ≤ 256
    → sum_by size_of ls ≤ 65536 → SpellsAll ls d → groups_of isa families d ≡ Ok (map bare ls)
unfolding groups_of
spelled-by isa families [] d pl few small sp = bind-yes (entries (at_label []) d)
    (λ es. for_each (label_step isa families) es nothing_listed >>= (λ listed. Ok listed.labels)) []
    (if-yes (is_empty_scalar d) (Ok []) _ sp)
spelled-by isa families (l ∷ ls) d pl few small sp =
    bind-yes (entries (at_label []) d)
    (λ es. for_each (label_step isa families) es nothing_listed >>= (λ listed. Ok listed.labels))
    (own_pairs d)
    (entries-yes (at_label []) d sp.1)
    ∙ bind-yes (for_each (label_step isa families) (own_pairs d) nothing_listed)
    (λ listed. Ok listed.labels)
    (listed-at (map bare (l ∷ ls)) (0 + sum_by size_of (l ∷ ls)))
    (labels-read isa families (l ∷ ls) (own_pairs d) pl sp.2 [] 0 (omega (arith, few))
    (omega (arith, small)))

-- a label is plain for every core that admits its mnemonics
plain-for : (isa other : Isa) (l : Label) → IsPlain isa l
    → list_all (is_admitted_op other) l.ops ≡ true → IsPlain other l
plain-for isa other l p a = record {
  valid = record {
    named = p.valid.named;
    some_op = p.valid.some_op;
    own_ops = p.valid.own_ops;
    admitted = a;
    few = p.valid.few;
    distinct = p.valid.distinct;
    meant = p.valid.meant;
  };
  apart = p.apart;
  ops_are = p.ops_are;
  own_name = p.own_name;
}

all-plain-for : (isa other : Isa) (ls : List Label) → ArePlain isa ls
    → list_all (λ l. list_all (is_admitted_op other) l.ops) ls ≡ true → ArePlain other ls
all-plain-for isa other [] p a = tt
all-plain-for isa other (l ∷ ls) p a = (
  plain-for isa other l p.0 (and-left (list_all (is_admitted_op other) l.ops) _ a),
  all-plain-for isa other ls p.1 (and-right (list_all (is_admitted_op other) l.ops) _ a),
)

-- a tree that spells plain groups within the limits gives their selected labels again, with nothing
-- skipped
pub spelled_is_read : (isa other : Isa) (families : Families) (ls : List Label) (d : Data)
    → CanBeSpelled isa ls
    → are_admitted other ls ≡ true → Spells ls d → groups_of other families d
    ≡ Ok (map bare (selected ls))
spelled_is_read isa other families ls d c a sp = spelled-by other families (selected ls) d
    (all-plain-for isa other (selected ls) c.plain a) c.few_labels c.few_points sp
