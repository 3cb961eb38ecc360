-- Groups that are read can be spelled.
use Rattle.std.proofs.Common.{◌≡◌, ℕ, ◌+◌, ◌≤◌, Bool, true, false, not, ◌&&◌, List, [], ◌∷◌, ◌++◌}
use Rattle.std.proofs.Common.{length, map, All, Some, Ok, Err, Result, IfOk, refl}
use Rattle.std.proofs.Common.{sym, ap, subst, ◌∙◌, arith, append_assoc, append-nil, length-append}
use Rattle.std.proofs.Common.{bytes_eq, codes, inl, inr, cond}
use Rattle.std.specs.Prelude.{nat_le, nat_lt, ◌||◌, ◌⊎◌, if◌then◌else◌, sum_by}
use Rattle.std.specs.List.{list_any, list_all}
use Rattle.std.proofs.lemmas.Bool.Decides.{nat_tests}
use Rattle.std.proofs.lemmas.Bool.{and_from}
use Rattle.std.proofs.lemmas.List.Elements.{All-nil, All-push, All-head, All-tail}
use Rattle.std.proofs.lemmas.List.Folds.{list_all-append, list_any-append}
use Rattle.std.proofs.lemmas.List.Sums.{sum_by-cons, sum_by-append}
use Rattle.std.proofs.lemmas.List.Filters.{length-filter_both, sum_by-filter_both}
use Rattle.rvs_cross.proofs.Members.{by_test}
use Rattle.rvs_base.specs.declared.fault.Fault.{Fault}
use Rattle.rvs_insn.specs.Isa.{Isa}
use Rattle.rvs_insn.specs.declared.op.Op.{Op}
use Rattle.rvs_tree.specs.Data.{Data, Pairs, own_pairs, is_map, value_at, value_among}
use Rattle.rvs_abstract.specs.declared.families.Families.{Families}
use Rattle.rvs_points.specs.Keys.{is_label_name}
use Rattle.rvs_cgf.specs.Groups.{Point, Label, at_label, at_node, at_key, refused, ◌>>=◌, Taken}
use Rattle.rvs_cgf.specs.Groups.{same_kind, entries, all_entries, passed_over, role_of, Nodes}
use Rattle.rvs_cgf.specs.Groups.{with_first, by_role, node_step, config_holds, selects, for_each}
use Rattle.rvs_cgf.specs.Groups.{main_of, ops_of, finished, starting, nodes, first_points}
use Rattle.rvs_cgf.specs.Groups.{selected_label, unselected, chosen, map_label, label_of, size_of}
use Rattle.rvs_cgf.specs.Groups.{Listed, with_label, label_step, nothing_listed}
use Rattle.rvs_cgf.specs.Groups.{groups_of}
use Rattle.rvs_points.specs.Kinds.{kind_name}
use Rattle.rvs_cgf.specs.Spelled.{blocks, kinds_are_apart, IsPlain, ArePlain, CanBeSpelled}
use Rattle.rvs_cgf.specs.Spelled.{selected, keys_are_own, nodes_are_own}
use Rattle.rvs_cgf.specs.GroupView.{AnswersWith, label_view}
use Rattle.rvs_points.specs.declared.group.Label.{Label as Read}
use Rattle.rvs_cgf.specs.declared.refusal.CgfRefusal.{CgfRefusal}
use Rattle.rvs_cgf.specs.declared.groups.Role.{Role}
use Rattle.rvs_cgf.specs.declared.groups.Role.TheVariants as role
use Rattle.rvs_points.specs.declared.group.Kind.{Kind}
use Rattle.rvs_points.specs.declared.group.Kind.TheVariants as kind
use Rattle.rvs_points.specs.declared.refusal.CgfKind.TheVariants as fault
use Rattle.rvs_points.proofs.SameKinds.{same-self, kind-is, kind-sym}
use Rattle.rvs_points.proofs.Distinct.{and-left, and-right, or-left, or-right, or-cases, no}
use Rattle.rvs_points.proofs.Distinct.{both-ways, is_mnemonic}
use Rattle.rvs_cgf.proofs.Adding.{ok-is, err-not, if-ok, bind-ok, holds-then, entries-are, Kept}
use Rattle.rvs_cgf.proofs.Adding.{IsOf, entry-kept, entries-kept, passed-kept}
use Rattle.rvs_cgf.proofs.Roles.{same-bytes, Suits, role-suits, main-is}
use Rattle.rvs_cgf.proofs.Validity.{first-mains, ops-append, label-valid}
use Rattle.rvs_cgf.proofs.BlocksRead.{op-none}
use Rattle.rvs_cgf.proofs.Together.{has_kind, all_of, together, others-none}
use Rattle.rvs_cgf.proofs.Together.{together-append, together-apart}

-- ---- what a node adds
record Grows (k : Kind) (base : List Point) (t : Taken) : Type 0 where
  pub more : List Point
  pub is : t.points ≡ base ++ more
  pub of_kind : all_of k more ≡ true
  pub no_ops : ops_of more ≡ []

grows-kept : (k : Kind) (base : List Point) → Kept (Grows k base) (IsOf k)
grows-kept k base = record {
  one = λ p t h q b c. record {
    more = h.more ++ p ∷ [];
    is = ap (λ xs. xs ++ p ∷ []) h.is ∙ append_assoc base h.more (p ∷ []);
    of_kind = list_all-append (λ x. same_kind x.kind k) h.more (p ∷ []) ∙ and_from (all_of k h.more)
        (same_kind p.kind k && true) h.of_kind
        (and_from (same_kind p.kind k) true (ap (λ j. same_kind j k) q.kind_is ∙ same-self k) refl);
    no_ops = ops-append h.more (p ∷ []) ∙ ap (λ xs. xs ++ ops_of (p ∷ [])) h.no_ops
        ∙ ap (λ xs. xs ++ []) (op-none p q.other q.meant);
  };
  passed = λ s t _ h. record {
    more = h.more;
    is = h.is;
    of_kind = h.of_kind;
    no_ops = h.no_ops;
  };
}

grows-start : (k : Kind) (t : Taken) → Grows k t.points t
grows-start k t = record {
  more = [];
  is = sym (append-nil t.points);
  of_kind = refl;
  no_ops = refl;
}

-- a node that is passed over adds no point
same-kept : (base : List Point) → Kept (λ t. t.points ≡ base) (λ p. ⊥)
same-kept base = record { one = λ p t h q b c. absurd q; passed = λ s t _ h. h }

-- ---- the nodes of a label
abbrev named_among : List ℕ → Pairs → Bool
named_among name es = list_any (λ e. bytes_eq e.0 name) es

-- what is left of the nodes es; main is the node of the mnemonics
record Goes (main : List ℕ) (ops : List Op) (n : Nodes) (es : Pairs) : Type 0 where
  pub stand : together n.taken.points ≡ true
  pub later : (k : Kind) → same_kind k kind.Mnemonic ≡ false → has_kind k n.taken.points ≡ true
      → named_among (kind_name k) es ≡ false
  pub main_once : has_kind kind.Mnemonic n.taken.points ≡ true → n.first ≡ []
  pub mains : list_all is_mnemonic n.first ≡ true
  pub ops_are : ops_of n.taken.points ++ ops_of n.first ≡ ops
  pub pending : (n.first ≡ []) ⊎ (named_among main es ≡ true)

-- a node that isn't the main one leaves that to the rest
pass-on : (main : List ℕ) (first : List Point) (e : List ℕ × Data) (es : Pairs)
    → role_of main ≡ role.Main → (r : Role) → role_of e.0 ≡ r → (r ≡ role.Main → ⊥)
    → (first ≡ []) ⊎ (named_among main (e ∷ es) ≡ true)
    → (first ≡ []) ⊎ (named_among main es ≡ true)
pass-on main first e es is r here other (inl x) = inl x
pass-on main first e es is r here other (inr x) =
    or-cases (bytes_eq e.0 main) (named_among main es) x
    (λ s. absurd (other (sym here ∙ ap role_of (same-bytes e.0 main s) ∙ is)))
    (λ s. inr s)

rest-later : (k : Kind) (e : List ℕ × Data) (es : Pairs)
    → named_among (kind_name k) (e ∷ es) ≡ false → named_among (kind_name k) es ≡ false
rest-later k e es h = or-right (bytes_eq e.0 (kind_name k)) (named_among (kind_name k) es) h

main-goes : (main : List ℕ) (ops : List Op) (n : Nodes) (e : List ℕ × Data) (es : Pairs)
    → Goes main ops n (e ∷ es) → Goes main ops (with_first n) es
main-goes main ops n e es h = record {
  stand = by_test (has_kind kind.Mnemonic n.taken.points)
      (λ b. ap (λ xs. together (n.taken.points ++ xs)) (h.main_once b)
      ∙ ap together (append-nil n.taken.points) ∙ h.stand)
      (λ b. together-append kind.Mnemonic n.taken.points n.first h.stand h.mains b);
  later = λ k o b. rest-later k e es (h.later k o
      (or-cases (has_kind k n.taken.points) (has_kind k n.first)
      (sym (list_any-append (λ p. same_kind p.kind k) n.taken.points n.first) ∙ b) (λ x. x)
      (λ x. both-ways (has_kind k n.first) x
      (others-none kind.Mnemonic k n.first h.mains (kind-sym kind.Mnemonic k ∙ o)))));
  main_once = λ b. refl;
  mains = refl;
  ops_are = append-nil (ops_of (n.taken.points ++ n.first)) ∙ ops-append n.taken.points n.first
      ∙ h.ops_are;
  pending = inl refl;
}

abbrev nodes-at : Taken → List Point → Nodes
nodes-at t first = record { taken = t; first = first }

-- points of a kind whose node comes once
added-goes : (main : List ℕ) (ops : List Op) (n : Nodes) (e : List ℕ × Data) (es : Pairs) (k : Kind)
    → role_of main ≡ role.Main → role_of e.0 ≡ role.Entries k → not (named_among e.0 es) ≡ true
    → Goes main ops n (e ∷ es) → (w : Taken) → Grows k n.taken.points w
    → Goes main ops (nodes-at w n.first) es
added-goes main ops n e es k is here own h w g =
    let node = (role-suits e.0).node_of k here in
    let name : e.0 ≡ kind_name k = same-bytes e.0 (kind_name k) node.named in
    let fresh : has_kind k n.taken.points ≡ false = by_test (has_kind k n.taken.points)
    (λ b. both-ways (bytes_eq e.0 (kind_name k)) node.named (or-left (bytes_eq e.0 (kind_name k))
    (named_among (kind_name k) es) (h.later k node.other b)))
    (λ b. b) in
    let split : (j : Kind)
    → has_kind j w.points ≡ (has_kind j n.taken.points || has_kind j g.more) =
    λ j. ap (has_kind j) g.is
    ∙ list_any-append (λ p. same_kind p.kind j) n.taken.points g.more in
    record {
      stand = ap together g.is ∙ together-append k n.taken.points g.more h.stand g.of_kind fresh;
      later = λ j o b. or-cases (has_kind j n.taken.points) (has_kind j g.more) (sym (split j) ∙ b)
          (λ x. rest-later j e es (h.later j o x))
          (λ x. by_test (same_kind k j)
          (λ y. ap (λ z. named_among z es) (ap kind_name (sym (kind-is k j y)) ∙ sym name)
          ∙ no (named_among e.0 es) own)
          (λ y. both-ways (has_kind j g.more) x (others-none k j g.more g.of_kind y)));
      main_once = λ b. or-cases (has_kind kind.Mnemonic n.taken.points)
          (has_kind kind.Mnemonic g.more) (sym (split kind.Mnemonic) ∙ b)
          h.main_once
          (λ x. both-ways (has_kind kind.Mnemonic g.more) x
          (others-none k kind.Mnemonic g.more g.of_kind node.other));
      mains = h.mains;
      ops_are = ap (λ xs. ops_of xs ++ ops_of n.first) g.is ∙ ap (λ xs. xs ++ ops_of n.first)
          (ops-append n.taken.points g.more ∙ ap (λ xs. ops_of n.taken.points ++ xs) g.no_ops
          ∙ append-nil (ops_of n.taken.points)) ∙ h.ops_are;
      pending = pass-on main n.first e es is (role.Entries k) here (λ x. cc) h.pending;
    }

-- a node that leaves the points as they are
same-goes : (main : List ℕ) (ops : List Op) (n : Nodes) (e : List ℕ × Data) (es : Pairs)
    → Goes main ops n (e ∷ es) → (n.first ≡ []) ⊎ (named_among main es ≡ true) → (w : Taken)
    → w.points ≡ n.taken.points → Goes main ops (nodes-at w n.first) es
same-goes main ops n e es h left w is = record {
  stand = ap together is ∙ h.stand;
  later = λ k o b. rest-later k e es (h.later k o (ap (has_kind k) (sym is) ∙ b));
  main_once = λ b. h.main_once (ap (has_kind kind.Mnemonic) (sym is) ∙ b);
  mains = h.mains;
  ops_are = ap (λ xs. ops_of xs ++ ops_of n.first) is ∙ h.ops_are;
  pending = left;
}

role-goes : (isa : Isa) (families : Families) (label main : List ℕ) (ops : List Op) (n m : Nodes)
    (e : List ℕ × Data)
    (es : Pairs) → role_of main ≡ role.Main → not (named_among e.0 es) ≡ true → Goes main ops n
    (e ∷ es)
    → (r : Role) → Suits e.0 r → role_of e.0 ≡ r
    → by_role isa families (at_node label e.0) e.1 r n ≡ Ok m
    → Goes main ops m es
role-goes isa families label main ops n m e es is own h role.Main good here done = subst
    (λ (x : Nodes). Goes main ops x es) (ok-is (with_first n) m done) (main-goes main ops n e es h)
role-goes isa families label main ops n m e es is own h role.Config good here done =
    subst (λ (x : Nodes). Goes main ops x es) (ok-is n m done) (same-goes main ops n e es h
    (pass-on main n.first e es is role.Config here (λ x. cc) h.pending) n.taken refl)
role-goes isa families label main ops n m e es is own h (role.Entries k) good here done =
    let place = at_node label e.0 in
    bind-ok (all_entries isa families k place e.1 n.taken) (λ t. Ok (nodes-at t n.first)) m done
    (λ w a r. subst (λ (x : Nodes). Goes main ops x es) (ok-is (nodes-at w n.first) m r)
    (added-goes main ops n e es k is here own h w
    (entries-kept (Grows k n.taken.points) isa families k place
    (λ key. entry-kept (Grows k n.taken.points)
    isa families k (grows-kept k n.taken.points) (good.node_of k refl).other (at_key place key)
    (good.printable refl)) e.1 n.taken w (grows-start k n.taken) a)))
role-goes isa families label main ops n m e es is own h role.PassedOver good here done =
    let place = at_node label e.0 in
    bind-ok (passed_over place e.1 n.taken) (λ t. Ok (nodes-at t n.first)) m done
    (λ w a r. subst (λ (x : Nodes). Goes main ops x es) (ok-is (nodes-at w n.first) m r)
    (same-goes main ops n e es h (pass-on main n.first e es is role.PassedOver here
    (λ x. cc) h.pending) w
    (passed-kept (λ t. t.points ≡ n.taken.points) (λ p. ⊥) (same-kept n.taken.points) place
    (good.printable refl) e.1 n.taken w refl a)))
role-goes isa families label main ops n m e es is own h role.Unknown good here done =
    err-not _ m done

nodes-go : (isa : Isa) (families : Families) (label main : List ℕ) (ops : List Op)
    → role_of main ≡ role.Main
    → (es : Pairs) (n m : Nodes) → keys_are_own es ≡ true → Goes main ops n es
    → for_each (node_step isa families label) es n ≡ Ok m → Goes main ops m []
nodes-go isa families label main ops is [] n m own h e =
    subst (λ (x : Nodes). Goes main ops x []) (ok-is n m e) h
nodes-go isa families label main ops is (x ∷ es) n m own h e =
    bind-ok (node_step isa families label x.0 x.1 n)
    (λ k. for_each (node_step isa families label) es k) m e
    (λ k g r. nodes-go isa families label main ops is es k m
    (and-right (not (named_among x.0 es)) (keys_are_own es) own)
    (role-goes isa families label main ops n k x es is
    (and-left (not (named_among x.0 es)) (keys_are_own es) own) h (role_of x.0) (role-suits x.0)
    refl g) r)

-- ---- a label
there-named : (name : List ℕ) (es : Pairs) (d : Data) → value_among name es ≡ Some d
    → named_among name es ≡ true
there-named name [] d e = cc
there-named name (x ∷ es) d e = by (bytes_eq x.0 name) e (there-named name es d)
  where
    by : (b : Bool) → (if b then Some x.1 else value_among name es) ≡ Some d
        → (value_among name es ≡ Some d → named_among name es ≡ true)
        → (b || named_among name es) ≡ true
    by true e next = refl
    by false e next = next e

ended : (first : List Point) (main : List ℕ) → (first ≡ []) ⊎ (named_among main [] ≡ true)
    → first ≡ []
ended first main (inl x) = x
ended first main (inr x) = cc

-- what the node of the mnemonics is called, and that it is there
record IsMainNode (main : List ℕ) (es : Pairs) : Type 0 where
  pub role_main : role_of main ≡ role.Main
  pub there : named_among main es ≡ true

main-there : (name : List ℕ) (d : Data) (m : List ℕ × Data) → main_of name d ≡ Ok m
    → IsMainNode m.0 (own_pairs d)
main-there name d m e =
    main-is name (value_at (codes "mnemonics") d) (value_at (codes "opcode") d) m e
    (λ is v. record {
      role_main = ap role_of is;
      there = ap (λ x. named_among x (own_pairs d)) is
          ∙ there-named (codes "mnemonics") (own_pairs d) m.1 v;
    })
    (λ is v. record {
      role_main = ap role_of is;
      there = ap (λ x. named_among x (own_pairs d)) is
          ∙ there-named (codes "opcode") (own_pairs d) m.1 v;
    })

label-plain : (isa : Isa) (families : Families) (name : List ℕ) (d : Data) (l : Label)
    → is_label_name name ≡ true
    → bytes_eq name (codes "datasets") ≡ false → keys_are_own (own_pairs d) ≡ true
    → selected_label isa families name d ≡ Ok l → IsPlain isa l
label-plain isa families name d l named other own e =
    let valid = label-valid isa families name d l named e in
    bind-ok (main_of name d) (λ m. first_points isa families (at_node name m.0) m.1
    >>= (λ first. nodes isa families name d first)) l e
    (λ m a r. bind-ok (first_points isa families (at_node name m.0) m.1)
    (λ first. nodes isa families name d first) l r
    (λ first b s.
    let mains = (first-mains isa families name d m first a b).0 in
    let main = main-there name d m a in
    let begin : Goes m.0 (ops_of first.points) (starting first) (own_pairs d) = record {
      stand = refl;
      later = λ k o b. cc;
      main_once = λ b. cc;
      mains = mains.mains;
      ops_are = refl;
      pending = inr main.there;
    } in
    bind-ok (for_each (node_step isa families name) (own_pairs d) (starting first))
    (λ n. Ok (finished name (ops_of first.points) n)) l s
    (λ n f k.
    let goes = nodes-go isa families name m.0 (ops_of first.points) main.role_main (own_pairs d)
    (starting first) n own begin f in
    let label : finished name (ops_of first.points) n ≡ l =
    ok-is (finished name (ops_of first.points) n) l k in
    let done : ops_of n.taken.points ≡ ops_of first.points =
    sym (append-nil (ops_of n.taken.points))
    ∙ ap (λ xs. ops_of n.taken.points ++ ops_of xs) (sym (ended n.first m.0 goes.pending))
    ∙ goes.ops_are in
    record {
      valid = valid;
      apart = ap (λ (x : Label). kinds_are_apart (blocks x.points)) (sym label)
          ∙ together-apart n.taken.points goes.stand;
      ops_are = ap (λ (x : Label). x.ops) (sym label) ∙ sym done
          ∙ ap (λ (x : Label). ops_of x.points) label;
      own_name = ap (λ (x : Label). bytes_eq x.name (codes "datasets")) (sym label) ∙ other;
    })))

-- ---- labels
abbrev pub IsPlainIfSelected : Isa → Label → Type 0
IsPlainIfSelected isa l = l.selected ≡ true → IsPlain isa l

chosen-plain : (isa : Isa) (families : Families) (name : List ℕ) (d : Data) (b : Bool) (l : Label)
    → is_label_name name ≡ true → bytes_eq name (codes "datasets") ≡ false
    → keys_are_own (own_pairs d) ≡ true → chosen isa families name d b ≡ Ok l
    → IsPlainIfSelected isa l
chosen-plain isa families name d true l named other own e =
    λ s. label-plain isa families name d l named other own e
chosen-plain isa families name d false l named other own e =
    subst (IsPlainIfSelected isa) (ok-is (unselected name) l e) (λ s. cc)

of-plain : (isa : Isa) (families : Families) (name : List ℕ) (d : Data) (l : Label)
    → bytes_eq name (codes "datasets") ≡ false → keys_are_own (own_pairs d) ≡ true
    → label_of isa families name d ≡ Ok l → IsPlainIfSelected isa l
of-plain isa families name d l other own e =
    if-ok (is_label_name name)
    (if is_map d then map_label isa families name d else refused (at_label name) fault.BadShape)
    (refused (at_label name) fault.BadLabelName) l e
    (λ named g. if-ok (is_map d) (map_label isa families name d)
    (refused (at_label name) fault.BadShape) l g
    (λ m r. bind-ok (selects name (config_holds isa (value_at (codes "config") d)))
    (λ b. chosen isa families name d b) l r
    (λ b a s. chosen-plain isa families name d b l named other own s))
    (λ m r. err-not _ l r))
    (λ n g. err-not _ l g)

pub record Plainly (isa : Isa) (l : Listed) : Type 0 where
  pub plain : All (IsPlainIfSelected isa) l.labels
  pub few : length l.labels ≤ 256
  pub total_is : l.total ≡ sum_by size_of l.labels
  pub small : l.total ≤ 65536

abbrev listed-at : List Label → ℕ → Listed
listed-at ls n = record { labels = ls; total = n }

one-more : (n : ℕ) → nat_lt n 256 ≡ true → n + 1 ≤ 256
one-more n e = grind (arith, nat_tests)

still-small : (n : ℕ) → nat_le n 65536 ≡ true → n ≤ 65536
still-small n e = grind (arith, nat_tests)

step-plain : (isa : Isa) (families : Families) (name : List ℕ) (d : Data) (l m : Listed)
    → keys_are_own (own_pairs d) ≡ true → Plainly isa l → label_step isa families name d l ≡ Ok m
    → Plainly isa m
step-plain isa families name d l m own h e =
    if-ok (bytes_eq name (codes "datasets")) (Ok l) _ m e
    (λ b g. subst (Plainly isa) (ok-is l m g) h)
    (λ b g. holds-then (nat_lt (length l.labels) 256) (at_label name) fault.TooManyLabels
    (label_of isa families name d >>= (λ x. with_label name x l)) m g
    (λ few r. bind-ok (label_of isa families name d) (λ x. with_label name x l) m r
    (λ x a s. holds-then (nat_le (l.total + size_of x) 65536) (at_label name) fault.TooManyPoints
    (Ok (listed-at (l.labels ++ x ∷ []) (l.total + size_of x))) m s
    (λ c k. subst (Plainly isa) (ok-is (listed-at (l.labels ++ x ∷ []) (l.total + size_of x)) m k)
    (record {
      plain = All-push (IsPlainIfSelected isa) l.labels x h.plain
          (of-plain isa families name d x b own a);
      few = omega (arith, one-more (length l.labels) few, length-append l.labels (x ∷ []));
      total_is = omega
          (arith, h.total_is, sum_by-append size_of l.labels (x ∷ []), sum_by-cons size_of x []);
      small = still-small (l.total + size_of x) c;
    })))))

pub each_plain : (isa : Isa) (families : Families) (es : Pairs) (l m : Listed)
    → list_all (λ e. keys_are_own (own_pairs e.1)) es ≡ true → Plainly isa l
    → for_each (label_step isa families) es l ≡ Ok m → Plainly isa m
each_plain isa families [] l m own h e = subst (Plainly isa) (ok-is l m e) h
each_plain isa families (x ∷ es) l m own h e =
    bind-ok (label_step isa families x.0 x.1 l) (λ k. for_each (label_step isa families) es k) m e
    (λ k g r. each_plain isa families es k m (and-right (keys_are_own (own_pairs x.1)) _ own)
    (step-plain isa families x.0 x.1 l k (and-left (keys_are_own (own_pairs x.1)) _ own) h g) r)

-- ---- the selected ones
selected-plain : (isa : Isa) (ls : List Label) → All (IsPlainIfSelected isa) ls
    → ArePlain isa (selected ls)
selected-plain isa [] h = tt
selected-plain isa (l ∷ ls) h =
    by l.selected refl (selected-plain isa ls (All-tail (IsPlainIfSelected isa) l ls h))
  where
    by : (b : Bool) → l.selected ≡ b → ArePlain isa (selected ls)
        → ArePlain isa (cond b (l ∷ selected ls) (selected ls))
    by true e rest = (All-head (IsPlainIfSelected isa) l ls h e, rest)
    by false e rest = rest

pub groups-spelled : (isa : Isa) (families : Families) (d : Data) (ls : List Label)
    → nodes_are_own d ≡ true
    → groups_of isa families d ≡ Ok ls → CanBeSpelled isa ls
unfolding groups_of
groups-spelled isa families d ls own e =
    bind-ok (entries (at_label []) d)
    (λ es. for_each (label_step isa families) es nothing_listed >>= (λ listed. Ok listed.labels)) ls
    e
    (λ es there r. bind-ok (for_each (label_step isa families) es nothing_listed)
    (λ listed. Ok listed.labels) ls r
    (λ listed a s.
    let p = each_plain isa families es nothing_listed listed
    (entries-are (λ es. list_all (λ e. keys_are_own (own_pairs e.1)) es ≡ true) (at_label []) d es
    there refl own) (record {
      plain = All-nil (IsPlainIfSelected isa);
      few = omega arith;
      total_is = refl;
      small = omega arith;
    }) a in
    subst (CanBeSpelled isa) (ok-is listed.labels ls s) (record {
      plain = selected-plain isa listed.labels p.plain;
      few_labels = omega (
        arith,
        p.few,
        length-filter_both (λ (l : Label). l.selected) (λ l. not l.selected)
            (λ l. refl) listed.labels,
      );
      few_points = omega (
        arith,
        p.small,
        p.total_is,
        sum_by-filter_both (λ (l : Label). l.selected) (λ l. not l.selected)
            (λ l. refl) size_of listed.labels,
      );
    })))

pub read_spelled : (isa : Isa) (families : Families) (d : Data)
    (r : Result (List Read) (Fault CgfRefusal))
    → AnswersWith (map label_view) r (groups_of isa families d)
    → IfOk r (λ ls. nodes_are_own d ≡ true → CanBeSpelled isa (map label_view ls))
read_spelled isa families d (Ok ls) e =
    λ own. groups-spelled isa families d (map label_view ls) own e
read_spelled isa families d (Err x) e = tt
