-- What a node is, by its name.
use Rattle.std.proofs.Common.{◌≡◌, ℕ, Bool, true, false, List, Option, Some, None, Ok, refl, sym}
use Rattle.std.proofs.Common.{ap, subst, ◌∙◌, bytes_eq, codes}
use Rattle.std.specs.Prelude.{◌||◌, if◌then◌else◌}
use Rattle.std.proofs.lemmas.Slice.Eq.{bytes_eq-Decides}
use Rattle.rvs_tree.specs.Data.{Data, value_at}
use Rattle.rvs_points.specs.Keys.{is_printable}
use Rattle.rvs_cgf.specs.Groups.{same_kind, is_passed_over, role_of, main_node, main_of}
use Rattle.rvs_points.specs.Kinds.{kind_name}
use Rattle.rvs_cgf.specs.declared.groups.Role.{Role}
use Rattle.rvs_cgf.specs.declared.groups.Role.TheVariants as role
use Rattle.rvs_points.specs.declared.group.Kind.{Kind}
use Rattle.rvs_points.specs.declared.group.Kind.TheVariants as kind
use Rattle.rvs_points.proofs.Distinct.{or-cases}
use Rattle.rvs_cgf.proofs.Adding.{ok-is, err-not}

pub same-bytes : (xs ys : List ℕ) → bytes_eq xs ys ≡ true → xs ≡ ys
same-bytes xs ys h = (bytes_eq-Decides xs ys).0 h

shown : (node name : List ℕ) → is_printable name ≡ true → bytes_eq node name ≡ true
    → is_printable node ≡ true
shown node name p e = ap is_printable (same-bytes node name e) ∙ p

-- the node of a kind
pub record IsNode (node : List ℕ) (k : Kind) : Type 0 where
  pub named : bytes_eq node (kind_name k) ≡ true
  pub other : same_kind k kind.Mnemonic ≡ false

abbrev pub is_known : Role → Bool
is_known role.Unknown = false
is_known _ = true

-- what a node's role says of its name
pub record Suits (node : List ℕ) (r : Role) : Type 0 where
  pub node_of : (k : Kind) → r ≡ role.Entries k → IsNode node k
  pub printable : is_known r ≡ true → is_printable node ≡ true

suits-if : (node : List ℕ) (b : Bool) (x y : Role) → (b ≡ true → Suits node x) → Suits node y
    → Suits node (if b then x else y)
suits-if node true x y h k = h refl
suits-if node false x y h k = k

named-suits : (node : List ℕ) (k : Kind) → same_kind k kind.Mnemonic ≡ false
    → is_printable (kind_name k) ≡ true → bytes_eq node (kind_name k) ≡ true
    → Suits node (role.Entries k)
named-suits node k o p e = record {
  node_of = λ j is. let same : k ≡ j = cc in
      subst (IsNode node) same (record { named = e; other = o });
  printable = λ _. shown node (kind_name k) p e;
}

main-shown : (node : List ℕ)
    → (bytes_eq node (codes "mnemonics") || bytes_eq node (codes "opcode")) ≡ true
    → is_printable node ≡ true
main-shown node e =
    or-cases (bytes_eq node (codes "mnemonics")) (bytes_eq node (codes "opcode")) e
    (shown node (codes "mnemonics") refl) (shown node (codes "opcode") refl)

passed-shown : (node : List ℕ) → is_passed_over node ≡ true → is_printable node ≡ true
passed-shown node e =
    or-cases (bytes_eq node (codes "csr_comb")) _ e (shown node (codes "csr_comb") refl)
    (λ e1. or-cases (bytes_eq node (codes "rs3")) _ e1 (shown node (codes "rs3") refl)
    (λ e2. or-cases (bytes_eq node (codes "p_op_cond")) _ e2 (shown node (codes "p_op_cond") refl)
    (shown node (codes "base_op") refl)))

pub role-suits : (node : List ℕ) → Suits node (role_of node)
role-suits node =
    suits-if node (bytes_eq node (codes "mnemonics") || bytes_eq node (codes "opcode")) role.Main _
    (λ e. record { node_of = λ k is. cc; printable = λ _. main-shown node e })
    (suits-if node (bytes_eq node (codes "config")) role.Config _
    (λ e. record { node_of = λ k is. cc; printable = λ _. shown node (codes "config") refl e })
    (suits-if node (bytes_eq node (codes "rs1")) (role.Entries kind.Rs1) _
    (named-suits node kind.Rs1 refl refl)
    (suits-if node (bytes_eq node (codes "rs2")) (role.Entries kind.Rs2) _
    (named-suits node kind.Rs2 refl refl)
    (suits-if node (bytes_eq node (codes "rd")) (role.Entries kind.Rd) _
    (named-suits node kind.Rd refl refl)
    (suits-if node (bytes_eq node (codes "op_comb")) (role.Entries kind.OpComb) _
    (named-suits node kind.OpComb refl refl)
    (suits-if node (bytes_eq node (codes "val_comb")) (role.Entries kind.ValComb) _
    (named-suits node kind.ValComb refl refl)
    (suits-if node (bytes_eq node (codes "cross_comb")) (role.Entries kind.CrossComb) _
    (named-suits node kind.CrossComb refl refl)
    (suits-if node (is_passed_over node) role.PassedOver role.Unknown
    (λ e. record { node_of = λ k is. cc; printable = λ _. passed-shown node e })
    (record { node_of = λ k is. cc; printable = λ n. cc })))))))))

-- the node of the mnemonics
pub main-is : {G : Type 0} (name : List ℕ) (a b : Option Data) (m : List ℕ × Data)
    → main_node name a b ≡ Ok m → (m.0 ≡ codes "mnemonics" → a ≡ Some m.1 → G)
    → (m.0 ≡ codes "opcode" → b ≡ Some m.1 → G) → G
main-is name (Some d) None m e f g = let is : (codes "mnemonics", d) ≡ m =
    ok-is (codes "mnemonics", d) m e in
    f (ap (λ x. x.0) (sym is)) (ap (λ (x : List ℕ × Data). Some x.1) is)
main-is name None (Some d) m e f g = let is : (codes "opcode", d) ≡ m =
    ok-is (codes "opcode", d) m e in
    g (ap (λ x. x.0) (sym is)) (ap (λ (x : List ℕ × Data). Some x.1) is)
main-is name (Some d) (Some c) m e f g = err-not _ m e
main-is name None None m e f g = err-not _ m e

pub main-printable : (name : List ℕ) (d : Data) (m : List ℕ × Data) → main_of name d ≡ Ok m
    → is_printable m.0 ≡ true
main-printable name d m e =
    main-is name (value_at (codes "mnemonics") d) (value_at (codes "opcode") d) m e
    (λ is v. ap is_printable is) (λ is v. ap is_printable is)
