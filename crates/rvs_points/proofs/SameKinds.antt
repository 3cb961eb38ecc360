-- Kinds that are the same.
use Rattle.std.proofs.Common.{◌≡◌, ℕ, Bool, true, false, refl, sym, ap, ◌∙◌}
use Rattle.std.specs.Prelude.{◌==◌, if◌then◌else◌}
use Rattle.std.proofs.lemmas.Bool.{eqb-true}
use Rattle.rvs_points.specs.Points.{same_kind}
use Rattle.rvs_points.specs.Kinds.{mark}
use Rattle.rvs_points.specs.declared.group.Kind.{Kind}
use Rattle.rvs_points.specs.declared.group.Kind.TheVariants as kind

pub same-self : (k : Kind) → same_kind k k ≡ true
same-self kind.Mnemonic = refl
same-self kind.Rs1 = refl
same-self kind.Rs2 = refl
same-self kind.Rd = refl
same-self kind.OpComb = refl
same-self kind.ValComb = refl
same-self kind.CrossComb = refl

pub mark-same : (a b : Kind) → (mark a == mark b) ≡ same_kind a b
mark-same kind.Mnemonic kind.Mnemonic = refl
mark-same kind.Mnemonic kind.Rs1 = refl
mark-same kind.Mnemonic kind.Rs2 = refl
mark-same kind.Mnemonic kind.Rd = refl
mark-same kind.Mnemonic kind.OpComb = refl
mark-same kind.Mnemonic kind.ValComb = refl
mark-same kind.Mnemonic kind.CrossComb = refl
mark-same kind.Rs1 kind.Mnemonic = refl
mark-same kind.Rs1 kind.Rs1 = refl
mark-same kind.Rs1 kind.Rs2 = refl
mark-same kind.Rs1 kind.Rd = refl
mark-same kind.Rs1 kind.OpComb = refl
mark-same kind.Rs1 kind.ValComb = refl
mark-same kind.Rs1 kind.CrossComb = refl
mark-same kind.Rs2 kind.Mnemonic = refl
mark-same kind.Rs2 kind.Rs1 = refl
mark-same kind.Rs2 kind.Rs2 = refl
mark-same kind.Rs2 kind.Rd = refl
mark-same kind.Rs2 kind.OpComb = refl
mark-same kind.Rs2 kind.ValComb = refl
mark-same kind.Rs2 kind.CrossComb = refl
mark-same kind.Rd kind.Mnemonic = refl
mark-same kind.Rd kind.Rs1 = refl
mark-same kind.Rd kind.Rs2 = refl
mark-same kind.Rd kind.Rd = refl
mark-same kind.Rd kind.OpComb = refl
mark-same kind.Rd kind.ValComb = refl
mark-same kind.Rd kind.CrossComb = refl
mark-same kind.OpComb kind.Mnemonic = refl
mark-same kind.OpComb kind.Rs1 = refl
mark-same kind.OpComb kind.Rs2 = refl
mark-same kind.OpComb kind.Rd = refl
mark-same kind.OpComb kind.OpComb = refl
mark-same kind.OpComb kind.ValComb = refl
mark-same kind.OpComb kind.CrossComb = refl
mark-same kind.ValComb kind.Mnemonic = refl
mark-same kind.ValComb kind.Rs1 = refl
mark-same kind.ValComb kind.Rs2 = refl
mark-same kind.ValComb kind.Rd = refl
mark-same kind.ValComb kind.OpComb = refl
mark-same kind.ValComb kind.ValComb = refl
mark-same kind.ValComb kind.CrossComb = refl
mark-same kind.CrossComb kind.Mnemonic = refl
mark-same kind.CrossComb kind.Rs1 = refl
mark-same kind.CrossComb kind.Rs2 = refl
mark-same kind.CrossComb kind.Rd = refl
mark-same kind.CrossComb kind.OpComb = refl
mark-same kind.CrossComb kind.ValComb = refl
mark-same kind.CrossComb kind.CrossComb = refl

-- the kind of a mark
abbrev of_mark : ℕ → Kind
of_mark n = if n == 109 then kind.Mnemonic else (if n == 49 then kind.Rs1
    else (if n == 50 then kind.Rs2 else (if n == 100 then kind.Rd
    else (if n == 111 then kind.OpComb else (if n == 118 then kind.ValComb else kind.CrossComb)))))

own-mark : (k : Kind) → of_mark (mark k) ≡ k
own-mark kind.Mnemonic = refl
own-mark kind.Rs1 = refl
own-mark kind.Rs2 = refl
own-mark kind.Rd = refl
own-mark kind.OpComb = refl
own-mark kind.ValComb = refl
own-mark kind.CrossComb = refl

pub kind-is : (a b : Kind) → same_kind a b ≡ true → a ≡ b
kind-is a b e = sym (own-mark a)
    ∙ ap of_mark (eqb-true (mark a) (mark b) (mark-same a b ∙ e)) ∙ own-mark b

pub kind-sym : (a b : Kind) → same_kind a b ≡ same_kind b a
kind-sym a b = by (same_kind a b) (same_kind b a) refl refl
  where
    by : (x y : Bool) → same_kind a b ≡ x → same_kind b a ≡ y → x ≡ y
    by true true e f = refl
    by true false e f =
        sym (same-self a) ∙ ap (λ k. same_kind k a) (kind-is a b e) ∙ f
    by false true e f =
        sym (sym (same-self b) ∙ ap (λ k. same_kind k b) (kind-is b a f) ∙ e)
    by false false e f = refl

-- another kind than that of the mnemonics isn't one of theirs
pub apart : (a b : Kind) → same_kind a kind.Mnemonic ≡ true → same_kind b kind.Mnemonic ≡ false
    → same_kind a b ≡ false
apart a b e h = ap (λ k. same_kind k b) (kind-is a kind.Mnemonic e) ∙ kind-sym kind.Mnemonic b ∙ h
