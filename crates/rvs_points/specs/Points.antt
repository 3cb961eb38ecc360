-- What coverage points and groups are.
use Rattle.std.specs.Prelude.{ℕ, Bool, false, List, [], ◌∷◌, ◌&&◌, ◌||◌, bytes_eq}
use Rattle.rvs_insn.specs.declared.op.Op.{Op}
pub use Rattle.rvs_points.specs.Says.{Meaning, op_is, reg_is, regs, nums, window, Said, means}
pub use Rattle.rvs_points.specs.Says.{nothing, wrong, says, admits}
pub use Rattle.rvs_points.specs.Kinds.{same_kind}
use Rattle.rvs_points.specs.declared.group.Kind.{Kind}

-- what it is a point of, its key, and what that means
pub record Point : Type 0 where
  pub kind : Kind
  pub key : List ℕ
  pub meaning : Meaning

-- an entry that is listed and not counted
pub record Skipped : Type 0 where
  pub node : List ℕ
  pub key : List ℕ

-- a coverage group: whether the core selects it, its mnemonics, its points, what isn't counted
pub record Label : Type 0 where
  pub name : List ℕ
  pub selected : Bool
  pub ops : List Op
  pub points : List Point
  pub skipped : List Skipped

-- the point of this kind and key that means this
abbrev pub point : Kind → List ℕ → Meaning → Point
point k key m = record { kind = k; key = key; meaning = m }

-- a point is of this kind and key
abbrev pub is_point : Kind → List ℕ → Point → Bool
is_point k key p = same_kind p.kind k && bytes_eq p.key key

-- a point of this kind and key is there
abbrev pub has : Kind → List ℕ → List Point → Bool
has k key [] = false
has k key (p ∷ ps) = is_point k key p || has k key ps
