-- The texts of groups and of their refusals.
use Rattle.std.specs.Prelude.{ℕ, ◌==◌, Bool, false, List, [], ◌∷◌, ◌++◌, Option, Some, None}
use Rattle.std.specs.Prelude.{if◌then◌else◌, codes}
use Rattle.std.specs.List.{flat_map}
use Rattle.std.specs.Fmt.{decimal}
use Rattle.rvs_abstract.specs.Refusals as calls
use Rattle.rvs_expr_text.specs.Refusal as expr
use Rattle.rvs_expr_text.specs.declared.refusal.ExprRefusal.{ExprRefusal}
use Rattle.rvs_cross.specs.Refusals as crosses
use Rattle.rvs_cross.specs.declared.refusal.CrossRefusal.{CrossRefusal}
use Rattle.rvs_cross.specs.declared.refusal.CrossRefusal.TheVariants as cross
use Rattle.rvs_points.specs.Kinds.{kind_name}
use Rattle.rvs_points.specs.Faults.{number_of}
use Rattle.rvs_cgf.specs.Groups.{Label, Point, Skipped, Refusal, same_kind}
use Rattle.rvs_points.specs.declared.group.Kind.{Kind}
use Rattle.rvs_points.specs.declared.refusal.CgfKind.{CgfKind}
use Rattle.rvs_points.specs.declared.refusal.CgfKind.TheVariants.{BadExpr, BadAbstract, BadCross}

-- ---- groups with all their points written out
-- a single quote twice
abbrev pub doubled_byte : ℕ → List ℕ
doubled_byte c = if c == 39 then 39 ∷ 39 ∷ [] else c ∷ []

-- each single quote twice
abbrev pub doubled : List ℕ → List ℕ
doubled key = flat_map doubled_byte key

-- the line of a kind
abbrev pub kind_line : Kind → List ℕ
kind_line k = codes "  " ++ (kind_name k ++ codes ":\n")

-- the line of a key
abbrev pub point_line : List ℕ → List ℕ
point_line key = codes "    '" ++ (doubled key ++ codes "': 0\n")

-- the point before is of this kind
abbrev pub goes_on : Option Kind → Kind → Bool
goes_on None k = false
goes_on (Some before) k = same_kind before k

-- the line of a kind stands before its first point
abbrev pub head_line : Option Kind → Kind → List ℕ
head_line before k = if goes_on before k then [] else kind_line k

-- the lines of points
abbrev pub points_text : Option Kind → List Point → List ℕ
points_text before [] = []
points_text before (p ∷ ps) =
    (head_line before p.kind ++ point_line p.key) ++ points_text (Some p.kind) ps

-- the line of an entry that isn't counted
abbrev pub skipped_line : Skipped → List ℕ
skipped_line s = codes "  # skipped " ++ (s.node ++ (codes " " ++ (s.key ++ codes "\n")))

-- the lines of a label; of one that isn't selected the name stands in a comment
abbrev pub label_text : Label → List ℕ
label_text l =
    if l.selected then (l.name ++ codes ":\n")
    ++ (points_text None l.points ++ flat_map skipped_line l.skipped)
    else codes "# unselected " ++ (l.name ++ codes "\n")

-- the lines of all labels
abbrev pub normal_text : List Label → List ℕ
normal_text groups = flat_map label_text groups

-- ---- refusals
-- an empty text is written `-`
abbrev pub or_dash : List ℕ → List ℕ
or_dash [] = codes "-"
or_dash (c ∷ cs) = c ∷ cs

-- why an expression is refused, and where
abbrev pub expr_text : ExprRefusal → List ℕ
expr_text why = codes " expr "
    ++ (decimal (expr.number_of why.kind) ++ (codes " column " ++ decimal why.column))

-- the name that a cross point may not have, or why its expression is refused
abbrev pub cross_detail : CrossRefusal → List ℕ
cross_detail (cross.UnassignedVariable name) = codes " " ++ name
cross_detail (cross.UnknownMnemonic name) = codes " " ++ name
cross_detail (cross.Expr why) = expr_text why
cross_detail _ = []

-- why an expression, a call or a cross point is refused
abbrev pub inner_text : CgfKind → List ℕ
inner_text (BadExpr why) = expr_text why
inner_text (BadAbstract why) = codes " abstract " ++ decimal (calls.number_of why)
inner_text (BadCross why) = codes " cross " ++ (decimal (crosses.number_of why) ++ cross_detail why)
inner_text _ = []

-- the number of the rule, the label, the node and the key, and why an expression, a call or a cross
-- point is refused
abbrev pub refusal_text : Refusal → List ℕ
refusal_text r =
    codes "cgf " ++ (decimal (number_of r.kind)
    ++ (codes " " ++ (or_dash r.place.label ++ (codes " " ++ (or_dash r.place.node
    ++ (codes " " ++ (or_dash r.place.key ++ inner_text r.kind)))))))
