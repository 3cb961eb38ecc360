use Rattle.std.proofs.Common.{ℕ, take, sym, subst}
use Rattle.std.specs.Str.{IsUtf8}
use Rattle.rvs_text.proofs.Names.{name_utf8}
use Rattle.rvs_cross.proofs.Names.{is_read}
use Rattle.rvs_cross.proofs.building.name_before.Goals as goal

pub unwrap-requires : goal.unwrap-requires
unwrap-requires c =
    let t = c.args.text.now in
    let n = c.name_length.result in
    let u : IsUtf8 (take n t) =
    subst (λ (m : ℕ). IsUtf8 (take m t)) (sym c.name_length.ensures.length) (name_utf8 t) in
    is_read (take n t) _ _ c.from_utf8.result c.from_utf8.ensures.cases u
