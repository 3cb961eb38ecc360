-- A check that may fail, with the kind of its failure.
use Rattle.std.specs.Prelude.{Bool, true, false, Result, Ok, Err}
use Rattle.rvs_yaml_text.specs.declared.kind.YamlKind.{YamlKind}

abbrev pub Checked : Type 0 → Type 0
Checked A = Result A YamlKind

infixl 10 ◌>>=◌
abbrev pub ◌>>=◌ : {A B : Type 0} → Checked A → (A → Checked B) → Checked B
(Ok x) >>= f = f x
(Err e) >>= f = Err e

-- the test holds, or the check fails so
abbrev pub check : Bool → YamlKind → Checked (Unit {0})
check true kind = Ok tt
check false kind = Err kind

infixl 10 ◌>>◌
abbrev pub ◌>>◌ : {A B : Type 0} → Checked A → Checked B → Checked B
(Ok x) >> next = next
(Err e) >> next = Err e

-- whether a check succeeds
abbrev pub succeeds : {A : Type 0} → Checked A → Checked (Unit {0})
succeeds m = m >> Ok tt
