use Rattle.std.proofs.Common.{◌≡◌, Bool, true, false, ◌&&◌, List, ℕ, [], ◌∷◌, Some, None, refl, sym}
use Rattle.std.proofs.Common.{ap, ◌∙◌}
use Rattle.std.specs.List.{list_all}
use Rattle.rvs_device.specs.Command.{is_known}
use Rattle.rvs_device.specs.DeviceFile.{unknown_in}
use Rattle.rvs_device.proofs.reading.read_command.Goals as goal

known-by : (known : Bool) (word : List ℕ) (words : List (List ℕ)) → is_known word ≡ known
    → (unknown_in words ≡ None → list_all is_known words ≡ true) → unknown_in (word ∷ words) ≡ None
    → (is_known word && list_all is_known words) ≡ true
known-by true word words is rest e = rw is (rest (rw is at e))
known-by false word words is rest e = let found : Some word ≡ None = rw is at e in absurd cc

all_known : (words : List (List ℕ)) → unknown_in words ≡ None → list_all is_known words ≡ true
all_known [] e = refl
all_known (word ∷ words) e = known-by (is_known word) word words refl (all_known words) e

pub returns-in-None-unknown_in-clause-usable : goal.returns-in-None-unknown_in-clause-usable
returns-in-None-unknown_in-clause-usable c =
    let known = all_known c.in_ok-words.words
    (sym (c.in-None-unknown_in.ensures ∙ ap unknown_in c.as_slice.ensures)) in
    let program = c.in_ok-words.ensures.program in
    rw (program, known) refl
