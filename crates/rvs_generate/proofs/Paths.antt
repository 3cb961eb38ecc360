-- The files of tests are told apart by their names.
use Rattle.std.proofs.Common.{◌≡◌, ◌≢◌, ℕ, Bool, true, false, List, ◌++◌, append_assoc, Option}
use Rattle.std.proofs.Common.{Some, if◌then◌else◌, codes, bytes_eq, slice_get, refl, sym, ap, ◌∙◌}
use Rattle.std.proofs.Common.{arith, ◌-◌, length, take}
use mathlib.Core.List.{reverse}
use Rattle.std.proofs.lemmas.List.{append_cancel_left, append_cancel_right, reverse-append}
use Rattle.std.specs.List.{ends_with}
use Rattle.std.specs.Prelude.{nat_eq}
use Rattle.std.proofs.lemmas.Bool.Decides.{Decides-eqb}
use Rattle.std.proofs.lemmas.Slice.Eq.{bytes_eq-Decides, ends_is}
use Rattle.rvs_generate.specs.Generate.{path_of}
use Rattle.rvs_reference.specs.TestRun.{NamesText}
use Rattle.rvs_generate.specs.TestFiles.{IsOther, files_of}

-- ---- one name or another
pub same-bytes : (name : List ℕ) → bytes_eq name name ≡ true
same-bytes name = (bytes_eq-Decides name name).1 refl

pub other-bytes : (one other : List ℕ) → one ≢ other → bytes_eq one other ≡ false
other-bytes one other differ = by (bytes_eq one other) refl
  where
    by : (b : Bool) → bytes_eq one other ≡ b → bytes_eq one other ≡ false
    by true is = absurd (differ ((bytes_eq-Decides one other).0 is))
    by false is = is

pub found-in : (b : Bool) (x y : Option (List ℕ)) → b ≡ true → (if b then x else y) ≡ x
found-in b x y e = rw e refl

pub passed-by : (b : Bool) (x y : Option (List ℕ)) → b ≡ false → (if b then x else y) ≡ y
passed-by b x y e = rw e refl

-- ---- files of a folder, by their names and what these end with
abbrev in-folder : List ℕ → List ℕ → List ℕ → List ℕ
in-folder work name ending = work ++ (codes "/" ++ (name ++ ending))

pub same-ending : (work a b ending : List ℕ) → a ≢ b
    → in-folder work a ending ≢ in-folder work b ending
same-ending work a b ending apart same = apart (append_cancel_right a b ending
    (append_cancel_left (codes "/") (a ++ ending) (b ++ ending) (append_cancel_left work
    (codes "/" ++ (a ++ ending)) (codes "/" ++ (b ++ ending)) same)))

backwards : (work name ending : List ℕ)
    → reverse (in-folder work name ending) ≡ reverse ending ++ reverse (work ++ (codes "/" ++ name))
backwards work name ending = ap reverse (sym (append_assoc work (codes "/" ++ name) ending))
    ∙ reverse-append (work ++ (codes "/" ++ name)) ending

-- two endings that differ at this place from their end
other-ending : (work a b one other : List ℕ) (k x y : ℕ)
    → ((rest : List ℕ) → slice_get (reverse one ++ rest) k ≡ Some x)
    → ((rest : List ℕ) → slice_get (reverse other ++ rest) k ≡ Some y) → x ≢ y
    → in-folder work a one ≢ in-folder work b other
other-ending work a b one other k x y first second differ same =
    let both : Some x ≡ Some y = sym (first (reverse (work ++ (codes "/" ++ a))))
    ∙ ap (λ (xs : List ℕ). slice_get xs k) (sym (backwards work a one) ∙ ap reverse same
    ∙ backwards work b other)
    ∙ second (reverse (work ++ (codes "/" ++ b))) in
    let no : x ≡ y = cc in
    differ no

-- the name of a test is that of assembler text
not-ending : (work name ending : List ℕ) (y : ℕ)
    → ((rest : List ℕ) → slice_get (reverse ending ++ rest) 0 ≡ Some y) → 83 ≢ y
    → ends_with nat_eq (path_of work name) ending ≡ false
not-ending work name ending y last differ = by (ends_with nat_eq (path_of work name) ending) refl
  where
    by : (b : Bool) → ends_with nat_eq (path_of work name) ending ≡ b → b ≡ false
    by false is = refl
    by true is =
        let path = path_of work name in
        let front = take (length path - length ending) path in
        let same = (ends_is Decides-eqb path ending (ends_with nat_eq path ending) refl).0 is in
        let both : Some 83 ≡ Some y = ap (λ (xs : List ℕ). slice_get xs 0)
        (sym (backwards work name (codes ".S")) ∙ ap reverse same ∙ reverse-append front ending)
        ∙ last (reverse front) in
        let no : 83 ≡ y = cc in absurd (differ no)

pub names-text : (work name : List ℕ) → NamesText (path_of work name)
names-text work name = (
  not-ending work name (codes ".img") 103 (λ rest. refl) (λ same. omega (arith, same)),
  not-ending work name (codes ".elf") 102 (λ rest. refl) (λ same. omega (arith, same)),
)

pub not-reference : (work a b : List ℕ) → path_of work a ≢ (files_of work b).reference
not-reference work a b = other-ending work a b (codes ".S") (codes ".reference.sig") 0 83 103
    (λ rest. refl) (λ rest. refl) (λ same. omega (arith, same))

pub not-executable : (work a b : List ℕ) → path_of work a ≢ (files_of work b).executable
not-executable work a b = other-ending work a b (codes ".S") (codes ".elf") 0 83 102
    (λ rest. refl) (λ rest. refl) (λ same. omega (arith, same))

pub reference-not-executable : (work a b : List ℕ)
    → (files_of work a).reference ≢ (files_of work b).executable
reference-not-executable work a b =
    other-ending work a b (codes ".reference.sig") (codes ".elf") 0 103 102
    (λ rest. refl) (λ rest. refl) (λ same. omega (arith, same))

pub device-not-executable : (work a b : List ℕ)
    → (files_of work a).device ≢ (files_of work b).executable
device-not-executable work a b =
    other-ending work a b (codes ".device.sig") (codes ".elf") 0 103 102
    (λ rest. refl) (λ rest. refl) (λ same. omega (arith, same))

pub not-device : (work a b : List ℕ) → path_of work a ≢ (files_of work b).device
not-device work a b = other-ending work a b (codes ".S") (codes ".device.sig") 0 83 103
    (λ rest. refl) (λ rest. refl) (λ same. omega (arith, same))

pub apart-signatures : (work a b : List ℕ) → (files_of work a).reference ≢ (files_of work b).device
apart-signatures work a b =
    other-ending work a b (codes ".reference.sig") (codes ".device.sig") 6 110 105
    (λ rest. refl) (λ rest. refl) (λ same. omega (arith, same))

-- the files of a label are none of another's
pub test-other : (wants : Bool) (work a b : List ℕ) → a ≢ b
    → IsOther wants (files_of work b) (files_of work a).test
test-other wants work a b apart = record {
  test = same-ending work a b (codes ".S") apart;
  executable = λ wanted. not-executable work a b;
  reference = not-reference work a b;
  device = not-device work a b;
}

pub executable-other : (wants : Bool) (work a b : List ℕ) → a ≢ b
    → IsOther wants (files_of work b) (files_of work a).executable
executable-other wants work a b apart = record {
  test = λ same. not-executable work b a (sym same);
  executable = λ wanted. same-ending work a b (codes ".elf") apart;
  reference = λ same. reference-not-executable work b a (sym same);
  device = λ same. device-not-executable work b a (sym same);
}

pub reference-other : (wants : Bool) (work a b : List ℕ) → a ≢ b
    → IsOther wants (files_of work b) (files_of work a).reference
reference-other wants work a b apart = record {
  test = λ same. not-reference work b a (sym same);
  executable = λ wanted. reference-not-executable work a b;
  reference = same-ending work a b (codes ".reference.sig") apart;
  device = apart-signatures work a b;
}

pub device-other : (wants : Bool) (work a b : List ℕ) → a ≢ b
    → IsOther wants (files_of work b) (files_of work a).device
device-other wants work a b apart = record {
  test = λ same. not-device work b a (sym same);
  executable = λ wanted. device-not-executable work a b;
  reference = λ same. apart-signatures work b a (sym same);
  device = same-ending work a b (codes ".device.sig") apart;
}
