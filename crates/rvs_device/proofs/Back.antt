-- What reading a signature file back comes to.
use Rattle.std.proofs.Common.{◌≡◌, ◌<◌, ◌+◌, inl, inr, ℕ, ℤ, not, nat_lt, List, length}
use Rattle.std.proofs.Common.{Option, None, zero, suc, [], ◌∷◌, arith}
use Rattle.std.proofs.Common.{Some, Ok, refl, sym, ap, ◌∙◌}
use Rattle.std.proofs.lemmas.Bool.{lt-ltb}
use Rattle.rvs_base.specs.Host.{HostState, ReadsOnly, LacksFile}
use Rattle.rvs_base.specs.File.{IsWhole, IsTooLong, ReadsAtMost}
use Rattle.rvs_device.specs.Judged.{signature_limit, verdict_on}
use Rattle.rvs_device.specs.Judging.{Verdicts}
use Rattle.rvs_device.specs.ReadBack.{ReadsBack}
use Rattle.rvs_device.specs.declared.verdicts.TestVerdict.{TestVerdict}
use Rattle.rvs_device.specs.declared.verdicts.TestVerdict.TheVariants.{NoSignature, TooLong}

quiet : {old new : HostState} (verdict : TestVerdict) → ReadsOnly old new
    → new.read_faults ≡ old.read_faults → Verdicts old new verdict
quiet verdict r same = record { reads = λ _. same; writes = r.writing; devices = r.running }

-- the file was read whole
pub back-found : (signature : List ℕ) (status : ℤ) (reference bytes : List ℕ) (old new : HostState)
    (verdict : TestVerdict) → ReadsOnly old new → IsWhole signature signature_limit old bytes
    → new.read_faults ≡ old.read_faults → ReadsAtMost 1 (signature_limit + 1) old new
    → verdict ≡ verdict_on status reference (Some bytes)
    → ReadsBack signature status reference old new (Ok verdict)
back-found signature status reference bytes old new verdict r whole same most is = record {
  reads_only = r;
  at_most = most;
  comes = record {
    of_file = λ files tells. is ∙ ap (λ (left : Option (List ℕ)). verdict_on status reference left)
        (sym (whole.whole files tells));
    of_some = (Some bytes, is);
    counts = quiet verdict r same;
  };
}

-- it isn't there
pub back-absent : (signature : List ℕ) (status : ℤ) (reference : List ℕ) (old new : HostState)
    → ReadsOnly old new → ReadsAtMost 1 (signature_limit + 1) old new
    → LacksFile signature old new
    → ReadsBack signature status reference old new (Ok (NoSignature status))
back-absent signature status reference old new r most lacks = record {
  reads_only = r;
  at_most = most;
  comes = record {
    of_file = λ files tells. ap (λ (left : Option (List ℕ)). verdict_on status reference left)
        (sym (lacks.lacks files tells));
    of_some = (None, refl);
    counts = record {
      reads = λ known. elim known [
        | inl told ↦ lacks.unfaulted told
        | inr not ↦ absurd (not status refl)
      ];
      writes = r.writing;
      devices = r.running;
    };
  };
}

long-verdict : (status : ℤ) (reference bytes : List ℕ) → signature_limit < length bytes
    → verdict_on status reference (Some bytes) ≡ TooLong status
long-verdict status reference bytes longer = simp (nat_lt, lt-ltb)

longer : (n : ℕ) → (xs : List ℕ) × (n < length xs)
longer zero = (0 ∷ [], omega arith)
longer (suc n) = let more = longer n in (0 ∷ more.0, omega (arith, more.1))

-- it is too long
pub back-long : (signature : List ℕ) (status : ℤ) (reference : List ℕ) (old new : HostState)
    → ReadsOnly old new → ReadsAtMost 1 (signature_limit + 1) old new
    → IsTooLong signature signature_limit old → new.read_faults ≡ old.read_faults
    → ReadsBack signature status reference old new (Ok (TooLong status))
back-long signature status reference old new r most long same = record {
  reads_only = r;
  at_most = most;
  comes = record {
    of_file = λ files tells.
        let file = long.longer files tells in
        sym (ap (λ (left : Option (List ℕ)). verdict_on status reference left) file.1
        ∙ long-verdict status reference file.0 file.2);
    of_some =
        let long = longer signature_limit in
        (Some long.0, sym (long-verdict status reference long.0 long.1));
    counts = quiet (TooLong status) r same;
  };
}
