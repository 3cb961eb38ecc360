-- When an ISA file is refused, and what `validate` puts.
use Rattle.std.specs.Prelude.{◌≡◌, ◌≤◌, ◌⊎◌, ℕ, List, length, Some, None, Ok, Err}
use Rattle.rvs_base.specs.Host.{Files}
use Rattle.rvs_base.specs.Sink.{SinkState, appended}
use Rattle.rvs_plan.specs.Refusing.{input_text}
use Rattle.rvs_tree.specs.Data.{Data}
use Rattle.rvs_yaml.specs.Parsed.{answer}
use Rattle.rvs_yaml_text.specs.declared.kind.YamlKind.{YamlKind}
use Rattle.rvs_isa.specs.Check.{checked}
use Rattle.rvs_isa.specs.Print.{checked_text, refusal_text}
use Rattle.rvs_isa.specs.declared.accepted_spec.AcceptedSpec.{AcceptedSpec}
use Rattle.rvs_isa.specs.declared.refusal.IsaRefusal.{IsaRefusal}
use Rattle.rvs_promises.specs.Says.{Says}
use Rattle.rvs_uses.specs.Limits.{PassesLimit}
use Rattle.rvs_inputs.specs.Specification.{isa_limit, yaml_text}

-- the file is within its limit and has no tree, for the first fault in it
pub record HasNoTree (name bytes text : List ℕ) : Type 0 where
  pub within : length bytes ≤ isa_limit
  pub line : ℕ
  pub kind : YamlKind
  pub fault : answer bytes ≡ Err (line, kind)
  pub text_is : text ≡ yaml_text name line kind

-- the file is within its limit and has a tree, and a check fails
pub record FailsCheck (name bytes text : List ℕ) : Type 0 where
  pub within : length bytes ≤ isa_limit
  pub tree : Data
  pub has_tree : answer bytes ≡ Ok tree
  pub refusal : IsaRefusal
  pub failed : checked tree ≡ Err refusal
  pub text_is : text ≡ input_text name (refusal_text refusal)

-- the named file is there and is refused, for the reason that this text says
pub record IsRefused (files : Files) (name text : List ℕ) : Type 0 where
  pub bytes : List ℕ
  pub there : files name ≡ Some bytes
  pub reason : PassesLimit isa_limit name bytes text ⊎ HasNoTree name bytes text
      ⊎ FailsCheck name bytes text

-- the file is accepted, and the output has the text of what it says
pub record Validates (files : Files) (isa : List ℕ) (out out' : SinkState) : Type 0 where
  pub said : AcceptedSpec
  pub says : Says files isa said
  pub printed : out'.bytes ≡ appended out.bytes (checked_text said)

-- it isn't there; this is its name
abbrev pub IsMissing : Files → List ℕ → List ℕ → Type 0
IsMissing files isa name = (name ≡ isa) × (files isa ≡ None)
