-- What was read of a line.
use Rattle.std.specs.Prelude.{◌≡◌, ℕ, List}
use Rattle.rvs_insn.specs.Fields.{insn_of_word}
use Rattle.rvs_log.specs.Grammar.{Reading, Says, Writes, Nothing}
use Rattle.rvs_log.specs.declared.reading.Line.{Line}
use Rattle.rvs_log.specs.declared.reading.Line.TheVariants.{Insn, Commit, Other}

abbrev pub said : Line → Reading
said (Insn r) = Says r.pc r.word r.commit
said (Commit w) = Writes w
said Other = Nothing

-- a record borrows this line
abbrev pub IsOf : List ℕ → Line → Type 0
IsOf line (Insn r) = r.line.now ≡ line
IsOf line (Commit w) = Unit {0}
IsOf line Other = Unit {0}

-- its instruction is that of its word
abbrev pub IsDecoded : Line → Type 0
IsDecoded (Insn r) = r.insn ≡ insn_of_word r.word
IsDecoded (Commit w) = Unit {0}
IsDecoded Other = Unit {0}
