-- What the readers of a command line answer.
use Rattle.std.specs.Prelude.{◌≡◌, Option, Some, None, Result, Ok, Err}
use Rattle.rvs_words.specs.declared.unread.Unread.{Unread}
use Rattle.rvs_words.specs.declared.unread.Unread.TheVariants.{NoCommand}

-- the value that the words give; `NoCommand` where they give none, and want of memory at any time
abbrev pub Answers : {A : Type 0} → Result A Unread → Option A → Type 0
Answers (Ok a) given = given ≡ Some a
Answers (Err e) given = e ≡ NoCommand → given ≡ None
