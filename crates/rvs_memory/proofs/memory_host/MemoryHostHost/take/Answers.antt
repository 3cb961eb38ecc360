use Rattle.std.proofs.Common.{◌≡◌, Some, ◌+◌, drop, get_or, [], refl, sym, ◌∙◌, ap, arith, rules}
use Rattle.std.proofs.lemmas.List.{drop-drop}
use Rattle.rvs_memory.specs.Cursor.{rest_of}
use Rattle.rvs_memory.proofs.Telling.{takes}
use Rattle.rvs_memory.proofs.memory_host.MemoryHostHost.take.Goals as goal

pub returns-clause-taken : goal.returns-clause-taken
returns-clause-taken c =
    let count = c.copy_front-count.result in
    let bytes = (get_or c.self.inside.files c.in-Some.cursor.file ([], [])).1 in
    let left : c.rest.result.now ≡ drop c.in-Some.cursor.taken bytes =
    c.rest.ensures.value ∙ ap (λ fs. rest_of fs (Some c.in-Some.cursor)) c.as_slice.ensures in
    let viewed : rest_of c.self.inside.files c.self.inside.cursor ≡ c.args.self.now.rest =
    ap (λ s. s.rest) c.self.view_is ∙ ap (λ s. s.rest) c.begins_to_fail.ensures.counted in
    let was : c.args.self.now.rest ≡ c.rest.result.now =
    sym viewed ∙ ap (rest_of c.self.inside.files) c.in-Some.is ∙ sym left in
    let now : drop count c.rest.result.now ≡ drop (c.in-Some.cursor.taken + count) bytes =
    ap (drop count) left ∙ drop-drop count c.in-Some.cursor.taken bytes in
    takes c.args.self.now _ c.copy_front-count.new.to c.rest.result.now count was refl
    (ap Some (sym now))
    (omega (arith, c.copy_front-count.ensures.count, c.copy_front-count.auto.to))
    (omega (arith, c.requires.room, c.copy_front-count.auto.to))
    c.copy_front-count.ensures.front (search rules) (search rules)
