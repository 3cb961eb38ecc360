use Rattle.std.proofs.Common.{refl}
use Rattle.rvs_page.proofs.Telling.{more-told, all-told}
use Rattle.rvs_page.specs.Escape.{mark}
use Rattle.rvs_page.proofs.escape.push_escaped.Goals as goal

pub loop-byte-preserved : goal.loop-byte-preserved
loop-byte-preserved c =
    more-told mark c.loop-byte.page.items c.args.text.now _ c.loop-byte-test.true
    refl c.in_ok-push_byte.ensures c.loop-byte.invariant

pub returns : goal.returns
returns c =
    all-told mark c.loop-byte.page.items c.args.text.now c.loop-byte-test.false
    c.loop-byte.invariant
