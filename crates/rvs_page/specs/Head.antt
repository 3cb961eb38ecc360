-- The head of a page: its title, the verdict, and numbers.
use Rattle.std.specs.Prelude.{ℕ, ◌==◌, ◌++◌, Bool, true, false, if◌then◌else◌, List, [], ◌∷◌, codes}
use Rattle.std.specs.Prelude.{Option, Some, None}
use Rattle.rvs_page.specs.Pieces.{told}
use Rattle.rvs_page.specs.Style.{style}
use Rattle.rvs_page.specs.declared.pieces.Piece.TheVariants.{Html, Text, Number, Word}
use Rattle.rvs_page.specs.declared.shown.Verdict.{Verdict}
use Rattle.rvs_page.specs.declared.shown.Verdict.TheVariants as verdict
use Rattle.rvs_page.specs.declared.shown.Page.{Page}
use Rattle.rvs_page.specs.declared.totals.Totals.{Totals}

abbrev pub verdict_word : Verdict → List ℕ
verdict_word verdict.Pass = codes "PASS"
verdict_word verdict.Incomplete = codes "INCOMPLETE"
verdict_word verdict.Fail = codes "FAIL"

abbrev pub verdict_class : Verdict → List ℕ
verdict_class verdict.Pass = codes "ok"
verdict_class verdict.Incomplete = codes "no"
verdict_class verdict.Fail = codes "bad"

-- up to the style
unfoldable pub title_text : Verdict → Page → List ℕ
title_text v page =
    told (Html (codes "<!DOCTYPE html>\n<html lang=\"en\">\n<head>\n<meta charset=\"utf-8\">\n")
    ∷ Html (codes "<meta name=\"viewport\" content=\"width=device-width, initial-scale=1\">\n")
    ∷ Html (codes "<meta name=\"color-scheme\" content=\"light dark\">\n<title>rvsuite: ")
    ∷ Html (verdict_word v) ∷ Html (codes ", ") ∷ Text page.device ∷ Html (codes ", ")
    ∷ Text page.core.isa ∷ Html (codes "</title>\n<style>\n") ∷ [])

abbrev pub truth : Bool → List ℕ
truth true = codes "true"
truth false = codes "false"

-- the verdict, the device and the core
unfoldable pub header_text : Verdict → Page → List ℕ
header_text v page =
    told (Html (codes "</style>\n</head>\n<body>\n<main>\n<header>\n<p class=\"verdict ")
    ∷ Html (verdict_class v) ∷ Html (codes "\">") ∷ Html (verdict_word v)
    ∷ Html (codes "</p>\n<div>\n<h1>") ∷ Text page.device ∷ Html (codes "</h1>\n<p>")
    ∷ Text page.core.isa ∷ Html (codes ", misaligned data ") ∷ Html (truth page.core.misaligned)
    ∷ Html (codes ", ") ∷ Number page.core.address_bits ∷ Html (codes " address bits, misa 0x")
    ∷ Word page.core.misa ∷ Html (codes "</p>\n</div>\n</header>\n") ∷ [])

unfoldable pub head_text : Verdict → Page → List ℕ
head_text v page = title_text v page ++ (style ++ header_text v page)

-- a number with its word; the last is the class of it, or nothing
unfoldable pub tile : ℕ → List ℕ → List ℕ → List ℕ
tile number word class =
    told (Html (codes "<div") ∷ Html class ∷ Html (codes "><strong>") ∷ Number number
    ∷ Html (codes "</strong><span>") ∷ Html word ∷ Html (codes "</span></div>\n") ∷ [])

-- a class where the number isn't 0
abbrev pub class_if : ℕ → List ℕ → List ℕ
class_if number class = if number == 0 then [] else class

unfoldable pub marked_tile : ℕ → List ℕ → List ℕ → List ℕ
marked_tile number word class = tile number word (class_if number class)

unfoldable pub test_tiles : Totals → List ℕ
test_tiles t =
    tile t.tests (codes "tests") []
    ++ (tile t.passed (codes "pass") (codes " class=\"ok\"")
    ++ (marked_tile t.failed (codes "fail") (codes " class=\"bad\"")
    ++ marked_tile t.open_tests (codes "not run") (codes " class=\"no\"")))

unfoldable pub point_tiles : Totals → List ℕ
point_tiles t =
    tile t.tested (codes "points tested") []
    ++ (tile t.unsolved (codes "unsolved") [] ++ tile t.skipped (codes "skipped") [])

-- where logs are given: how many instructions they have, and how many points these hit
unfoldable pub log_tiles : Option ℕ → Totals → List ℕ
log_tiles None t = []
log_tiles (Some instructions) t =
    tile instructions (codes "instructions") [] ++ tile t.hit (codes "points hit") []

unfoldable pub tiles_text : Option ℕ → Totals → List ℕ
tiles_text instructions t =
    told (Html (codes "<section class=\"tiles\">\n") ∷ [])
    ++ (test_tiles t ++ (point_tiles t
    ++ (log_tiles instructions t ++ told (Html (codes "</section>\n") ∷ []))))
