-- Windows of addresses on the command line.
use Rattle.std.specs.Prelude.{ℕ, ◌+◌, ◌==◌, ◌&&◌, nat_le, nat_lt, if◌then◌else◌, List, [], ◌∷◌}
use Rattle.std.specs.Prelude.{length, take, drop, position, Option, Some, None}
use Rattle.std.specs.Option.{option_map, option_and_then}
use Rattle.rvs_base.specs.Digits.{short_number}
use Rattle.rvs_base.specs.declared.asked.Window.{Window}

-- an address: `0x` and one to eight hexadecimal digits
abbrev pub address_of : List ℕ → Option ℕ
address_of (first ∷ second ∷ digits) = if first == 48 && second == 120 then short_number 8 16 digits
    else None
address_of text = None

abbrev pub window_between : ℕ → ℕ → Option Window
window_between lo hi = if nat_lt lo hi then Some (record { lo = lo; hi = hi }) else None

abbrev pub window_at : List ℕ → ℕ → Option Window
window_at text at = option_and_then
    (λ lo. option_and_then (λ hi. window_between lo hi) (address_of (drop (at + 1) text)))
    (address_of (take at text))

-- a window: two addresses, the first below the second, with a colon between
unfoldable pub window_of : List ℕ → Option Window
window_of text = option_and_then (λ at. window_at text at) (position (λ byte. byte == 58) text)

abbrev pub with_window : Option Window → Option (List Window) → Option (List Window)
with_window None windows = None
with_window (Some window) windows = option_map (λ ws. window ∷ ws) windows

abbrev pub all_windows : List (List ℕ) → Option (List Window)
all_windows [] = Some []
all_windows (text ∷ texts) = with_window (window_of text) (all_windows texts)

-- as many windows as texts, and no more than 16
abbrev pub windows_of : List (List ℕ) → Option (List Window)
windows_of texts = if nat_le (length texts) 16 then all_windows texts else None
