-- Bytes by their names.
use Rattle.std.specs.Prelude.{ℕ}

abbrev pub tab_byte : ℕ
tab_byte = 9

abbrev pub feed_byte : ℕ
feed_byte = 10

abbrev pub return_byte : ℕ
return_byte = 13

abbrev pub space_byte : ℕ
space_byte = 32

abbrev pub bang_byte : ℕ
bang_byte = 33

abbrev pub double_quote_byte : ℕ
double_quote_byte = 34

abbrev pub hash_byte : ℕ
hash_byte = 35

abbrev pub percent_byte : ℕ
percent_byte = 37

abbrev pub ampersand_byte : ℕ
ampersand_byte = 38

abbrev pub single_quote_byte : ℕ
single_quote_byte = 39

abbrev pub star_byte : ℕ
star_byte = 42

abbrev pub comma_byte : ℕ
comma_byte = 44

abbrev pub dash_byte : ℕ
dash_byte = 45

abbrev pub dot_byte : ℕ
dot_byte = 46

abbrev pub zero_byte : ℕ
zero_byte = 48

abbrev pub nine_byte : ℕ
nine_byte = 57

abbrev pub colon_byte : ℕ
colon_byte = 58

abbrev pub greater_byte : ℕ
greater_byte = 62

abbrev pub question_byte : ℕ
question_byte = 63

abbrev pub at_sign_byte : ℕ
at_sign_byte = 64

abbrev pub upper_a_byte : ℕ
upper_a_byte = 65

abbrev pub upper_z_byte : ℕ
upper_z_byte = 90

abbrev pub open_square_byte : ℕ
open_square_byte = 91

abbrev pub backslash_byte : ℕ
backslash_byte = 92

abbrev pub close_square_byte : ℕ
close_square_byte = 93

abbrev pub underscore_byte : ℕ
underscore_byte = 95

abbrev pub backquote_byte : ℕ
backquote_byte = 96

abbrev pub lower_a_byte : ℕ
lower_a_byte = 97

abbrev pub lower_n_byte : ℕ
lower_n_byte = 110

abbrev pub lower_t_byte : ℕ
lower_t_byte = 116

abbrev pub lower_z_byte : ℕ
lower_z_byte = 122

abbrev pub open_curly_byte : ℕ
open_curly_byte = 123

abbrev pub bar_byte : ℕ
bar_byte = 124

abbrev pub close_curly_byte : ℕ
close_curly_byte = 125
