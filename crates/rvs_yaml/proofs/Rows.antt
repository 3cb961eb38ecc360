-- The definition computes the worked rows.
use Rattle.std.proofs.Common.{◌≡◌, [], ◌∷◌, Ok, Err, refl}
use Rattle.std.specs.Str.{is_utf8, chars}
use lib.Utf8.{encode}
use Rattle.rvs_yaml.specs.Parsed.{answer}
use Rattle.rvs_tree.specs.Data.{scalar, sequence, mapping, no_items, item, no_entries, entry}
use Rattle.rvs_yaml_text.specs.declared.kind.YamlKind.TheVariants.{TabIndent, BadIndent, BadScalar}
use Rattle.rvs_yaml_text.specs.declared.kind.YamlKind.TheVariants.{BadFlow, DuplicateKey}
use Rattle.rvs_yaml_text.specs.declared.kind.YamlKind.TheVariants.{UnknownAlias, BadMerge}
use Rattle.rvs_yaml_text.specs.declared.kind.YamlKind.TheVariants.{Unsupported}

-- 'x: 1\n"a\\q": 2\n'
row1 : answer (120 ∷ 58 ∷ 32 ∷ 49 ∷ 10 ∷ 34 ∷ 97 ∷ 92 ∷ 113 ∷ 34 ∷ 58 ∷ 32 ∷ 50 ∷ 10 ∷ [])
    ≡ Err (2, BadIndent)
unfolding is_utf8 chars encode
row1 = refl

-- 'x: 1\n[a]: b\n'
row2 : answer (120 ∷ 58 ∷ 32 ∷ 49 ∷ 10 ∷ 91 ∷ 97 ∷ 93 ∷ 58 ∷ 32 ∷ 98 ∷ 10 ∷ []) ≡ Err (2, BadIndent)
unfolding is_utf8 chars encode
row2 = refl

-- '"a\\q": 2\n'
row3 : answer (34 ∷ 97 ∷ 92 ∷ 113 ∷ 34 ∷ 58 ∷ 32 ∷ 50 ∷ 10 ∷ []) ≡ Err (1, BadScalar)
unfolding is_utf8 chars encode
row3 = refl

-- '&x a\n'
row4 : answer (38 ∷ 120 ∷ 32 ∷ 97 ∷ 10 ∷ []) ≡ Err (1, BadScalar)
unfolding is_utf8 chars encode
row4 = refl

-- '&x\na: 1\n'
row5 : answer (38 ∷ 120 ∷ 10 ∷ 97 ∷ 58 ∷ 32 ∷ 49 ∷ 10 ∷ []) ≡ Err (1, BadScalar)
unfolding is_utf8 chars encode
row5 = refl

-- 'a:\n  &x b\n'
row6 : answer (97 ∷ 58 ∷ 10 ∷ 32 ∷ 32 ∷ 38 ∷ 120 ∷ 32 ∷ 98 ∷ 10 ∷ []) ≡ Err (2, BadScalar)
unfolding is_utf8 chars encode
row6 = refl

-- '- &x - a\n'
row7 : answer (45 ∷ 32 ∷ 38 ∷ 120 ∷ 32 ∷ 45 ∷ 32 ∷ 97 ∷ 10 ∷ []) ≡ Err (1, BadScalar)
unfolding is_utf8 chars encode
row7 = refl

-- '- &x a\n   b\n'
row8 : answer (45 ∷ 32 ∷ 38 ∷ 120 ∷ 32 ∷ 97 ∷ 10 ∷ 32 ∷ 32 ∷ 32 ∷ 98 ∷ 10 ∷ [])
    ≡ Err (2, Unsupported)
unfolding is_utf8 chars encode
row8 = refl

-- 'a: &x &y b\n'
row9 : answer (97 ∷ 58 ∷ 32 ∷ 38 ∷ 120 ∷ 32 ∷ 38 ∷ 121 ∷ 32 ∷ 98 ∷ 10 ∷ []) ≡ Err (1, BadScalar)
unfolding is_utf8 chars encode
row9 = refl

-- 'a: &x\n- *x\n'
row10 : answer (97 ∷ 58 ∷ 32 ∷ 38 ∷ 120 ∷ 10 ∷ 45 ∷ 32 ∷ 42 ∷ 120 ∷ 10 ∷ []) ≡ Err (2, UnknownAlias)
unfolding is_utf8 chars encode
row10 = refl

-- '\t# c\n'
row11 : answer (9 ∷ 35 ∷ 32 ∷ 99 ∷ 10 ∷ []) ≡ Err (1, TabIndent)
unfolding is_utf8 chars encode
row11 = refl

-- '- \ta\n'
row12 : answer (45 ∷ 32 ∷ 9 ∷ 97 ∷ 10 ∷ []) ≡ Err (1, TabIndent)
unfolding is_utf8 chars encode
row12 = refl

-- "'a'\t\n"
row13 : answer (39 ∷ 97 ∷ 39 ∷ 9 ∷ 10 ∷ []) ≡ Err (1, BadScalar)
unfolding is_utf8 chars encode
row13 = refl

-- '...\n'
row14 : answer (46 ∷ 46 ∷ 46 ∷ 10 ∷ []) ≡ Err (1, Unsupported)
unfolding is_utf8 chars encode
row14 = refl

-- '---\na: 1\n---\nb: 2\n'
row15 : answer
    (45 ∷ 45 ∷ 45 ∷ 10 ∷ 97 ∷ 58 ∷ 32 ∷ 49 ∷ 10 ∷ 45 ∷ 45 ∷ 45 ∷ 10 ∷ 98 ∷ 58 ∷ 32 ∷ 50 ∷ 10 ∷ [])
    ≡ Err (3, Unsupported)
unfolding is_utf8 chars encode
row15 = refl

-- 'a: -\n'
row16 : answer (97 ∷ 58 ∷ 32 ∷ 45 ∷ 10 ∷ []) ≡ Err (1, BadScalar)
unfolding is_utf8 chars encode
row16 = refl

-- 'a: :\n'
row17 : answer (97 ∷ 58 ∷ 32 ∷ 58 ∷ 10 ∷ []) ≡ Err (1, BadScalar)
unfolding is_utf8 chars encode
row17 = refl

-- 'a: ?\n'
row18 : answer (97 ∷ 58 ∷ 32 ∷ 63 ∷ 10 ∷ []) ≡ Err (1, BadScalar)
unfolding is_utf8 chars encode
row18 = refl

-- 'a: ? b\n'
row19 : answer (97 ∷ 58 ∷ 32 ∷ 63 ∷ 32 ∷ 98 ∷ 10 ∷ []) ≡ Err (1, Unsupported)
unfolding is_utf8 chars encode
row19 = refl

-- '[- a]\n'
row20 : answer (91 ∷ 45 ∷ 32 ∷ 97 ∷ 93 ∷ 10 ∷ []) ≡ Err (1, BadScalar)
unfolding is_utf8 chars encode
row20 = refl

-- '[a:]\n'
row21 : answer (91 ∷ 97 ∷ 58 ∷ 93 ∷ 10 ∷ []) ≡ Err (1, BadScalar)
unfolding is_utf8 chars encode
row21 = refl

-- '[:]\n'
row22 : answer (91 ∷ 58 ∷ 93 ∷ 10 ∷ []) ≡ Err (1, BadScalar)
unfolding is_utf8 chars encode
row22 = refl

-- '[a:\n'
row23 : answer (91 ∷ 97 ∷ 58 ∷ 10 ∷ []) ≡ Err (1, BadScalar)
unfolding is_utf8 chars encode
row23 = refl

-- '{a:}\n'
row24 : answer (123 ∷ 97 ∷ 58 ∷ 125 ∷ 10 ∷ []) ≡ Err (1, BadFlow)
unfolding is_utf8 chars encode
row24 = refl

-- '{a}\n'
row25 : answer (123 ∷ 97 ∷ 125 ∷ 10 ∷ []) ≡ Err (1, BadFlow)
unfolding is_utf8 chars encode
row25 = refl

-- '{a: }\n'
row26 : answer (123 ∷ 97 ∷ 58 ∷ 32 ∷ 125 ∷ 10 ∷ []) ≡ Err (1, BadFlow)
unfolding is_utf8 chars encode
row26 = refl

-- '[a:}\n'
row27 : answer (91 ∷ 97 ∷ 58 ∷ 125 ∷ 10 ∷ []) ≡ Err (1, BadFlow)
unfolding is_utf8 chars encode
row27 = refl

-- '{[a]: b}\n'
row28 : answer (123 ∷ 91 ∷ 97 ∷ 93 ∷ 58 ∷ 32 ∷ 98 ∷ 125 ∷ 10 ∷ []) ≡ Err (1, Unsupported)
unfolding is_utf8 chars encode
row28 = refl

-- '{{}: b}\n'
row29 : answer (123 ∷ 123 ∷ 125 ∷ 58 ∷ 32 ∷ 98 ∷ 125 ∷ 10 ∷ []) ≡ Err (1, Unsupported)
unfolding is_utf8 chars encode
row29 = refl

-- '{*a : b}\n'
row30 : answer (123 ∷ 42 ∷ 97 ∷ 32 ∷ 58 ∷ 32 ∷ 98 ∷ 125 ∷ 10 ∷ []) ≡ Err (1, BadScalar)
unfolding is_utf8 chars encode
row30 = refl

-- "['a' b]\n"
row31 : answer (91 ∷ 39 ∷ 97 ∷ 39 ∷ 32 ∷ 98 ∷ 93 ∷ 10 ∷ []) ≡ Err (1, BadScalar)
unfolding is_utf8 chars encode
row31 = refl

-- "['a'\n"
row32 : answer (91 ∷ 39 ∷ 97 ∷ 39 ∷ 10 ∷ []) ≡ Err (1, BadFlow)
unfolding is_utf8 chars encode
row32 = refl

-- "['a'}\n"
row33 : answer (91 ∷ 39 ∷ 97 ∷ 39 ∷ 125 ∷ 10 ∷ []) ≡ Err (1, BadFlow)
unfolding is_utf8 chars encode
row33 = refl

-- "{'a':b}\n"
row34 : answer (123 ∷ 39 ∷ 97 ∷ 39 ∷ 58 ∷ 98 ∷ 125 ∷ 10 ∷ []) ≡ Err (1, BadFlow)
unfolding is_utf8 chars encode
row34 = refl

-- "'a':b\n"
row35 : answer (39 ∷ 97 ∷ 39 ∷ 58 ∷ 98 ∷ 10 ∷ []) ≡ Err (1, BadScalar)
unfolding is_utf8 chars encode
row35 = refl

-- '*\n'
row36 : answer (42 ∷ 10 ∷ []) ≡ Err (1, BadScalar)
unfolding is_utf8 chars encode
row36 = refl

-- 'a: &\n'
row37 : answer (97 ∷ 58 ∷ 32 ∷ 38 ∷ 10 ∷ []) ≡ Err (1, BadScalar)
unfolding is_utf8 chars encode
row37 = refl

-- '[*]\n'
row38 : answer (91 ∷ 42 ∷ 93 ∷ 10 ∷ []) ≡ Err (1, BadFlow)
unfolding is_utf8 chars encode
row38 = refl

-- '[&\n'
row39 : answer (91 ∷ 38 ∷ 10 ∷ []) ≡ Err (1, Unsupported)
unfolding is_utf8 chars encode
row39 = refl

-- 'a: 0\nb: 0\na: 1\n'
row40 : answer (97 ∷ 58 ∷ 32 ∷ 48 ∷ 10 ∷ 98 ∷ 58 ∷ 32 ∷ 48 ∷ 10 ∷ 97 ∷ 58 ∷ 32 ∷ 49 ∷ 10 ∷ [])
    ≡ Err (3, DuplicateKey)
unfolding is_utf8 chars encode
row40 = refl

-- 'a:\n\tb: 0\n'
row41 : answer (97 ∷ 58 ∷ 10 ∷ 9 ∷ 98 ∷ 58 ∷ 32 ∷ 48 ∷ 10 ∷ []) ≡ Err (2, TabIndent)
unfolding is_utf8 chars encode
row41 = refl

-- 'a: *z\n'
row42 : answer (97 ∷ 58 ∷ 32 ∷ 42 ∷ 122 ∷ 10 ∷ []) ≡ Err (1, UnknownAlias)
unfolding is_utf8 chars encode
row42 = refl

-- '{<<: x, b: [}\n'
row43 : answer (123 ∷ 60 ∷ 60 ∷ 58 ∷ 32 ∷ 120 ∷ 44 ∷ 32 ∷ 98 ∷ 58 ∷ 32 ∷ 91 ∷ 125 ∷ 10 ∷ [])
    ≡ Err (1, BadFlow)
unfolding is_utf8 chars encode
row43 = refl

-- '<<: 5\n'
row44 : answer (60 ∷ 60 ∷ 58 ∷ 32 ∷ 53 ∷ 10 ∷ []) ≡ Err (1, BadMerge)
unfolding is_utf8 chars encode
row44 = refl

-- '[a] b\n'
row45 : answer (91 ∷ 97 ∷ 93 ∷ 32 ∷ 98 ∷ 10 ∷ []) ≡ Err (1, BadFlow)
unfolding is_utf8 chars encode
row45 = refl

-- '[a]: b\n'
row46 : answer (91 ∷ 97 ∷ 93 ∷ 58 ∷ 32 ∷ 98 ∷ 10 ∷ []) ≡ Err (1, Unsupported)
unfolding is_utf8 chars encode
row46 = refl

-- '- a\nb\n'
row47 : answer (45 ∷ 32 ∷ 97 ∷ 10 ∷ 98 ∷ 10 ∷ []) ≡ Err (2, BadIndent)
unfolding is_utf8 chars encode
row47 = refl

-- 'a: 1\n b: 2\n'
row48 : answer (97 ∷ 58 ∷ 32 ∷ 49 ∷ 10 ∷ 32 ∷ 98 ∷ 58 ∷ 32 ∷ 50 ∷ 10 ∷ []) ≡ Err (2, Unsupported)
unfolding is_utf8 chars encode
row48 = refl

-- 'a\n b\n'
row49 : answer (97 ∷ 10 ∷ 32 ∷ 98 ∷ 10 ∷ []) ≡ Err (2, Unsupported)
unfolding is_utf8 chars encode
row49 = refl

-- 'a\nb\n'
row50 : answer (97 ∷ 10 ∷ 98 ∷ 10 ∷ []) ≡ Err (2, BadIndent)
unfolding is_utf8 chars encode
row50 = refl

-- 'a: b: c\n'
row51 : answer (97 ∷ 58 ∷ 32 ∷ 98 ∷ 58 ∷ 32 ∷ 99 ∷ 10 ∷ []) ≡ Err (1, BadScalar)
unfolding is_utf8 chars encode
row51 = refl

-- 'a: b:\n'
row52 : answer (97 ∷ 58 ∷ 32 ∷ 98 ∷ 58 ∷ 10 ∷ []) ≡ Err (1, BadScalar)
unfolding is_utf8 chars encode
row52 = refl

-- '- &x a: b\n'
row53 : answer (45 ∷ 32 ∷ 38 ∷ 120 ∷ 32 ∷ 97 ∷ 58 ∷ 32 ∷ 98 ∷ 10 ∷ []) ≡ Err (1, Unsupported)
unfolding is_utf8 chars encode
row53 = refl

-- '- - a\n   - b\n'
row54 : answer (45 ∷ 32 ∷ 45 ∷ 32 ∷ 97 ∷ 10 ∷ 32 ∷ 32 ∷ 32 ∷ 45 ∷ 32 ∷ 98 ∷ 10 ∷ [])
    ≡ Err (2, BadIndent)
unfolding is_utf8 chars encode
row54 = refl

-- 'a:\n   b: 1\n  c: 2\n'
row55 : answer
    (97 ∷ 58 ∷ 10 ∷ 32 ∷ 32 ∷ 32 ∷ 98 ∷ 58 ∷ 32 ∷ 49 ∷ 10 ∷ 32 ∷ 32 ∷ 99 ∷ 58 ∷ 32 ∷ 50 ∷ 10 ∷ [])
    ≡ Err (3, BadIndent)
unfolding is_utf8 chars encode
row55 = refl

-- '! a\n'
row56 : answer (33 ∷ 32 ∷ 97 ∷ 10 ∷ []) ≡ Err (1, Unsupported)
unfolding is_utf8 chars encode
row56 = refl

-- '[a]x\n'
row57 : answer (91 ∷ 97 ∷ 93 ∷ 120 ∷ 10 ∷ []) ≡ Err (1, BadFlow)
unfolding is_utf8 chars encode
row57 = refl

-- "a: 'x' y\n"
row58 : answer (97 ∷ 58 ∷ 32 ∷ 39 ∷ 120 ∷ 39 ∷ 32 ∷ 121 ∷ 10 ∷ []) ≡ Err (1, BadScalar)
unfolding is_utf8 chars encode
row58 = refl

-- 'a: "x\\q"\n'
row59 : answer (97 ∷ 58 ∷ 32 ∷ 34 ∷ 120 ∷ 92 ∷ 113 ∷ 34 ∷ 10 ∷ []) ≡ Err (1, BadScalar)
unfolding is_utf8 chars encode
row59 = refl

-- '{a: 1, a: 2}\n'
row60 : answer (123 ∷ 97 ∷ 58 ∷ 32 ∷ 49 ∷ 44 ∷ 32 ∷ 97 ∷ 58 ∷ 32 ∷ 50 ∷ 125 ∷ 10 ∷ [])
    ≡ Err (1, DuplicateKey)
unfolding is_utf8 chars encode
row60 = refl

-- '[a,,b]\n'
row61 : answer (91 ∷ 97 ∷ 44 ∷ 44 ∷ 98 ∷ 93 ∷ 10 ∷ []) ≡ Err (1, BadFlow)
unfolding is_utf8 chars encode
row61 = refl

-- '[,]\n'
row62 : answer (91 ∷ 44 ∷ 93 ∷ 10 ∷ []) ≡ Err (1, BadFlow)
unfolding is_utf8 chars encode
row62 = refl

-- '[&a b]\n'
row63 : answer (91 ∷ 38 ∷ 97 ∷ 32 ∷ 98 ∷ 93 ∷ 10 ∷ []) ≡ Err (1, Unsupported)
unfolding is_utf8 chars encode
row63 = refl

-- '- a: &x [1, 2]\n- *x\n- *y\n'
row64 : answer (45 ∷ 32 ∷ 97 ∷ 58 ∷ 32 ∷ 38 ∷ 120 ∷ 32 ∷ 91 ∷ 49 ∷ 44 ∷ 32 ∷ 50 ∷ 93 ∷ 10 ∷ 45 ∷ 32
    ∷ 42 ∷ 120 ∷ 10 ∷ 45 ∷ 32 ∷ 42 ∷ 121 ∷ 10 ∷ []) ≡ Err (3, UnknownAlias)
unfolding is_utf8 chars encode
row64 = refl

-- 'x: [a: b]\n'
row65 : answer (120 ∷ 58 ∷ 32 ∷ 91 ∷ 97 ∷ 58 ∷ 32 ∷ 98 ∷ 93 ∷ 10 ∷ []) ≡ Err (1, BadScalar)
unfolding is_utf8 chars encode
row65 = refl

-- 'a : b\n'
row66 : answer (97 ∷ 32 ∷ 58 ∷ 32 ∷ 98 ∷ 10 ∷ [])
    ≡ Ok (mapping (entry (97 ∷ []) (scalar (98 ∷ []) 1) (no_entries)) 1)
unfolding is_utf8 chars encode
row66 = refl

-- "'a' : b\n"
row67 : answer (39 ∷ 97 ∷ 39 ∷ 32 ∷ 58 ∷ 32 ∷ 98 ∷ 10 ∷ [])
    ≡ Ok (mapping (entry (97 ∷ []) (scalar (98 ∷ []) 1) (no_entries)) 1)
unfolding is_utf8 chars encode
row67 = refl

-- "{a : b, 'c' : d}\n"
row68 : answer (123 ∷ 97 ∷ 32 ∷ 58 ∷ 32 ∷ 98 ∷ 44 ∷ 32 ∷ 39 ∷ 99 ∷ 39 ∷ 32 ∷ 58 ∷ 32 ∷ 100 ∷ 125
    ∷ 10 ∷ []) ≡ Ok (mapping
    (entry (97 ∷ []) (scalar (98 ∷ []) 1) (entry (99 ∷ []) (scalar (100 ∷ []) 1) (no_entries))) 1)
unfolding is_utf8 chars encode
row68 = refl

-- 'a: &x 1\nb: &y *x\n'
row69 : answer (97 ∷ 58 ∷ 32 ∷ 38 ∷ 120 ∷ 32 ∷ 49 ∷ 10 ∷ 98 ∷ 58 ∷ 32 ∷ 38 ∷ 121 ∷ 32 ∷ 42 ∷ 120
    ∷ 10 ∷ []) ≡ Ok (mapping
    (entry (97 ∷ []) (scalar (49 ∷ []) 1) (entry (98 ∷ []) (scalar (49 ∷ []) 1) (no_entries))) 1)
unfolding is_utf8 chars encode
row69 = refl

-- '- &x\n  - &x 2\n- *x\n'
row70 : answer (45 ∷ 32 ∷ 38 ∷ 120 ∷ 10 ∷ 32 ∷ 32 ∷ 45 ∷ 32 ∷ 38 ∷ 120 ∷ 32 ∷ 50 ∷ 10 ∷ 45 ∷ 32 ∷ 42
    ∷ 120 ∷ 10 ∷ []) ≡ Ok (sequence (item (sequence (item (scalar (50 ∷ []) 2) (no_items)) 2)
    (item (scalar (50 ∷ []) 2) (no_items))) 1)
unfolding is_utf8 chars encode
row70 = refl

-- ' \t # c\n'
row71 : answer (32 ∷ 9 ∷ 32 ∷ 35 ∷ 32 ∷ 99 ∷ 10 ∷ []) ≡ Ok (scalar ([]) 1)
unfolding is_utf8 chars encode
row71 = refl

-- ''
row72 : answer ([]) ≡ Ok (scalar ([]) 1)
unfolding is_utf8 chars encode
row72 = refl

-- 'a: \tb\n'
row73 : answer (97 ∷ 58 ∷ 32 ∷ 9 ∷ 98 ∷ 10 ∷ [])
    ≡ Ok (mapping (entry (97 ∷ []) (scalar (9 ∷ 98 ∷ []) 1) (no_entries)) 1)
unfolding is_utf8 chars encode
row73 = refl

-- 'a:\tb\n'
row74 : answer (97 ∷ 58 ∷ 9 ∷ 98 ∷ 10 ∷ []) ≡ Ok (scalar (97 ∷ 58 ∷ 9 ∷ 98 ∷ []) 1)
unfolding is_utf8 chars encode
row74 = refl

-- ' ---\n'
row75 : answer (32 ∷ 45 ∷ 45 ∷ 45 ∷ 10 ∷ []) ≡ Ok (scalar (45 ∷ 45 ∷ 45 ∷ []) 1)
unfolding is_utf8 chars encode
row75 = refl

-- '--- a\n'
row76 : answer (45 ∷ 45 ∷ 45 ∷ 32 ∷ 97 ∷ 10 ∷ []) ≡ Ok (scalar (45 ∷ 45 ∷ 45 ∷ 32 ∷ 97 ∷ []) 1)
unfolding is_utf8 chars encode
row76 = refl

-- '---\na: 1\n'
row77 : answer (45 ∷ 45 ∷ 45 ∷ 10 ∷ 97 ∷ 58 ∷ 32 ∷ 49 ∷ 10 ∷ [])
    ≡ Ok (mapping (entry (97 ∷ []) (scalar (49 ∷ []) 2) (no_entries)) 2)
unfolding is_utf8 chars encode
row77 = refl

-- '[-]\n'
row78 : answer (91 ∷ 45 ∷ 93 ∷ 10 ∷ []) ≡ Ok (sequence (item (scalar (45 ∷ []) 1) (no_items)) 1)
unfolding is_utf8 chars encode
row78 = refl

-- '[?]\n'
row79 : answer (91 ∷ 63 ∷ 93 ∷ 10 ∷ []) ≡ Ok (sequence (item (scalar (63 ∷ []) 1) (no_items)) 1)
unfolding is_utf8 chars encode
row79 = refl

-- "<<: ''\n"
row80 : answer (60 ∷ 60 ∷ 58 ∷ 32 ∷ 39 ∷ 39 ∷ 10 ∷ []) ≡ Ok (mapping (no_entries) 1)
unfolding is_utf8 chars encode
row80 = refl

-- '- a\n-\n- b: 1\n  c: 2\n'
row81 : answer (45 ∷ 32 ∷ 97 ∷ 10 ∷ 45 ∷ 10 ∷ 45 ∷ 32 ∷ 98 ∷ 58 ∷ 32 ∷ 49 ∷ 10 ∷ 32 ∷ 32 ∷ 99 ∷ 58
    ∷ 32 ∷ 50 ∷ 10 ∷ []) ≡ Ok (sequence (item (scalar (97 ∷ []) 1) (item (scalar ([]) 2) (item
    (mapping
    (entry (98 ∷ []) (scalar (49 ∷ []) 3) (entry (99 ∷ []) (scalar (50 ∷ []) 4) (no_entries))) 3)
    (no_items)))) 1)
unfolding is_utf8 chars encode
row81 = refl

-- 'a:\n- x\n- y\nb: \'it\'\'s\'\r\nc: "q\\"\\n"\r\n'
row82 : answer (97 ∷ 58 ∷ 10 ∷ 45 ∷ 32 ∷ 120 ∷ 10 ∷ 45 ∷ 32 ∷ 121 ∷ 10 ∷ 98 ∷ 58 ∷ 32 ∷ 39 ∷ 105
    ∷ 116 ∷ 39 ∷ 39 ∷ 115 ∷ 39 ∷ 13 ∷ 10 ∷ 99 ∷ 58 ∷ 32 ∷ 34 ∷ 113 ∷ 92 ∷ 34 ∷ 92 ∷ 110 ∷ 34 ∷ 13
    ∷ 10 ∷ []) ≡ Ok (mapping (entry (97 ∷ []) (sequence
    (item (scalar (120 ∷ []) 2) (item (scalar (121 ∷ []) 3) (no_items))) 2) (entry (98 ∷ [])
    (scalar (105 ∷ 116 ∷ 39 ∷ 115 ∷ []) 4)
    (entry (99 ∷ []) (scalar (113 ∷ 34 ∷ 10 ∷ []) 5) (no_entries)))) 1)
unfolding is_utf8 chars encode
row82 = refl

-- '[a, b, ] # c\n'
row83 : answer (91 ∷ 97 ∷ 44 ∷ 32 ∷ 98 ∷ 44 ∷ 32 ∷ 93 ∷ 32 ∷ 35 ∷ 32 ∷ 99 ∷ 10 ∷ [])
    ≡ Ok (sequence (item (scalar (97 ∷ []) 1) (item (scalar (98 ∷ []) 1) (no_items))) 1)
unfolding is_utf8 chars encode
row83 = refl

-- '{<<: {<<: {}}}\n'
row84 : answer (123 ∷ 60 ∷ 60 ∷ 58 ∷ 32 ∷ 123 ∷ 60 ∷ 60 ∷ 58 ∷ 32 ∷ 123 ∷ 125 ∷ 125 ∷ 125 ∷ 10 ∷ [])
    ≡ Ok (mapping (no_entries) 1)
unfolding is_utf8 chars encode
row84 = refl

-- '{<<: {k: 1, j: 2}, k: 3}\n'
row85 : answer (123 ∷ 60 ∷ 60 ∷ 58 ∷ 32 ∷ 123 ∷ 107 ∷ 58 ∷ 32 ∷ 49 ∷ 44 ∷ 32 ∷ 106 ∷ 58 ∷ 32 ∷ 50
    ∷ 125 ∷ 44 ∷ 32 ∷ 107 ∷ 58 ∷ 32 ∷ 51 ∷ 125 ∷ 10 ∷ []) ≡ Ok (mapping
    (entry (106 ∷ []) (scalar (50 ∷ []) 1) (entry (107 ∷ []) (scalar (51 ∷ []) 1) (no_entries))) 1)
unfolding is_utf8 chars encode
row85 = refl

-- 'a: &a\n  x1: 0\n  x2: 1\nb: &b\n  x2: 2\n  x3: 3\nc:\n  x9: 9\n  <<: [*a, *b]\n  x3: 7\n'
row86 : answer (97 ∷ 58 ∷ 32 ∷ 38 ∷ 97 ∷ 10 ∷ 32 ∷ 32 ∷ 120 ∷ 49 ∷ 58 ∷ 32 ∷ 48 ∷ 10 ∷ 32 ∷ 32 ∷ 120
    ∷ 50 ∷ 58 ∷ 32 ∷ 49 ∷ 10 ∷ 98 ∷ 58 ∷ 32 ∷ 38 ∷ 98 ∷ 10 ∷ 32 ∷ 32 ∷ 120 ∷ 50 ∷ 58 ∷ 32 ∷ 50 ∷ 10
    ∷ 32 ∷ 32 ∷ 120 ∷ 51 ∷ 58 ∷ 32 ∷ 51 ∷ 10 ∷ 99 ∷ 58 ∷ 10 ∷ 32 ∷ 32 ∷ 120 ∷ 57 ∷ 58 ∷ 32 ∷ 57 ∷ 10
    ∷ 32 ∷ 32 ∷ 60 ∷ 60 ∷ 58 ∷ 32 ∷ 91 ∷ 42 ∷ 97 ∷ 44 ∷ 32 ∷ 42 ∷ 98 ∷ 93 ∷ 10 ∷ 32 ∷ 32 ∷ 120 ∷ 51
    ∷ 58 ∷ 32 ∷ 55 ∷ 10 ∷ []) ≡ Ok (mapping (entry (97 ∷ []) (mapping (entry (120 ∷ 49 ∷ []) (scalar
    (48 ∷ []) 2) (entry (120 ∷ 50 ∷ []) (scalar (49 ∷ []) 3) (no_entries))) 2) (entry (98 ∷ [])
    (mapping (entry (120 ∷ 50 ∷ []) (scalar (50 ∷ []) 5) (entry (120 ∷ 51 ∷ []) (scalar (51 ∷ []) 6)
    (no_entries))) 5) (entry (99 ∷ []) (mapping (entry (120 ∷ 57 ∷ []) (scalar (57 ∷ []) 8) (entry
    (120 ∷ 49 ∷ []) (scalar (48 ∷ []) 2) (entry (120 ∷ 50 ∷ []) (scalar (49 ∷ []) 3)
    (entry (120 ∷ 51 ∷ []) (scalar (55 ∷ []) 10) (no_entries))))) 8) (no_entries)))) 1)
unfolding is_utf8 chars encode
row86 = refl

-- '<<:\n- - \ta\n'
row87 : answer (60 ∷ 60 ∷ 58 ∷ 10 ∷ 45 ∷ 32 ∷ 45 ∷ 32 ∷ 9 ∷ 97 ∷ 10 ∷ []) ≡ Err (2, TabIndent)
unfolding is_utf8 chars encode
row87 = refl
