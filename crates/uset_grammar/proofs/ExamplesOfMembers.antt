-- Worked sources, each with some members of its set and some that it lacks.
use Rattle.std.proofs.Common.{◌≡◌, List, [], ◌∷◌, true, refl}
use Rattle.std.specs.List.{list_all}
use Prim.Native.Char.{code}
use Rattle.uset_grammar.specs.Escape.{is_hex, value, is_number, plain, letter, is_above, is_surrogate}
use Rattle.uset_grammar.specs.Property.{is_key}
use Rattle.uset_grammar.specs.Tree.{point}
use Rattle.uset_grammar.specs.Front.{sign}
use lib.Utf8.{encode}
use Rattle.uset_grammar.proofs.ExampleTable.{Denoted, denotes, text, are_members}

-- Code points next to the ends of ranges, and strings.
abbrev sets : List Denoted
sets =
    denotes "[a-z\\]{[}] []" (point (code "[") ∷ point (code "]") ∷ point (code "a") ∷ point (code "z") ∷ []) (point (code ",") ∷ point (code "-") ∷ point (code ".") ∷ point (code "Z") ∷ point (code "\\") ∷ point (code "^") ∷ point (code "`") ∷ point (code "{") ∷ text "" ∷ text "xy" ∷ []) ∷
    denotes "[[a-z{abc}]&[b-z{abc}{abx}]]" (point (code "b") ∷ point (code "z") ∷ text "abc" ∷ []) (point (code ",") ∷ point (code "-") ∷ point (code ".") ∷ point (code "`") ∷ point (code "a") ∷ point (code "{") ∷ point 0xFFFF ∷ point 0x10FFFF ∷ text "" ∷ text "abx" ∷ text "xy" ∷ []) ∷
    denotes "[[a-a][b-z] - [a-d][e-z]]" (point (code "e") ∷ point (code "z") ∷ []) (point (code ",") ∷ point (code "-") ∷ point (code ".") ∷ point (code "`") ∷ point (code "a") ∷ point (code "b") ∷ point (code "d") ∷ point (code "{") ∷ point 0xFFFF ∷ point 0x10FFFF ∷ text "" ∷ text "xy" ∷ []) ∷
    denotes "[-[a-z]&[b]]" (point (code "b") ∷ []) (point (code ",") ∷ point (code "-") ∷ point (code ".") ∷ point (code "`") ∷ point (code "a") ∷ point (code "c") ∷ point (code "z") ∷ point (code "{") ∷ point 0xFFFF ∷ point 0x10FFFF ∷ text "" ∷ text "xy" ∷ []) ∷
    denotes "[{}}]" (point (code "}") ∷ text "" ∷ []) (point (code ",") ∷ point (code "-") ∷ point (code ".") ∷ point (code "a") ∷ point (code "|") ∷ point (code "~") ∷ point 0xFFFF ∷ point 0x10FFFF ∷ text "xy" ∷ []) ∷
    denotes "[\\x{61 0062   063}]" (point (code "a") ∷ point (code "b") ∷ point (code "c") ∷ []) (point (code ",") ∷ point (code "-") ∷ point (code ".") ∷ point (code "`") ∷ point (code "d") ∷ point 0xFFFF ∷ point 0x10FFFF ∷ text "" ∷ text "xy" ∷ []) ∷
    denotes "[^{h\\u{65}llo\\ world}]" (point (code ",") ∷ point (code "-") ∷ point (code ".") ∷ point (code "a") ∷ point 0xFFFF ∷ point 0x10FFFF ∷ []) (text "" ∷ text "hello world" ∷ text "xy" ∷ []) ∷
    denotes "[\\uD800-\\uD8FF]" (point 0xD800 ∷ point 0xD8FF ∷ []) (point (code ",") ∷ point (code "-") ∷ point (code ".") ∷ point (code "a") ∷ point 0xD7FF ∷ point 0xD900 ∷ point 0xFFFF ∷ point 0x10FFFF ∷ text "" ∷ text "xy" ∷ []) ∷
    denotes "[a-z0]" (point (code "0") ∷ point (code "a") ∷ point (code "z") ∷ []) (point (code ",") ∷ point (code "-") ∷ point (code ".") ∷ point (code "/") ∷ point (code "1") ∷ point (code "`") ∷ point (code "{") ∷ point 0xFFFF ∷ point 0x10FFFF ∷ text "" ∷ text "xy" ∷ []) ∷
    denotes "[^\\uD800-\\uE0FF]" (point (code ",") ∷ point (code "-") ∷ point (code ".") ∷ point (code "a") ∷ point 0xD7FF ∷ point 0xE100 ∷ point 0xFFFF ∷ point 0x10FFFF ∷ []) (point 0xD800 ∷ point 0xE0FF ∷ text "" ∷ text "xy" ∷ []) ∷
    denotes "[$]" (point 0xFFFF ∷ []) (point (code ",") ∷ point (code "-") ∷ point (code ".") ∷ point (code "a") ∷ point 0xFFFE ∷ point 0x10000 ∷ point 0x10FFFF ∷ text "" ∷ text "xy" ∷ []) ∷
    denotes "[--]" (point (code "-") ∷ []) (point (code ",") ∷ point (code ".") ∷ point (code "a") ∷ point 0xFFFF ∷ point 0x10FFFF ∷ text "" ∷ text "xy" ∷ []) ∷
    denotes "[-]" (point (code "-") ∷ []) (point (code ",") ∷ point (code ".") ∷ point (code "a") ∷ point 0xFFFF ∷ point 0x10FFFF ∷ text "" ∷ text "xy" ∷ []) ∷
    denotes "[]" [] (point (code ",") ∷ point (code "-") ∷ point (code ".") ∷ point (code "a") ∷ point 0xFFFF ∷ point 0x10FFFF ∷ text "" ∷ text "xy" ∷ []) ∷
    denotes "[$s-[b-z]]" (point (code "a") ∷ text "bc" ∷ []) (point (code ",") ∷ point (code "-") ∷ point (code ".") ∷ point (code "`") ∷ point (code "b") ∷ point (code "z") ∷ point (code "{") ∷ point 0xFFFF ∷ point 0x10FFFF ∷ text "" ∷ text "xy" ∷ []) ∷
    denotes "[a]x" (point (code "a") ∷ []) (point (code ",") ∷ point (code "-") ∷ point (code ".") ∷ point (code "`") ∷ point (code "b") ∷ point 0xFFFF ∷ point 0x10FFFF ∷ text "" ∷ text "xy" ∷ []) ∷
    denotes "[a-b]x" (point (code "a") ∷ point (code "b") ∷ []) (point (code ",") ∷ point (code "-") ∷ point (code ".") ∷ point (code "`") ∷ point (code "c") ∷ point 0xFFFF ∷ point 0x10FFFF ∷ text "" ∷ text "xy" ∷ []) ∷
    denotes "[[a-b]-]" (point (code "-") ∷ point (code "a") ∷ point (code "b") ∷ []) (point (code ",") ∷ point (code ".") ∷ point (code "`") ∷ point (code "c") ∷ point 0xFFFF ∷ point 0x10FFFF ∷ text "" ∷ text "xy" ∷ []) ∷
    []

sets_hold : list_all are_members sets ≡ true
unfolding sign is_key is_hex value is_number plain letter is_above is_surrogate encode
sets_hold = refl

-- The same of further sources.
abbrev further_sets : List Denoted
further_sets =
    denotes "[{ab}-]" (point (code "-") ∷ text "ab" ∷ []) (point (code ",") ∷ point (code ".") ∷ point (code "a") ∷ point 0xFFFF ∷ point 0x10FFFF ∷ text "" ∷ text "xy" ∷ []) ∷
    denotes "[  - -  ]" (point (code "-") ∷ []) (point (code ",") ∷ point (code ".") ∷ point (code "a") ∷ point 0xFFFF ∷ point 0x10FFFF ∷ text "" ∷ text "xy" ∷ []) ∷
    denotes "[ :L:]" (point (code ":") ∷ point (code "L") ∷ []) (point (code ",") ∷ point (code "-") ∷ point (code ".") ∷ point (code "9") ∷ point (code ";") ∷ point (code "K") ∷ point (code "M") ∷ point (code "a") ∷ point 0xFFFF ∷ point 0x10FFFF ∷ text "" ∷ text "xy" ∷ []) ∷
    denotes "[^[^ $ ]]" (point 0xFFFF ∷ []) (point (code ",") ∷ point (code "-") ∷ point (code ".") ∷ point (code "a") ∷ point 0xFFFE ∷ point 0x10000 ∷ point 0x10FFFF ∷ text "" ∷ text "xy" ∷ []) ∷
    denotes "[^]" (point (code ",") ∷ point (code "-") ∷ point (code ".") ∷ point (code "a") ∷ point 0xFFFF ∷ point 0x10FFFF ∷ []) (text "" ∷ text "xy" ∷ []) ∷
    denotes "[$a$ ]" (point (code "a") ∷ point 0xFFFF ∷ []) (point (code ",") ∷ point (code "-") ∷ point (code ".") ∷ point (code "`") ∷ point (code "b") ∷ point 0xFFFE ∷ point 0x10000 ∷ point 0x10FFFF ∷ text "" ∷ text "xy" ∷ []) ∷
    denotes "[\\$a]" (point (code "$") ∷ point (code "a") ∷ []) (point (code "#") ∷ point (code "%") ∷ point (code ",") ∷ point (code "-") ∷ point (code ".") ∷ point (code "`") ∷ point (code "b") ∷ point 0xFFFF ∷ point 0x10FFFF ∷ text "" ∷ text "xy" ∷ []) ∷
    denotes "[[a-z]-[a-b]-[y-z]]" (point (code "c") ∷ point (code "x") ∷ []) (point (code ",") ∷ point (code "-") ∷ point (code ".") ∷ point (code "`") ∷ point (code "a") ∷ point (code "b") ∷ point (code "y") ∷ point (code "z") ∷ point (code "{") ∷ point 0xFFFF ∷ text "" ∷ text "xy" ∷ []) ∷
    denotes "[[a-a][b-z] & [a-b][x-z]]" (point (code "a") ∷ point (code "b") ∷ point (code "x") ∷ point (code "z") ∷ []) (point (code ",") ∷ point (code "-") ∷ point (code ".") ∷ point (code "`") ∷ point (code "c") ∷ point (code "w") ∷ point (code "{") ∷ point 0xFFFF ∷ text "" ∷ text "xy" ∷ []) ∷
    denotes "[{{}]" (point (code "{") ∷ []) (point (code ",") ∷ point (code "-") ∷ point (code ".") ∷ point (code "a") ∷ point (code "z") ∷ point (code "|") ∷ point 0xFFFF ∷ point 0x10FFFF ∷ text "" ∷ text "xy" ∷ []) ∷
    denotes "[ { [ a - z } ]" (text "[a-z" ∷ []) (point (code ",") ∷ point (code "-") ∷ point (code ".") ∷ point (code "a") ∷ point 0xFFFF ∷ point 0x10FFFF ∷ text "" ∷ text "xy" ∷ []) ∷
    denotes "[\\x{D800 D801 D802}]" (point 0xD800 ∷ point 0xD801 ∷ point 0xD802 ∷ []) (point (code ",") ∷ point (code "-") ∷ point (code ".") ∷ point (code "a") ∷ point 0xD7FF ∷ point 0xD803 ∷ point 0xFFFF ∷ point 0x10FFFF ∷ text "" ∷ text "xy" ∷ []) ∷
    denotes "[a-b-] x" (point (code "-") ∷ point (code "a") ∷ point (code "b") ∷ []) (point (code ",") ∷ point (code ".") ∷ point (code "`") ∷ point (code "c") ∷ point 0xFFFF ∷ point 0x10FFFF ∷ text "" ∷ text "xy" ∷ []) ∷
    denotes "[ - a]" (point (code "-") ∷ point (code "a") ∷ []) (point (code ",") ∷ point (code ".") ∷ point (code "`") ∷ point (code "b") ∷ point 0xFFFF ∷ point 0x10FFFF ∷ text "" ∷ text "xy" ∷ []) ∷
    denotes "[[a-a][b-z] - [a-z][]]" [] (point (code ",") ∷ point (code "-") ∷ point (code ".") ∷ point (code "`") ∷ point (code "a") ∷ point (code "b") ∷ point (code "z") ∷ point (code "{") ∷ point 0xFFFF ∷ point 0x10FFFF ∷ text "" ∷ text "xy" ∷ []) ∷
    denotes "[^[^a-z]]" (point (code "a") ∷ point (code "z") ∷ []) (point (code ",") ∷ point (code "-") ∷ point (code ".") ∷ point (code "`") ∷ point (code "{") ∷ point 0xFFFF ∷ point 0x10FFFF ∷ text "" ∷ text "xy" ∷ []) ∷
    denotes "[[[[[[[[[[[[]]]]]]]]]]]]" [] (point (code ",") ∷ point (code "-") ∷ point (code ".") ∷ point (code "a") ∷ point 0xFFFF ∷ point 0x10FFFF ∷ text "" ∷ text "xy" ∷ []) ∷
    denotes "[^-[:XIDS:]{ab}]" (point (code "0") ∷ point 0x10FFFF ∷ point 0xD800 ∷ []) (point (code "-") ∷ point (code "a") ∷ point 0x110000 ∷ text "ab" ∷ []) ∷
    denotes "\\P{XIDS}" (point (code "0") ∷ point 0x10FFFF ∷ []) (point (code "a") ∷ point 0x110000 ∷ text "" ∷ []) ∷
    []

further_sets_hold : list_all are_members further_sets ≡ true
unfolding sign is_key is_hex value is_number plain letter is_above is_surrogate encode
further_sets_hold = refl
