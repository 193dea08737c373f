-- The binary properties (UAX 44, section 5.3; UTS 18, annex C; UTS 51, section 1.4): their names, and which of them ECMA-262 has.
use Rattle.std.specs.Prelude.{ℕ, Bool, true, false, List, [], ◌∷◌, codes, map}

-- Each property, in the order of the numbers of the tables: its long name, its short name, and whether it is in ECMA-262's table
-- "Binary Unicode property aliases and their canonical property names". White_Space has the short name WSpace.
unfoldable pub properties : List (List ℕ × List ℕ × Bool)
properties =
    (codes "ASCII_Hex_Digit", codes "AHex", true)
    ∷ (codes "alnum", codes "alnum", false)
    ∷ (codes "Alphabetic", codes "Alpha", true)
    ∷ (codes "Bidi_Control", codes "Bidi_C", true)
    ∷ (codes "Bidi_Mirrored", codes "Bidi_M", true)
    ∷ (codes "blank", codes "blank", false)
    ∷ (codes "Cased", codes "Cased", true)
    ∷ (codes "Case_Ignorable", codes "CI", true)
    ∷ (codes "Full_Composition_Exclusion", codes "Comp_Ex", false)
    ∷ (codes "Changes_When_Casefolded", codes "CWCF", true)
    ∷ (codes "Changes_When_Casemapped", codes "CWCM", true)
    ∷ (codes "Changes_When_NFKC_Casefolded", codes "CWKCF", true)
    ∷ (codes "Changes_When_Lowercased", codes "CWL", true)
    ∷ (codes "Changes_When_Titlecased", codes "CWT", true)
    ∷ (codes "Changes_When_Uppercased", codes "CWU", true)
    ∷ (codes "Dash", codes "Dash", true)
    ∷ (codes "Deprecated", codes "Dep", true)
    ∷ (codes "Default_Ignorable_Code_Point", codes "DI", true)
    ∷ (codes "Diacritic", codes "Dia", true)
    ∷ (codes "Emoji_Modifier_Base", codes "EBase", true)
    ∷ (codes "Emoji_Component", codes "EComp", true)
    ∷ (codes "Emoji_Modifier", codes "EMod", true)
    ∷ (codes "Emoji", codes "Emoji", true)
    ∷ (codes "Emoji_Presentation", codes "EPres", true)
    ∷ (codes "Extender", codes "Ext", true)
    ∷ (codes "Extended_Pictographic", codes "ExtPict", true)
    ∷ (codes "graph", codes "graph", false)
    ∷ (codes "Grapheme_Base", codes "Gr_Base", true)
    ∷ (codes "Grapheme_Extend", codes "Gr_Ext", true)
    ∷ (codes "Grapheme_Link", codes "Gr_Link", false)
    ∷ (codes "Hex_Digit", codes "Hex", true)
    ∷ (codes "Hyphen", codes "Hyphen", false)
    ∷ (codes "ID_Compat_Math_Continue", codes "ID_Compat_Math_Continue", false)
    ∷ (codes "ID_Compat_Math_Start", codes "ID_Compat_Math_Start", false)
    ∷ (codes "ID_Continue", codes "IDC", true)
    ∷ (codes "Ideographic", codes "Ideo", true)
    ∷ (codes "ID_Start", codes "IDS", true)
    ∷ (codes "IDS_Binary_Operator", codes "IDSB", true)
    ∷ (codes "IDS_Trinary_Operator", codes "IDST", true)
    ∷ (codes "IDS_Unary_Operator", codes "IDSU", false)
    ∷ (codes "Join_Control", codes "Join_C", true)
    ∷ (codes "Logical_Order_Exception", codes "LOE", true)
    ∷ (codes "Lowercase", codes "Lower", true)
    ∷ (codes "Math", codes "Math", true)
    ∷ (codes "Modifier_Combining_Mark", codes "MCM", false)
    ∷ (codes "Noncharacter_Code_Point", codes "NChar", true)
    ∷ (codes "NFC_Inert", codes "nfcinert", false)
    ∷ (codes "NFD_Inert", codes "nfdinert", false)
    ∷ (codes "NFKC_Inert", codes "nfkcinert", false)
    ∷ (codes "NFKD_Inert", codes "nfkdinert", false)
    ∷ (codes "Pattern_Syntax", codes "Pat_Syn", true)
    ∷ (codes "Pattern_White_Space", codes "Pat_WS", true)
    ∷ (codes "Prepended_Concatenation_Mark", codes "PCM", false)
    ∷ (codes "print", codes "print", false)
    ∷ (codes "Quotation_Mark", codes "QMark", true)
    ∷ (codes "Radical", codes "Radical", true)
    ∷ (codes "Regional_Indicator", codes "RI", true)
    ∷ (codes "Soft_Dotted", codes "SD", true)
    ∷ (codes "Segment_Starter", codes "segstart", false)
    ∷ (codes "Case_Sensitive", codes "Sensitive", false)
    ∷ (codes "Sentence_Terminal", codes "STerm", true)
    ∷ (codes "Terminal_Punctuation", codes "Term", true)
    ∷ (codes "Unified_Ideograph", codes "UIdeo", true)
    ∷ (codes "Uppercase", codes "Upper", true)
    ∷ (codes "Variation_Selector", codes "VS", true)
    ∷ (codes "White_Space", codes "WSpace", true)
    ∷ (codes "xdigit", codes "xdigit", false)
    ∷ (codes "XID_Continue", codes "XIDC", true)
    ∷ (codes "XID_Start", codes "XIDS", true)
    ∷ []

-- the long name of the property of each table, by the number of the table
abbrev pub set_table_names : List (List ℕ)
set_table_names = map (λ property. property.0) properties

-- the long name of the property of each emoji table, by the number of the table (UTS 51, section 1.4.6)
abbrev pub emoji_table_names : List (List ℕ)
emoji_table_names = codes "Basic_Emoji" ∷ []

-- the long and the short name of each property
abbrev pub both_names : List (List ℕ × List ℕ × Bool) → List (List ℕ × List ℕ)
both_names [] = []
both_names (property ∷ more) = (property.0, property.1) ∷ both_names more

abbrev pub property_names : List (List ℕ × List ℕ)
property_names = both_names properties
