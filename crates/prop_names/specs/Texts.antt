-- Names as their bytes.
use Rattle.std.specs.Prelude.{List, map}
use Rattle.std.specs.declared.string.String.{String}
use Rattle.std.specs.Global.{Global}
use Rattle.std.specs.Prelude.{ℕ}
use Rattle.std.specs.String.{string_bytes}
use Rattle.prop_names.specs.Names.{Names}

abbrev pub text_of : String Global × ℕ → List ℕ × ℕ
text_of row = (string_bytes row.0, row.1)

abbrev pub texts : List (String Global × ℕ) → Names
texts rows = map text_of rows
