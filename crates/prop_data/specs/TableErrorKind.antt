-- The names of the faults of a table text.
use Rattle.std.specs.Prelude.{ℕ, List, codes}
use Rattle.prop_data.specs.declared.error.TableErrorKind.{TableErrorKind}
use Rattle.prop_data.specs.declared.error.TableErrorKind.TheVariants.{UnknownLine, UnknownTable, TableTwice, BadNumber, TooLarge, RangeOrder, ValueOutOfType, BadName, NamesClash, SyntaxAscii, ExtensionOrder, StringOfOne, StringTwice, ExtensionMissing, NoEnd, AfterEnd}

abbrev pub kind_name : TableErrorKind → List ℕ
kind_name UnknownLine = codes "UnknownLine"
kind_name UnknownTable = codes "UnknownTable"
kind_name TableTwice = codes "TableTwice"
kind_name BadNumber = codes "BadNumber"
kind_name TooLarge = codes "TooLarge"
kind_name RangeOrder = codes "RangeOrder"
kind_name ValueOutOfType = codes "ValueOutOfType"
kind_name BadName = codes "BadName"
kind_name NamesClash = codes "NamesClash"
kind_name SyntaxAscii = codes "SyntaxAscii"
kind_name ExtensionOrder = codes "ExtensionOrder"
kind_name StringOfOne = codes "StringOfOne"
kind_name StringTwice = codes "StringTwice"
kind_name ExtensionMissing = codes "ExtensionMissing"
kind_name NoEnd = codes "NoEnd"
kind_name AfterEnd = codes "AfterEnd"
