-- Tables with one more, or with another in its place.
use Rattle.std.specs.Prelude.{ℕ, Bool, nat_eq, List, Option, Some, None, if◌then◌else◌}
use Rattle.prop_names.specs.Names.{Names as NamesTable}
use Rattle.prop_data.specs.declared.load.texts.Length.{Length}
use Rattle.prop_data.specs.declared.load.texts.Length.TheVariants.{Long, Short}
use Rattle.prop_data.specs.Tables.{EmojiMembers, ScriptNumbers, ExtensionList, Tables}

abbrev pub no_tables : Tables
no_tables = record {
  sets = λ t. None;
  maps = λ t. None;
  names = λ t. None;
  long = λ t. None;
  short = λ t. None;
  emoji = λ t. None;
  scripts = None;
  extensions = λ t. None;
}

abbrev pub with_set : ℕ → (ℕ → Bool) → Tables → Tables
with_set n members tables = record tables { sets = λ t. if nat_eq n t then Some members else tables.sets t }

abbrev pub with_map : ℕ → (ℕ → ℕ) → Tables → Tables
with_map n values tables = record tables { maps = λ t. if nat_eq n t then Some values else tables.maps t }

abbrev pub with_names : ℕ → NamesTable → Tables → Tables
with_names n names tables = record tables { names = λ t. if nat_eq n t then Some names else tables.names t }

abbrev pub with_texts : Length → ℕ → (ℕ → Option (List ℕ)) → Tables → Tables
with_texts Long n texts tables = record tables { long = λ t. if nat_eq n t then Some texts else tables.long t }
with_texts Short n texts tables = record tables { short = λ t. if nat_eq n t then Some texts else tables.short t }

abbrev pub with_emoji : ℕ → EmojiMembers → Tables → Tables
with_emoji n members tables = record tables { emoji = λ t. if nat_eq n t then Some members else tables.emoji t }

abbrev pub with_scripts : ScriptNumbers → Tables → Tables
with_scripts numbers tables = record tables { scripts = Some numbers }

abbrev pub with_list : ℕ → ExtensionList → Tables → Tables
with_list n list tables = record tables { extensions = λ t. if nat_eq n t then Some list else tables.extensions t }
