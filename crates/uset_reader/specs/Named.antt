-- The sets that names stand for: variables and properties. A string is the set of it alone.
use Rattle.std.specs.Prelude.{Bool, Option, Some, None, option_map}
use Rattle.std.specs.Str.{chars}
use Rattle.uset_grammar.specs.Tree.{Member, has, is_text}
use Rattle.uset_grammar.specs.Language.{Value, character, string, set, Language, Resolved, found}
use Rattle.uset_steps.specs.Names.{variable, property, Sets}

-- the members of a set that a variable is bound to, and the one of a string
abbrev pub bound_set : Option Value → Option (Member → Bool)
bound_set None = None
bound_set (Some (character c)) = None
bound_set (Some (string t)) = Some (is_text t)
bound_set (Some (set members)) = Some members

-- the members of a property that resolves
abbrev pub resolved_set : Bool → Option Resolved → Option (Member → Bool)
resolved_set negated resolved = option_map (λ r. has (found negated (Some r))) resolved

abbrev pub sets_of : Language → Sets
sets_of l (variable name) = bound_set (l.variable (chars name))
sets_of l (property query) = resolved_set query.negated (l.resolve query.key query.value)
