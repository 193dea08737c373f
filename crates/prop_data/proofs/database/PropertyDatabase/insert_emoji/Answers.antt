use Rattle.std.proofs.Common.{◌≡◌, ℕ, nat_eq, cond, Some, option_map, rules}
use Rattle.std.specs.BTreeMap.{get}
use Rattle.std.specs.Ordering.{nat_cmp}
use Rattle.prop_data.specs.Database.{emoji_seen}
use Rattle.prop_data.proofs.AboveLemmas.{emoji_told}
use Rattle.prop_data.proofs.database.PropertyDatabase.insert_emoji.Goals as goal

pub returns : goal.returns
returns c =
    let each : (t : ℕ) → option_map emoji_seen (get nat_cmp c.insert.new.self t) ≡ cond (nat_eq c.args.table t) (Some (emoji_seen c.args.set)) (option_map emoji_seen (get nat_cmp c.args.self.now.emoji t)) = λ t. search rules in
    emoji_told _ _ each
