use Rattle.std.proofs.Common.{ap}
use Rattle.std.specs.Option.{option_copied}
use Rattle.prop_data.specs.Loading.{emoji_read, row_seen}
use Rattle.prop_data.proofs.EmojiLemmas.{emoji_row, range_in-range, string_in-range, range_in-string, string_in-string}
use Rattle.prop_data.proofs.LoadingLemmas.{takes_emoji}
use Rattle.prop_data.proofs.load.emoji.OpenEmoji.add_row.Goals as goal

pub returns-in-Some : goal.returns-in-Some
returns-in-Some c =
    let old = c.args.self.now in
    let first = c.args.row.first.now in
    takes_emoji old c.add_string.new.self (row_seen c.args.row) _ _ _ _
    (λ tables. emoji_row old.table old.last first (row_seen c.args.row).1 _ (emoji_read old) tables (ap option_copied c.in-None.is) c.in-Some.ensures)
    (range_in-string first _ c.in-Some.ensures) (string_in-string first _ c.in-Some.ensures) c.add_string.ensures

pub returns-in-None-braced : goal.returns-in-None-braced
returns-in-None-braced c =
    let old = c.args.self.now in
    let first = c.args.row.first.now in
    takes_emoji old c.add_range.new.self (row_seen c.args.row) _ _ _ _
    (λ tables. emoji_row old.table old.last first (row_seen c.args.row).1 _ (emoji_read old) tables (ap option_copied c.in-None.is) c.in-None-braced.ensures)
    (range_in-range first c.in-None-braced.ensures) (string_in-range first c.in-None-braced.ensures) c.add_range.ensures
