use Rattle.std.proofs.Common.{◌≡◌, ◌<◌, ◌≤◌, ◌-◌, ◌*◌, ◌/◌, ◌%◌, length, map, drop, sym, subst, arith}
use Rattle.std.proofs.lemmas.List.{length-map, length-drop, take_all}
use Rattle.std.proofs.lemmas.Option.{slice_get_within}
use Rattle.std.specs.String.{string_bytes}
use Rattle.cp_strset_terms.specs.Places.{IsAt}
use Rattle.cp_strset_terms.proofs.NarrowedLemmas.{at_behind, none_of_one_in_piece}
use Rattle.cp_strset_terms.proofs.narrowed.strings_from_piece.Goals as goal

pub returns-clause-numbered : goal.returns-clause-numbered
returns-clause-numbered c = λ number text piece at.
    let strings = c.args.strings.now in
    let start = c.min-start.result in
    let within : number < length strings = omega (arith, slice_get_within (map string_bytes strings) number text at, length-map strings string_bytes) in
    let front : start ≡ number / 0x11_0000 * 0x11_0000 = omega arith in
    let all : length (drop start strings) ≤ length strings - start = omega (arith, length-drop start strings) in
    subst (λ l. IsAt (map string_bytes l) (number % 0x11_0000) text) (sym (take_all (length strings - start) (drop start strings) all)) (at_behind strings start number text front at)

pub returns-clause-none_of_one : goal.returns-clause-none_of_one
returns-clause-none_of_one c = none_of_one_in_piece c.args.strings.now c.min-start.result (length c.args.strings.now - c.min-start.result)
