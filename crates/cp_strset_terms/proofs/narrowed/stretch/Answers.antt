use Rattle.std.proofs.Common.{◌≤◌, ◌<◌, ◌-◌, length, map, arith}
use Rattle.std.proofs.lemmas.List.{length-map}
use Rattle.std.proofs.lemmas.Option.{slice_get_within}
use Rattle.std.specs.String.{string_bytes}
use Rattle.cp_strset_terms.proofs.NarrowedLemmas.{held_in_piece, none_of_one_in_piece, between_ends}
use Rattle.cp_strset_terms.proofs.narrowed.stretch.Goals as goal

pub returns-clause-held : goal.returns-clause-held
returns-clause-held c = λ number text at inside.
    let strings = c.args.strings.now in
    let start = c.min-start.result in
    let count = c.min-end.result - c.min-start.result in
    let ends = between_ends c.args.range number inside in
    let within : number < length strings = omega (arith, slice_get_within (map string_bytes strings) number text at, length-map strings string_bytes) in
    let past : number < c.min-end.result = omega (arith, within, ends.1, c.min-end.ensures) in
    let from : start ≤ number = omega (arith, ends.0, c.min-start.ensures) in
    held_in_piece strings start count number text at from (omega (arith, past, from))

pub returns-clause-none_of_one : goal.returns-clause-none_of_one
returns-clause-none_of_one c = none_of_one_in_piece c.args.strings.now c.min-start.result (c.min-end.result - c.min-start.result)
