use Rattle.std.proofs.Common.{sym, ap}
use Rattle.uset_fault.specs.Errors.{kind_told}
use Rattle.uset_reader.proofs.ReaderLemmas.{refused_short, refused_stray, refused_bare}
use Rattle.uset_reader.proofs.reader.read_set.Goals as goal

pub returns-in-TooShort-clause-refused : goal.returns-in-TooShort-clause-refused
returns-in-TooShort-clause-refused c =
    refused_short c.args.syntax.now c.args.source.now c.into.result (sym c.in-TooShort.ensures.first) (ap kind_told c.into.ensures.0) c.into.ensures.1

pub returns-in-Stray-clause-refused : goal.returns-in-Stray-clause-refused
returns-in-Stray-clause-refused c =
    refused_stray c.args.syntax.now c.args.source.now c.new-cursor.result c.fault_at.result c.in-Stray.c (sym c.in-Stray.ensures.first) c.new-cursor.ensures.source (ap kind_told c.fault_at.ensures.kind) c.fault_at.ensures.place

pub returns-in-Bare-clause-refused : goal.returns-in-Bare-clause-refused
returns-in-Bare-clause-refused c =
    refused_bare c.args.syntax.now c.args.source.now c.new-cursor.result c.fault_at-in-Bare.result (sym c.in-Bare.ensures.first) c.new-cursor.ensures.source (ap kind_told c.fault_at-in-Bare.ensures.kind) c.fault_at-in-Bare.ensures.place
