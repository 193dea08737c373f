use Rattle.std.proofs.Common.{rules}
use Rattle.std.proofs.lemmas.Str.{IsUtf8-string_bytes}
use Rattle.std.specs.String.{string_bytes}
use Rattle.uset_read.proofs.StringPushes.{pushed}
use Rattle.uset_read.proofs.text.push_char.Goals as goal

pub returns : goal.returns
returns c = record {
  appended = pushed (string_bytes c.args.string.now) (string_bytes c.push.new.self) c.args.c (IsUtf8-string_bytes c.args.string.now) (search rules) c.in_ok-push.ensures.bytes;
}
