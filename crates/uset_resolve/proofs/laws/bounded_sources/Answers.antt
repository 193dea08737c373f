use Rattle.std.proofs.Common.{encode_utf8_all, option_map}
use Rattle.uset_resolve.proofs.BoundedSources.{resolve_ends}
use Rattle.uset_resolve.proofs.laws.bounded_sources.Goals as goal

pub returns : goal.returns
returns c tables bounded key value r h = resolve_ends tables bounded (encode_utf8_all key) (option_map encode_utf8_all value) r h
