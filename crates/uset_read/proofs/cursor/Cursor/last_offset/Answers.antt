use Rattle.uset_read.proofs.PlaceInBytes.{last_place}
use Rattle.uset_read.proofs.cursor.Cursor.last_offset.Goals as goal

pub returns : goal.returns
returns c = λ before last parts.
    last_place c.args.self.now.source.now c.args.self.now.rest.now before last c.offset.result c.floor_char_boundary.result
    c.args.self.now.source_text c.args.self.now.rest_text parts c.offset.ensures.bytes
    c.floor_char_boundary.ensures.bound c.floor_char_boundary.ensures.boundary c.floor_char_boundary.ensures.nearest
