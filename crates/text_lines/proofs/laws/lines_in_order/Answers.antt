use Rattle.text_lines.proofs.LinesInOrder.{lines_come_in_order}
use Rattle.text_lines.proofs.laws.lines_in_order.Goals as goal

pub returns : goal.returns
returns c = lines_come_in_order
