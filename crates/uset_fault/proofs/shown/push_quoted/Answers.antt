use Rattle.std.proofs.Common.{◌≡◌, ℕ, List, ◌++◌, OnOk, sym, ◌∙◌, subst}
use Rattle.std.specs.String.{string_bytes}
use Rattle.uset_fault.proofs.WordsBytes.{numbered-quoted}
use Rattle.uset_fault.proofs.shown.push_quoted.Goals as goal

pub returns-then-is_ascii_control : goal.returns-then-is_ascii_control
returns-then-is_ascii_control c =
    let P : List ℕ → Type 0 = λ bytes. OnOk c.push_number.result (string_bytes c.push_number.new.text ≡ string_bytes c.args.text.now ++ bytes) in
    subst P (numbered-quoted c.args.c c.in_default.ensures (sym c.if-is_ascii_control.true ∙ c.is_ascii_control.ensures.value)) c.push_number.ensures
