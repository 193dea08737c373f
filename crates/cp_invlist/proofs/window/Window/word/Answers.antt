use Rattle.std.proofs.Common.{◌≡◌, ◌<◌, length, get_or, Some, refl, ◌∙◌, arith, subst, List, ℕ}
use Rattle.std.specs.List.{slice_get}
use Rattle.std.proofs.lemmas.Option.{slice_get_read}
use Rattle.cp_invlist.proofs.WindowLemmas.{IsRead, turned_none, turned_least, turned_more, turned_before}
use Rattle.cp_invlist.proofs.window.Window.word.Goals as goal
use Rattle.cp_invlist.proofs.window.Window.word.Goals.{Then-offset-ge64}

pub loop-element-init : goal.loop-element-init
loop-element-init c = turned_none c.args.set.now c.args.place c.filled-word.result c.args.self.now c.requires.window c.requires.ahead (λ j h. c.filled-word.ensures j h ∙ c.is_inside.ensures)

-- the element that is next
found : (xs elements : List ℕ) (taken x : ℕ) → elements ≡ xs → taken < length elements → x ≡ get_or elements taken x → slice_get xs taken ≡ Some x
found xs elements taken x same lt is = subst (λ (l : List ℕ). slice_get l taken ≡ Some x) same (slice_get_read elements (length elements) taken x refl lt is)

pub overflow_sub-offset : goal.overflow_sub-offset
overflow_sub-offset c =
    let lookup = c.in-Some.ensures.lookup in
    let xs = c.get_inversion_list-elements in
    turned_least c.args.set.now c.args.place c.loop-element.taken c.loop-element.word c.in-Some.element.now c.loop-element.invariant
    (found c.args.set.now xs.result.now c.loop-element.taken c.in-Some.element.now xs.ensures.elements lookup.3.0 lookup.1)

read : (c : Then-offset-ge64) → IsRead c.args.set.now c.args.place c.loop-element.taken c.in-Some.element.now c.loop-element.word
read c =
    let lookup = c.in-Some.ensures.lookup in
    let xs = c.get_inversion_list-elements in
    turned_before c.args.set.now c.args.place c.loop-element.taken c.in-Some.element.now c.loop-element.word xs.ensures.canonical c.loop-element.invariant
    (found c.args.set.now xs.result.now c.loop-element.taken c.in-Some.element.now xs.ensures.elements lookup.3.0 lookup.1) (omega arith)

pub returns-then-offset-ge64-clause-word : goal.returns-then-offset-ge64-clause-word
returns-then-offset-ge64-clause-word c = (read c).is_word

pub returns-then-offset-ge64-clause-window : goal.returns-then-offset-ge64-clause-window
returns-then-offset-ge64-clause-window c = (read c).window

pub loop-element-preserved : goal.loop-element-preserved
loop-element-preserved c =
    let lookup = c.in-Some.ensures.lookup in
    let xs = c.get_inversion_list-elements in
    let x = c.in-Some.element.now in
    turned_more c.args.set.now c.args.place c.loop-element.taken c.loop-element.word c.turned-word.result x c.loop-element.invariant (found c.args.set.now xs.result.now c.loop-element.taken x xs.ensures.elements lookup.3.0 lookup.1) (omega arith)
    c.turned-word.ensures
