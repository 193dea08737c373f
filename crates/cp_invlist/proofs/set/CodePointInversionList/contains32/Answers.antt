use Rattle.std.proofs.Common.{◌≡◌, ℕ, ◌/◌, ◌%◌, ◌<◌, List, length, get_or, Some, refl, sym, ◌∙◌, ap, subst, arith, nat_le, rules}
use Rattle.std.specs.List.{slice_get}
use Rattle.std.proofs.lemmas.Option.{slice_get_read}
use Rattle.std.proofs.lemmas.List.Sorted.{IsPartitionPoint-from_clause}
use Rattle.cp_invlist.specs.InversionList.{contains, IsInversionList}
use Rattle.cp_invlist.specs.ListLaws.{IsInversionList-parts}
use Rattle.cp_invlist.specs.CutLaws.{partitioned_at_most, CutAfter-from, contains-cut}
use Rattle.cp_invlist.specs.Words.{has_bit, AreWords}
use Rattle.cp_invlist.proofs.set.CodePointInversionList.contains32.Goals as goal

pub returns-in-None : goal.returns-in-None
returns-in-None c =
    let xs = c.deref-in-None.result.now in
    let list : IsInversionList xs = rw c.deref-in-None.ensures.value c.self.invariant.list in
    let parts = IsInversionList-parts xs list in
    let cut = CutAfter-from c.args.c xs _ (
    IsPartitionPoint-from_clause (λ y. nat_le y c.args.c) xs c.partition_point.result c.partition_point.ensures.partitioned
    (partitioned_at_most c.args.c xs parts.0) (search rules)
    ) in
    sym (contains-cut c.args.c xs c.partition_point.result c.partition_point.ensures.bound cut)
    ∙ ap (λ ys. contains ys c.args.c) (c.deref-in-None.ensures.value ∙ c.self.view_is)

-- a word of the index tells its members
told : (xs words elements : List ℕ) (number word : ℕ) → AreWords xs words → elements ≡ words → number / 64 < length elements → word ≡ get_or elements (number / 64) word → has_bit word (number % 64) ≡ contains xs number
told xs words elements number word are same lt is =
    let at : slice_get words (number / 64) ≡ Some word = subst (λ (l : List ℕ). slice_get l (number / 64) ≡ Some word) same (slice_get_read elements (length elements) (number / 64) word refl lt is) in
    are (number / 64) word at (number % 64) (omega arith) ∙ ap (contains xs) (omega arith)

pub returns-in-Some : goal.returns-in-Some
returns-in-Some c =
    let lookup = c.in-Some.ensures.lookup in
    c.has_member.ensures ∙ (told c.self.inside.elements.items c.self.inside.words.items c.deref.result.now c.args.c c.in-Some.word.now c.self.invariant.indexed c.deref.ensures.value lookup.3.0 lookup.1
    ∙ ap (λ ys. contains ys c.args.c) c.self.view_is)
