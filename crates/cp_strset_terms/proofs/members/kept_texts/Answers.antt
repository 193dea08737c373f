use Rattle.std.proofs.Common.{◌≡◌, ◌++◌, ◌∙◌, List, ℕ, map, filter, ap, subst, sym, append-nil, refl}
use Rattle.std.proofs.lemmas.List.{nil_from_length}
use Rattle.std.specs.Slice.Iter.{chunks_rest, chunks_size}
use Rattle.std.specs.String.{string_bytes}
use Rattle.cp_strset.specs.StringList.{AreCanonical}
use Rattle.cp_terms.specs.Terms.{value_of}
use Rattle.cp_strset_terms.specs.Leaves.{leaf_holds}
use Rattle.cp_strset_terms.specs.Places.{texts}
use Rattle.cp_strset_terms.proofs.TableLemmas.{canonical_parts}
use Rattle.cp_strset_terms.proofs.KeptLemmas.{kept_piece}
use Rattle.cp_strset_terms.proofs.members.kept_texts.Goals as goal

pub loop-piece-init : goal.loop-piece-init
loop-piece-init c =
    let begins = c.into_iter-piece-iterator.ensures.into_iter_gives in
    let rest : chunks_rest c.into_iter-piece-iterator.result ≡ c.args.table.now = ap chunks_rest begins ∙ c.chunks-piece-items.ensures.rest in (
      ap chunks_size begins ∙ c.chunks-piece-items.ensures.size,
      subst (λ l. AreCanonical (texts l)) (sym rest) c.requires,
      rw (c.new-strings.ensures.items, rest) refl,
    )

pub push_kept-requires-clause-canonical : goal.push_kept-requires-clause-canonical
push_kept-requires-clause-canonical c =
    let steps = c.in-Some.ensures.steps.1 in
    (canonical_parts c.in-Some.piece.now (chunks_rest c.next.new.self) (subst (λ l. AreCanonical (texts l)) steps.0 c.loop-piece.invariant.1)).0

pub loop-piece-preserved : goal.loop-piece-preserved
loop-piece-preserved c =
    let steps = c.in-Some.ensures.steps.1 in
    let test = λ (text : List ℕ). value_of (leaf_holds c.args.leaves.now text) c.args.steps.now in
    let whole : texts (chunks_rest c.loop-piece.piece-iterator) ≡ texts (c.in-Some.piece.now ++ chunks_rest c.next.new.self) = ap texts steps.0 in (
      c.in-Some.ensures.steps.0 ∙ c.loop-piece.invariant.0,
      (canonical_parts c.in-Some.piece.now (chunks_rest c.next.new.self) (subst AreCanonical whole c.loop-piece.invariant.1)).1,
      kept_piece test c.in-Some.piece.now (chunks_rest c.next.new.self) (map string_bytes c.loop-piece.strings.items) (map string_bytes c.push_kept.new.strings.items) (filter test (texts c.args.table.now))
          (ap (λ l. map string_bytes c.loop-piece.strings.items ++ filter test l) (sym whole) ∙ c.loop-piece.invariant.2) c.in_ok-push_kept.ensures,
    )

pub returns : goal.returns
returns c =
    let test = λ (text : List ℕ). value_of (leaf_holds c.args.leaves.now text) c.args.steps.now in
    sym (append-nil _) ∙ (ap (λ l. map string_bytes c.loop-piece.strings.items ++ filter test (texts l)) (sym (nil_from_length _ c.in-None.ensures.steps.1.0)) ∙ c.loop-piece.invariant.2)
