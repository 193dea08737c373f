-- The machine ends on every source, and what it answers is the one answer.
use Rattle.std.proofs.Common.{◌≡◌, ◌↔◌, arith, ℕ, Bool, zero, suc, ◌<◌, ◌≤◌, length, List, [], ◌∷◌, ◌++◌, Option, Some, None, refl, sym, ap, ◌∙◌, subst}
use Rattle.std.proofs.lemmas.List.{length-append}
use Rattle.uset_grammar.specs.Text.{Text, skip}
use Rattle.uset_grammar.specs.Tree.{Tree}
use Rattle.uset_grammar.specs.Outcome.{Kind, internal}
use Rattle.uset_grammar.specs.Language.{Language}
use Rattle.uset_grammar.specs.Grammar.{Reads}
use Rattle.uset_grammar.specs.Reached.{OpenBracket, Moves, opens_first, opens, takes, closes, Reached, whole, further}
use Rattle.uset_grammar.specs.Fault.{Fault}
use Rattle.uset_grammar.specs.Turn.{UnitReader, Verdict, accepted, rejected, Turn, goes, stops, turn, Means}
use Rattle.uset_grammar.specs.Place.{offset_of}
use Rattle.uset_grammar.specs.Laws.{OneAnswer, ReadAtLast, MovesOn}
use Rattle.uset_grammar.specs.Answers.{Answer, read, refused, IsFault, IsAnswer, AllLawful, ReadsUnder, under, FaultUnder, absent, under_fault}
use Rattle.uset_grammar.proofs.FrontRests.{Behind, Suffix, suffix, suffix_of, suffix_then, skip_suffix, closing_is, opening_behind, first_bracket_behind}
use Rattle.uset_grammar.proofs.UnitInFront.{reader}
use Rattle.uset_grammar.proofs.UnitRests.{item_behind}
use Rattle.uset_grammar.proofs.TurnIsMoveOrFault.{means}
use Rattle.uset_grammar.proofs.MoveOrFaultIsTurn.{moves_turn, fails_turn}
use Rattle.uset_grammar.proofs.Completion.{Completes, moves_on, moves_back, accepts_completes, accepts_only, fails_only}

-- The verdict is the one of the source: it is accepted exactly where the grammar reads so, and rejected exactly where that is a
-- fault.
pub record Decides (l : Option Language) (source : Text) (a : Verdict) : Type 0 where
  pub reads : (tree : Tree) (rest : Text) → (a ≡ accepted tree rest) ↔ ReadsUnder source tree rest l
  pub faults : (kind : Kind) (place : Option Text) → (a ≡ rejected kind place) ↔ FaultUnder source l kind place

behind_less : (t r : Text) → Behind t r → length r < length t
behind_less t r (f, e) = let n = ap length e.parts in let m = length-append f (e.last ∷ r) in omega arith

suffix_less : (t r : Text) → Suffix t r → length r ≤ length t
suffix_less t r (suffix w e) = let n = ap length e in let m = length-append w r in omega arith

skipped_less : (ws : ℕ → Bool) (t r : Text) → Behind (skip ws t) r → length r < length t
skipped_less ws t r h = let n = behind_less (skip ws t) r h in let m = suffix_less t (skip ws t) (skip_suffix ws t) in omega arith

module _ (l : Language) (source : Text) where
  less : (bs cs : List OpenBracket) (t u : Text) → Moves l source bs t cs u → length u < length t
  less _ _ t u (opens_first {o} f here) = behind_less t u (first_bracket_behind l t u o f)
  less _ _ t u (opens {o} long f here) = skipped_less l.white_space t u (opening_behind l (skip l.white_space t) u o f)
  less _ _ t u (takes long at_q fits cut) = skipped_less l.white_space t u (item_behind l at_q)
  less _ _ t _ (closes {next} {c} f body fits) = skipped_less l.white_space t (c ∷ next) ([], record { last = 0x5D; parts = closing_is l (skip l.white_space t) (c ∷ next) f })

  onward : (bs cs : List OpenBracket) (t u : Text) → Moves l source bs t cs u → Suffix t u
  onward _ _ t u (opens_first {o} f here) = suffix_of (first_bracket_behind l t u o f)
  onward _ _ t u (opens {o} long f here) = suffix_then (skip_suffix l.white_space t) (suffix_of (opening_behind l (skip l.white_space t) u o f))
  onward _ _ t u (takes long at_q fits cut) = suffix_then (skip_suffix l.white_space t) (suffix_of (item_behind l at_q))
  onward _ _ t _ (closes {next} {c} f body fits) = suffix_then (skip_suffix l.white_space t) (suffix (0x5D ∷ []) (closing_is l (skip l.white_space t) (c ∷ next) f))

module _ (l : Language) (units : UnitReader l) (source : Text) where
  -- the machine, from a place to its answer
  pub data Runs : List OpenBracket → Text → Verdict → Type 0 where
    stop : {bs : List OpenBracket} {t : Text} {a : Verdict} → turn l units source bs t ≡ stops a → Runs bs t a
    go : {bs cs : List OpenBracket} {t u : Text} {a : Verdict} → turn l units source bs t ≡ goes cs u → Runs cs u a → Runs bs t a

  moved : (bs cs : List OpenBracket) (t u : Text) → Suffix source t → turn l units source bs t ≡ goes cs u → Moves l source bs t cs u
  moved bs cs t u here e = subst (λ z. Means l units source bs t z) e (means l units source bs t here)

  stopped : (bs : List OpenBracket) (t : Text) (a : Verdict) → Suffix source t → turn l units source bs t ≡ stops a → Means l units source bs t (stops a)
  stopped bs t a here e = subst (λ z. Means l units source bs t z) e (means l units source bs t here)

  -- it ends
  ends : (n : ℕ) (bs : List OpenBracket) (t : Text) → Suffix source t → length t < n → (a : Verdict) × Runs bs t a
  ends zero bs t here h = absurd (omega (arith, h))
  ends (suc n) bs t here h = by (turn l units source bs t) refl (λ cs u there m. ends n cs u there m)
    where
      by : (x : Turn) → turn l units source bs t ≡ x → ((cs : List OpenBracket) (u : Text) → Suffix source u → length u < n → (a : Verdict) × Runs cs u a) → (a : Verdict) × Runs bs t a
      by (stops a) e more = (a, stop e)
      by (goes cs u) e more =
          let m = moved bs cs t u here e in
          let size = less l source bs cs t u m in
          let rest = more cs u (suffix_then here (onward l source bs cs t u m)) (omega arith) in
          (rest.0, go e rest.1)

  pub reads_to : (bs : List OpenBracket) (t : Text) (a : Verdict) (tree : Tree) (r : Text) → Suffix source t → Runs bs t a → a ≡ accepted tree r → Completes l bs t tree r
  reads_to bs t a tree r here (stop e) is = accepts_completes l units source bs t tree r (stopped bs t (accepted tree r) here (e ∙ ap (λ z. stops z) is))
  reads_to bs t a tree r here (go {cs} {u} e more) is =
      let m = moved bs cs t u here e in
      moves_back l units source bs cs t u tree r m (reads_to cs u a tree r (suffix_then here (onward l source bs cs t u m)) more is)

  reads_stop : (bs : List OpenBracket) (t : Text) (a : Verdict) (tree : Tree) (r : Text) → Means l units source bs t (stops a) → Completes l bs t tree r → a ≡ accepted tree r
  reads_stop bs t (accepted other s) tree r h k = let same = accepts_only l units source bs t other tree s r h k in ap (λ z. accepted z s) same.0 ∙ ap (λ z. accepted tree z) same.1
  reads_stop bs t (rejected kind p) tree r h k = absurd (fails_only l units source bs t kind p tree r h k)

  reads_from : (bs : List OpenBracket) (t : Text) (a : Verdict) (tree : Tree) (r : Text) → Suffix source t → Runs bs t a → Completes l bs t tree r → a ≡ accepted tree r
  reads_from bs t a tree r here (stop e) h = reads_stop bs t a tree r (stopped bs t a here e) h
  reads_from bs t a tree r here (go {cs} {u} e more) h =
      let m = moved bs cs t u here e in
      reads_from cs u a tree r (suffix_then here (onward l source bs cs t u m)) more (moves_on l units source bs cs t u tree r m h)

  pub faults_to : (bs : List OpenBracket) (t : Text) (a : Verdict) (k : Kind) (p : Option Text) → Suffix source t → Reached l source bs t → Runs bs t a → a ≡ rejected k p → Fault l source k p
  faults_to bs t a k p here reached (stop e) is = record { brackets = bs; rest = t; reached = reached; fails = stopped bs t (rejected k p) here (e ∙ ap (λ z. stops z) is) }
  faults_to bs t a k p here reached (go {cs} {u} e more) is =
      let m = moved bs cs t u here e in
      faults_to cs u a k p (suffix_then here (onward l source bs cs t u m)) (further reached m) more is

  -- what completes at a place that is reached is read
  pub reached_completes : (bs : List OpenBracket) (t : Text) (tree : Tree) (r : Text) → Reached l source bs t → Completes l bs t tree r → Reads l source tree r
  reached_completes _ _ tree r whole h = h
  reached_completes cs u tree r (further {bs} {t} reached m) h = reached_completes bs t tree r reached (moves_back l units source bs cs t u tree r m h)

  gone : (bs cs : List OpenBracket) (t u : Text) (a : Verdict) → turn l units source bs t ≡ goes cs u → Runs bs t a → Runs cs u a
  gone bs cs t u a e (stop f) = absurd (let g : goes cs u ≡ stops a = sym e ∙ f in cc)
  gone bs cs t u a e (go {cs = ds} {u = v} f more) =
      let g : goes ds v ≡ goes cs u = sym f ∙ e in
      let same : ds ≡ cs = cc in
      let there : v ≡ u = cc in
      subst (λ z. Runs z u a) same (subst (λ z. Runs ds z a) there more)

  reached_runs : (bs : List OpenBracket) (t : Text) (a : Verdict) → Reached l source bs t → Runs [] source a → Runs bs t a
  reached_runs _ _ a whole h = h
  reached_runs cs u a (further {bs} {t} reached m) h = gone bs cs t u a (moves_turn l units source bs cs t u m) (reached_runs bs t a reached h)

  stops_at : (bs : List OpenBracket) (t : Text) (a b : Verdict) → turn l units source bs t ≡ stops b → Runs bs t a → a ≡ b
  stops_at bs t a b e (stop f) = let g : stops a ≡ stops b = sym f ∙ e in cc
  stops_at bs t a b e (go {cs} {u} f more) = absurd (let g : goes cs u ≡ stops b = sym f ∙ e in cc)

  faults_from : (a : Verdict) (k : Kind) (p : Option Text) → Runs [] source a → Fault l source k p → a ≡ rejected k p
  faults_from a k p h fault = stops_at fault.brackets fault.rest a (rejected k p) (fails_turn l units source fault.brackets fault.rest k p fault.fails) (reached_runs fault.brackets fault.rest a fault.reached h)

-- what the machine ends with is the verdict of the source
module _ (l : Language) (units : UnitReader l) (source : Text) (a : Verdict) (run : Runs l units source [] source a) where
  reads_by_run : (tree : Tree) (rest : Text) → (a ≡ accepted tree rest) ↔ ReadsUnder source tree rest (Some l)
  reads_by_run tree rest = (
    λ h. under (reads_to l units source [] source a tree rest (suffix [] refl) run h),
    λ h. by (Some l) refl h,
  )
    where
      by : (o : Option Language) → o ≡ Some l → ReadsUnder source tree rest o → a ≡ accepted tree rest
      by _ e (under {l = k} h) = reads_from l units source [] source a tree rest (suffix [] refl) run (subst (λ z. Reads z source tree rest) (let g : k ≡ l = cc in g) h)

  faults_by_run : (kind : Kind) (place : Option Text) → (a ≡ rejected kind place) ↔ FaultUnder source (Some l) kind place
  faults_by_run kind place = (
    λ h. under_fault (faults_to l units source [] source a kind place (suffix [] refl) whole run h),
    λ h. by (Some l) kind place refl h,
  )
    where
      by : (o : Option Language) (kind : Kind) (place : Option Text) → o ≡ Some l → FaultUnder source o kind place → a ≡ rejected kind place
      by _ _ _ e absent = absurd (let g = e in cc)
      by _ kind place e (under_fault {l = k} h) = faults_from l units source a kind place run (subst (λ z. Fault z source kind place) (let g : k ≡ l = cc in g) h)

  pub decided_by_run : Decides (Some l) source a
  decided_by_run = record { reads = reads_by_run; faults = faults_by_run }

some_run : (l : Language) (units : UnitReader l) (source : Text) → (a : Verdict) × Runs l units source [] source a
some_run l units source = ends l units source (suc (length source)) [] source (suffix [] refl) (omega arith)

none_read : (source : Text) (tree : Tree) (rest : Text) (o : Option Language) → o ≡ None → ReadsUnder source tree rest o → ⊥
none_read source tree rest _ e (under h) = let g = e in cc

none_fault : (source : Text) (kind : Kind) (place : Option Text) (o : Option Language) → o ≡ None → FaultUnder source o kind place → rejected internal None ≡ rejected kind place
none_fault source _ _ _ e absent = refl
none_fault source kind place _ e (under_fault h) = absurd (let g = e in cc)

fault_none : (source : Text) (kind : Kind) (place : Option Text) → rejected internal None ≡ rejected kind place → FaultUnder source None kind place
fault_none source kind place e = let k : internal ≡ kind = cc in let p : ◌≡◌ {A = Option Text} None place = cc in
    subst (λ z. FaultUnder source None kind z) p (subst (λ z. FaultUnder source None z None) k absent)

one_verdict : (l : Option Language) → AllLawful l → (source : Text) → (a : Verdict) × Decides l source a
one_verdict None lawful source = (
  rejected internal None,
  record {
    reads = λ tree rest. (λ h. absurd (let g = h in cc), λ h. absurd (none_read source tree rest None refl h));
    faults = λ kind place. (fault_none source kind place, none_fault source kind place None refl);
  },
)
one_verdict (Some l) all source =
    let lawful = all.lawful l refl in
    let units = reader l lawful in
    let run = some_run l units source in
    (run.0, decided_by_run l units source run.0 run.1)

-- the same with the place in bytes
abbrev pub in_bytes : Verdict → Answer
in_bytes (accepted tree r) = read tree r
in_bytes (rejected k p) = refused k (offset_of k p)

reads_in_bytes : (a : Verdict) (tree : Tree) (rest : Text) → (in_bytes a ≡ read tree rest) ↔ (a ≡ accepted tree rest)
reads_in_bytes (accepted t r) tree rest = (λ e. (let g : read t r ≡ read tree rest = e in let same : t ≡ tree = cc in let last : r ≡ rest = cc in ap (λ z. accepted z r) same ∙ ap (λ z. accepted tree z) last), λ e. ap in_bytes e)
reads_in_bytes (rejected k p) tree rest = (
  λ e. absurd (let g : refused k (offset_of k p) ≡ read tree rest = e in cc),
  λ e. absurd (let g : rejected k p ≡ accepted tree rest = e in cc),
)

fault_in_bytes : (l : Option Language) (source : Text) (a : Verdict) → Decides l source a → (kind : Kind) (offset : Option ℕ) → in_bytes a ≡ refused kind offset → IsFault l source kind offset
fault_in_bytes l source (accepted t r) h kind offset e = absurd (let g : read t r ≡ refused kind offset = e in cc)
fault_in_bytes l source (rejected k p) h kind offset e =
    let g : refused k (offset_of k p) ≡ refused kind offset = e in
    let same : k ≡ kind = cc in
    let there : offset_of k p ≡ offset = cc in
    record { place = p; fault = subst (λ z. FaultUnder source l z p) same ((h.faults k p).0 refl); is = sym there ∙ ap (λ z. offset_of z p) same }

bytes_of_fault : (l : Option Language) (source : Text) (a : Verdict) → Decides l source a → (kind : Kind) (offset : Option ℕ) → IsFault l source kind offset → in_bytes a ≡ refused kind offset
bytes_of_fault l source a h kind offset f = ap in_bytes ((h.faults kind f.place).1 f.fault) ∙ ap (λ z. refused kind z) (sym f.is)

pub decided : (l : Option Language) (source : Text) (a : Verdict) → Decides l source a → IsAnswer l source (in_bytes a)
decided l source a h = record {
  reads = λ tree rest. (
    λ e. (h.reads tree rest).0 ((reads_in_bytes a tree rest).0 e),
    λ e. (reads_in_bytes a tree rest).1 ((h.reads tree rest).1 e),
  );
  faults = λ kind offset. (fault_in_bytes l source a h kind offset, bytes_of_fault l source a h kind offset);
}

pub one_answer_law : OneAnswer
one_answer_law l all source = let o = one_verdict l all source in (in_bytes o.0, decided l source o.0 o.1)

pub read_at_last : ReadAtLast
read_at_last l units source bs t tree rest reached h =
    reached_completes l units source bs t tree rest reached (accepts_completes l units source bs t tree rest h)

pub moves_onward : MovesOn
moves_onward l source bs cs before t u e m = by (suffix_then (suffix before e) (onward l source bs cs t u m))
  where
    by : Suffix source u → (front : Text) × (source ≡ front ++ u)
    by (suffix front parts) = (front, parts)
