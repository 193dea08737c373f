-- The lines of a text that is cut behind a line.
use Rattle.std.proofs.Common.{◌≡◌, ℕ, true, false, ◌⊎◌, cond, List, [], ◌∷◌, ◌++◌, length, refl, sym, ap, ◌∙◌, inl, inr, append_assoc, append-nil, length-append, take, drop, subst, ◌-◌, arith}
use Rattle.std.specs.Str.{IsUtf8, IsCharBoundary}
use Rattle.std.proofs.Math.Seq.{take-append_seam, drop-append_seam}
use Rattle.std.proofs.lemmas.List.{append_cancel_right}
use Rattle.std.proofs.lemmas.Str.{IsCharBoundary-at_seam}
use Rattle.std.specs.Str.Lines.{lines}
use Rattle.text_lines.specs.Lines.{IsCut}
use Rattle.text_lines.specs.Fields.{is_sole, through, past}
use Rattle.text_lines.proofs.LinesLemmas.{lines-ended}

abbrev ended : List ℕ → List ℕ
ended inner = inner ++ 0x0A ∷ []

-- behind some whole lines, which hold no sole word
pub record PastLines (word text rest : List ℕ) : Type 0 where
  pub front : List ℕ
  pub before : List (List ℕ)
  pub joins : text ≡ front ++ rest
  pub clean : (front ≡ []) ⊎ ((rest ≡ []) ⊎ ((inner : List ℕ) × (front ≡ ended inner)))
  pub lines_are : lines text ≡ before ++ lines rest
  pub through_is : through word (lines text) ≡ before ++ through word (lines rest)
  pub past_is : past word (lines text) ≡ past word (lines rest)

pub starts : (word text : List ℕ) → PastLines word text text
starts word text =
    record { front = []; before = []; joins = refl; clean = inl refl; lines_are = refl; through_is = refl; past_is = refl }

-- a cut behind a line of the rest is a cut of the text
clean_on : (front rest piece behind : List ℕ) → rest ≡ piece ++ behind → (behind ≡ []) ⊎ ((inner : List ℕ) × (piece ≡ ended inner)) →
    (behind ≡ []) ⊎ ((inner : List ℕ) × (front ++ piece ≡ ended inner))
clean_on front rest piece behind joins (inl e) = inl e
clean_on front rest piece behind joins (inr (inner, e)) = inr (front ++ inner, ap (λ p. front ++ p) e ∙ sym (append_assoc front inner (0x0A ∷ [])))

lines-cut : (front behind : List ℕ) → (behind ≡ []) ⊎ ((inner : List ℕ) × (front ≡ ended inner)) → lines (front ++ behind) ≡ lines front ++ lines behind
lines-cut front behind (inl e) =
    ap (λ b. lines (front ++ b)) e ∙ (ap lines (append-nil front) ∙ (sym (append-nil (lines front)) ∙ ap (λ b. lines front ++ lines b) (sym e)))
lines-cut front behind (inr (inner, e)) =
    ap (λ f. lines (f ++ behind)) e ∙ (lines-ended inner behind ∙ ap (λ f. lines f ++ lines behind) (sym e))

-- one more line is passed
pub passes : (word text rest line behind : List ℕ) → PastLines word text rest → lines rest ≡ line ∷ lines behind → IsCut rest behind → is_sole word line ≡ false → PastLines word text behind
passes word text rest line behind at parts cut no_word = record {
  front = at.front ++ cut.front;
  before = at.before ++ line ∷ [];
  joins = at.joins ∙ (ap (λ r. at.front ++ r) cut.joins ∙ sym (append_assoc at.front cut.front behind));
  clean = inr (clean_on at.front rest cut.front behind cut.joins cut.ends);
  lines_are = at.lines_are ∙ (ap (λ ls. at.before ++ ls) parts ∙ sym (append_assoc at.before (line ∷ []) (lines behind)));
  through_is =
      at.through_is ∙ (ap (λ ls. at.before ++ through word ls) parts
      ∙ (ap (λ b. at.before ++ cond b (line ∷ []) (line ∷ through word (lines behind))) no_word
      ∙ sym (append_assoc at.before (line ∷ []) (through word (lines behind)))));
  past_is =
      at.past_is ∙ (ap (past word) parts ∙ ap (λ b. cond b (lines behind) (past word (lines behind))) no_word);
}

-- the line of the word is found: the parts before and behind its ending
pub record FoundAt (word text behind : List ℕ) : Type 0 where
  pub front : List ℕ
  pub joins : text ≡ front ++ behind
  pub front_is : lines front ≡ through word (lines text)
  pub past_is : lines behind ≡ past word (lines text)

pub finds : (word text rest line behind : List ℕ) → PastLines word text rest → lines rest ≡ line ∷ lines behind → IsCut rest behind → is_sole word line ≡ true → FoundAt word text behind
finds word text rest line behind at parts cut has_word =
    let whole = at.front ++ cut.front in
    let joins : text ≡ whole ++ behind = at.joins ∙ (ap (λ r. at.front ++ r) cut.joins ∙ sym (append_assoc at.front cut.front behind)) in
    let before = at.before ++ line ∷ [] in
    let all : lines text ≡ before ++ lines behind = at.lines_are ∙ (ap (λ ls. at.before ++ ls) parts ∙ sym (append_assoc at.before (line ∷ []) (lines behind))) in
    record {
      front = whole;
      joins = joins;
      front_is =
          append_cancel_right (lines whole) before (lines behind) (sym (lines-cut whole behind (clean_on at.front rest cut.front behind cut.joins cut.ends)) ∙ (ap lines (sym joins) ∙ all))
          ∙ (ap (λ b. at.before ++ cond b (line ∷ []) (line ∷ through word (lines behind))) (sym has_word)
          ∙ (ap (λ ls. at.before ++ through word ls) (sym parts) ∙ sym at.through_is));
      past_is = ap (λ b. cond b (lines behind) (past word (lines behind))) (sym has_word) ∙ (ap (past word) (sym parts) ∙ sym at.past_is);
    }

-- where the parts meet
pub place : (word text behind : List ℕ) → (found : FoundAt word text behind) → length text - length behind ≡ length found.front
place word text behind found = omega (arith, ap length found.joins ∙ length-append found.front behind)

pub cut_front : (word text behind front : List ℕ) → (found : FoundAt word text behind) → front ≡ take (length text - length behind) text → lines front ≡ through word (lines text)
cut_front word text behind front found e =
    ap lines (e ∙ (ap (λ n. take n text) (place word text behind found) ∙ (ap (take (length found.front)) found.joins ∙ take-append_seam found.front behind))) ∙ found.front_is

pub cut_rest : (word text behind rest : List ℕ) → (found : FoundAt word text behind) → rest ≡ drop (length text - length behind) text → lines rest ≡ past word (lines text)
cut_rest word text behind rest found e =
    ap lines (e ∙ (ap (λ n. drop n text) (place word text behind found) ∙ (ap (drop (length found.front)) found.joins ∙ drop-append_seam found.front behind))) ∙ found.past_is

pub cut_boundary : (word text behind : List ℕ) → FoundAt word text behind → IsUtf8 behind → IsCharBoundary text (length text - length behind)
cut_boundary word text behind found text_behind =
    subst (IsCharBoundary text) (sym (place word text behind found)) (IsCharBoundary-at_seam text found.front behind found.joins text_behind)
