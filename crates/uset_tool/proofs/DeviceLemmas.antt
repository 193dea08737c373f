-- What was taken and what was written so far.
use Rattle.std.proofs.Common.{◌≡◌, ℕ, ◌+◌, ◌<◌, ◌≤◌, List, ◌++◌, take, drop, length, Option, None, Some, IfSome, IfErr, Result, Ok, Err, sym, ap, ◌∙◌, append_assoc, length-append, arith}
use Rattle.std.proofs.lemmas.List.{take-append-drop}
use Rattle.std.proofs.Math.Seq.{drop-append_seam, drop-append-add}
use Rattle.uset_tool.specs.declared.sink.WriteError.{WriteError}
use Rattle.uset_tool.specs.declared.source.Failed.{Failed}
use Rattle.uset_tool.specs.declared.input.InputError.{InputError}
use Rattle.uset_tool.specs.declared.input.InputError.TheVariants.{NoMemory}
use Rattle.std.specs.Result.{IsErrAnd}
use Rattle.uset_tool.specs.Device.{limit, ReadsFront, WritesFront, Appends, TookFront, Stops}

-- a front of the text is written, and the rest is to come
pub record Written (old now : Option (List ℕ)) (text rest : List ℕ) : Type 0 where
  pub front : List ℕ
  pub parts : text ≡ front ++ rest
  pub appended : Appends old now front

-- the input so far was taken off the front of what was left
pub record Taken (old now : Option (List ℕ)) (input : List ℕ) : Type 0 where
  pub told : IfSome old (λ bytes. (rest : List ℕ) × (bytes ≡ input ++ rest) × (now ≡ Some rest))

abbrev pub wrote : ℕ → Result ℕ WriteError
wrote n = Ok n

-- one more write
pub Written-more : (old now new : Option (List ℕ)) (text rest behind : List ℕ) (n : ℕ) → Written old now text rest → WritesFront now new (wrote n) rest → behind ≡ drop n rest → Written old new text behind
Written-more None now new text rest behind n at more is =
    record { front = at.front ++ take n rest; parts = at.parts ∙ (ap (λ r. at.front ++ r) (sym (take-append-drop n rest)) ∙ (sym (append_assoc at.front (take n rest) (drop n rest)) ∙ ap (λ r. (at.front ++ take n rest) ++ r) (sym is))); appended = tt }
Written-more (Some before) now new text rest behind n at more is = record {
  front = at.front ++ take n rest;
  parts = at.parts ∙ (ap (λ r. at.front ++ r) (sym (take-append-drop n rest)) ∙ (sym (append_assoc at.front (take n rest) (drop n rest)) ∙ ap (λ r. (at.front ++ take n rest) ++ r) (sym is)));
  appended = (rw at.appended at more) ∙ ap Some (append_assoc before at.front (take n rest));
}

-- more than the limit came
pub too_long : (old now : Option (List ℕ)) (input : List ℕ) → Taken old now input → limit < length input → length input ≤ limit + 1 → IfSome old (λ bytes. (limit < length bytes) × (now ≡ Some (drop (limit + 1) bytes)))
too_long None now input taken over within = tt
too_long (Some bytes) now input taken over within =
    let (rest, parts, left) = taken.told in
    let len : length input ≡ limit + 1 = omega arith in (
      omega (arith, ap length parts ∙ length-append input rest),
      left ∙ ap Some (sym (ap (λ n. drop n bytes) (sym len) ∙ (ap (drop (length input)) parts ∙ drop-append_seam input rest))),
    )

abbrev pub was_read : ℕ → Result ℕ Failed
was_read n = Ok n

-- memory was refused to the bytes of one more read
pub refused_front : (old now new : Option (List ℕ)) (input buf : List ℕ) (n : ℕ) → Taken old now input → ReadsFront now new (was_read n) buf → length input + n ≤ limit + 1 → IfSome old (λ bytes. TookFront bytes new (limit + 1))
refused_front None now new input buf n taken read within = tt
refused_front (Some bytes) now new input buf n taken read within =
    let (rest, parts, left) = taken.told in
    let here = rw left at read in
    (length input + n, within, here.2 ∙ ap Some (sym (ap (drop (length input + n)) parts ∙ drop-append-add input rest n)))

pub stops_refused : {X : Type 0} (result : Result X InputError) (old new : Option (List ℕ)) → IsErrAnd result (λ e. e ≡ NoMemory) → IfSome old (λ bytes. TookFront bytes new (limit + 1)) → IfErr result (λ e. Stops e old new)
stops_refused (Ok x) old new refused front = tt
stops_refused (Err e) old new refused front = rw refused front
