-- What a source has left behind a run.
use Rattle.std.proofs.Common.{◌≡◌, ℕ, ◌+◌, ◌<◌, ◌≤◌, true, List, [], length, drop, Option, None, Some, IfSome, refl, sym, ap, ◌∙◌, arith}
use Rattle.std.proofs.lemmas.Bool.{false≢true}
use Rattle.std.proofs.Math.Seq.{drop-length}
use Rattle.uset_tool.specs.declared.status.Status.{Status}
use Rattle.uset_tool.specs.declared.status.Status.TheVariants.{Done, SomeErr, Usage, Tables, ReadFault, WriteFault, NoMemory, NotText, TooLong}
use Rattle.uset_tool.specs.Device.{limit, TakesAll, TookFront}
use Rattle.uset_tool.specs.Run.{IsLeft, is_of_text, Says, said, failed, refused}

-- a text was said behind a front of the input
says_left : (input : List ℕ) (left old new : Option (List ℕ)) (text : List ℕ) (wanted result : Status) → Says old new text wanted result → IsLeft input left wanted → TookFront input left (limit + 1) → IsLeft input left result
says_left input left old new text wanted _ (said h) here front = here
says_left input left old new text wanted _ (failed h) here front = front
says_left input left old new text wanted _ (refused h) here front = front

took_all : (input bytes : List ℕ) (left : Option (List ℕ)) → input ≡ bytes → left ≡ Some [] → length bytes ≤ limit → TookFront input left (limit + 1)
took_all input bytes left same none within =
    (length input, omega (arith, ap length same, within), none ∙ ap Some (sym (drop-length input)))

pub usage_left : (left old new : Option (List ℕ)) (text : List ℕ) (result : Status) → Says old new text Usage result → IfSome left (λ input. IsLeft input left result)
usage_left None old new text result h = tt
usage_left (Some input) old new text result h = says_left input (Some input) old new text Usage result h refl (0, omega arith, refl)

pub too_long_left : (left rest old new : Option (List ℕ)) (text : List ℕ) (result : Status) → IfSome left (λ bytes. (limit < length bytes) × (rest ≡ Some (drop (limit + 1) bytes))) →
    Says old new text TooLong result → IfSome left (λ input. IsLeft input rest result)
too_long_left None rest old new text result over h = tt
too_long_left (Some input) rest old new text result over h = says_left input rest old new text TooLong result h over (limit + 1, omega arith, over.1)

pub not_text_left : (left rest old new : Option (List ℕ)) (bytes text : List ℕ) (result : Status) → TakesAll left rest bytes → length bytes ≤ limit →
    Says old new text NotText result → IfSome left (λ input. IsLeft input rest result)
not_text_left None rest old new bytes text result taken within h = tt
not_text_left (Some input) rest old new bytes text result taken within h = says_left input rest old new text NotText result h taken.1 (took_all input bytes rest taken.0 taken.1 within)

-- an input that is text was answered
answered_left : (input : List ℕ) (left : Option (List ℕ)) (status : Status) → is_of_text status ≡ true → left ≡ Some [] → TookFront input left (limit + 1) → IsLeft input left status
answered_left input left Done of_text none front = none
answered_left input left SomeErr of_text none front = none
answered_left input left Tables of_text none front = none
answered_left input left WriteFault of_text none front = front
answered_left input left NoMemory of_text none front = front
answered_left input left Usage of_text none front = absurd (false≢true of_text)
answered_left input left ReadFault of_text none front = absurd (false≢true of_text)
answered_left input left NotText of_text none front = absurd (false≢true of_text)
answered_left input left TooLong of_text none front = absurd (false≢true of_text)

pub text_left : (left rest : Option (List ℕ)) (bytes : List ℕ) (result : Status) → TakesAll left rest bytes → length bytes ≤ limit → is_of_text result ≡ true → IfSome left (λ input. IsLeft input rest result)
text_left None rest bytes result taken within of_text = tt
text_left (Some input) rest bytes result taken within of_text = answered_left input rest result of_text taken.1 (took_all input bytes rest taken.0 taken.1 within)
