-- What a run on known words says of its status and of the counts of faults.
use Rattle.std.proofs.Common.{◌≡◌, ℕ, true, false, inl, inr, refl, sym, ap, ◌∙◌}
use Rattle.std.proofs.lemmas.Bool.{false≢true}
use Rattle.uset_tool.specs.declared.status.Status.{Status}
use Rattle.uset_tool.specs.declared.status.Status.TheVariants.{Done, SomeErr, Usage, Tables, ReadFault, WriteFault, NoMemory, NotText, TooLong}
use Rattle.uset_tool.specs.Device.{count_after}
use Rattle.uset_tool.specs.Status.{is_read_fault}
use Rattle.uset_tool.specs.Run.{EndsAs, is_of_text}

-- a status that was said is no failure to read, where the one that was wanted is none
pub ends_unread : (wanted result : Status) → EndsAs wanted result → is_read_fault wanted ≡ false → is_read_fault result ≡ false
ends_unread wanted result (inl h) plain = ap is_read_fault h ∙ plain
ends_unread wanted result (inr (inl h)) plain = ap is_read_fault h
ends_unread wanted result (inr (inr h)) plain = ap is_read_fault h

-- so it is not the status of one
pub no_read_fault : (result : Status) → is_read_fault result ≡ false → result ≡ ReadFault → ⊥
no_read_fault result plain is = false≢true (sym plain ∙ ap is_read_fault is)

-- no other text is said as a list of words that is not known
pub no_usage_said : (wanted result : Status) → EndsAs wanted result → (wanted ≡ Usage → ⊥) → result ≡ Usage → ⊥
no_usage_said wanted result (inl h) other is = other (sym h ∙ is)
no_usage_said wanted result (inr (inl h)) other is = cc
no_usage_said wanted result (inr (inr h)) other is = cc

pub too_long_is_known : TooLong ≡ Usage → ⊥
too_long_is_known h = cc

pub not_text_is_known : NotText ≡ Usage → ⊥
not_text_is_known h = cc

pub read_fault_is_known : ReadFault ≡ Usage → ⊥
read_fault_is_known h = cc

pub no_memory_is_known : NoMemory ≡ Usage → ⊥
no_memory_is_known h = cc

-- the answer to an input that is text is neither
pub text_is_known : (result : Status) → is_of_text result ≡ true → result ≡ Usage → ⊥
text_is_known result of_text is = false≢true (sym (ap is_of_text is) ∙ of_text)

pub text_is_read : (result : Status) → is_of_text result ≡ true → is_read_fault result ≡ false
text_is_read Done of_text = refl
text_is_read SomeErr of_text = refl
text_is_read Tables of_text = refl
text_is_read WriteFault of_text = refl
text_is_read NoMemory of_text = refl
text_is_read Usage of_text = refl
text_is_read NotText of_text = refl
text_is_read TooLong of_text = refl
text_is_read ReadFault of_text = absurd (false≢true of_text)

-- a run that read what it asked for counted no failure
pub unread_count : (result : Status) (old new : ℕ) → is_read_fault result ≡ false → new ≡ old → new ≡ count_after (is_read_fault result) old
unread_count result old new plain same = same ∙ sym (ap (λ b. count_after b old) plain)
