use Rattle.std.proofs.Common.{refl, ap, is_some}
use Rattle.std.proofs.lemmas.Bool.{both_ways}
use Rattle.uset_tool.specs.Commands.{command_seen}
use Rattle.uset_tool.proofs.LeftLemmas.{usage_left, too_long_left, not_text_left, text_left}
use Rattle.uset_tool.proofs.RunLemmas.{usage_run, too_long_run, not_text_run, text_run}
use Rattle.uset_tool.proofs.WordsLemmas.{ends_unread, no_read_fault, no_usage_said, too_long_is_known, not_text_is_known, read_fault_is_known, no_memory_is_known, text_is_known, text_is_read, unread_count}
use Rattle.uset_tool.proofs.program.answer_words.Goals as goal

pub returns-in_default-clause-written : goal.returns-in_default-clause-written
returns-in_default-clause-written g c =
    let words = rw c.deref.ensures.value at c.in_default.ensures.unknown in
    usage_run _ _ _ _ _ (ap is_some words) c.say.ensures.says

pub returns-in-Err-TooLong-clause-written : goal.returns-in-Err-TooLong-clause-written
returns-in-Err-TooLong-clause-written g c =
    let words = rw c.deref.ensures.value at c.in-Some.ensures.known in
    too_long_run _ _ _ _ _ _ (ap is_some words) (rw c.in-Err-TooLong.field-0-is at c.in-Err-TooLong.ensures.stopped) c.say-in-Err-TooLong.ensures.says

pub returns-in-Ok-from_utf8-clause-written : goal.returns-in-Ok-from_utf8-clause-written
returns-in-Ok-from_utf8-clause-written g c =
    let words = rw c.deref.ensures.value at c.in-Some.ensures.known in
    let text = rw c.deref-2.ensures.value at c.in-Ok-from_utf8.ensures.cases in
    text_run _ (command_seen c.in-Some.command) _ _ _ _ _ _ _ words c.in-Ok.ensures.whole c.in-Ok.ensures.short text.0 text.1 c.answer_text.ensures.status c.answer_text.ensures.written

pub returns-clause-written : goal.returns-clause-written
returns-clause-written g c =
    let words = rw c.deref.ensures.value at c.in-Some.ensures.known in
    let no_text = rw c.deref-2.ensures.value at c.in-Err.ensures.cases in
    not_text_run _ _ _ _ _ _ _ (ap is_some words) c.in-Ok.ensures.whole c.in-Ok.ensures.short no_text.0 c.say-in-Err.ensures.says

pub returns-in_default-clause-left : goal.returns-in_default-clause-left
returns-in_default-clause-left g c = usage_left _ _ _ _ _ c.say.ensures.says

pub returns-in-Err-TooLong-clause-left : goal.returns-in-Err-TooLong-clause-left
returns-in-Err-TooLong-clause-left g c =
    too_long_left _ _ _ _ _ _ (rw c.in-Err-TooLong.field-0-is at c.in-Err-TooLong.ensures.stopped) c.say-in-Err-TooLong.ensures.says

pub returns-in-Ok-from_utf8-clause-left : goal.returns-in-Ok-from_utf8-clause-left
returns-in-Ok-from_utf8-clause-left g c = text_left _ _ _ _ c.in-Ok.ensures.whole c.in-Ok.ensures.short c.answer_text.ensures.status

pub returns-clause-left : goal.returns-clause-left
returns-clause-left g c = not_text_left _ _ _ _ _ _ _ c.in-Ok.ensures.whole c.in-Ok.ensures.short c.say-in-Err.ensures.says

pub returns-in_default-clause-usage : goal.returns-in_default-clause-usage
returns-in_default-clause-usage g c =
    let words = rw c.deref.ensures.value at c.in_default.ensures.unknown in
    λ h. ap is_some words

pub returns-in_default-clause-unknown : goal.returns-in_default-clause-unknown
returns-in_default-clause-unknown g c = λ h. c.say.ensures.says

pub returns-in_default-clause-untouched : goal.returns-in_default-clause-untouched
returns-in_default-clause-untouched g c = λ h. refl

pub returns-in_default-clause-read_fault_words : goal.returns-in_default-clause-read_fault_words
returns-in_default-clause-read_fault_words g c = λ h. absurd (no_read_fault _ (ends_unread _ _ c.say.ensures.ends refl) h)

pub returns-in_default-clause-silent : goal.returns-in_default-clause-silent
returns-in_default-clause-silent g c = λ h. absurd (no_read_fault _ (ends_unread _ _ c.say.ensures.ends refl) h)

pub returns-in_default-clause-reads_counted : goal.returns-in_default-clause-reads_counted
returns-in_default-clause-reads_counted g c = unread_count _ _ _ (ends_unread _ _ c.say.ensures.ends refl) refl

pub returns-in_default-clause-writes_counted : goal.returns-in_default-clause-writes_counted
returns-in_default-clause-writes_counted g c = c.say.ensures.counted refl

pub returns-in-Err-Failed-clause-left : goal.returns-in-Err-Failed-clause-left
returns-in-Err-Failed-clause-left g c = rw c.in-Err-Failed.field-0-is at c.in-Err-Failed.ensures.stopped

pub returns-in-Err-Failed-clause-usage : goal.returns-in-Err-Failed-clause-usage
returns-in-Err-Failed-clause-usage g c = λ h. absurd (read_fault_is_known h)

pub returns-in-Err-Failed-clause-unknown : goal.returns-in-Err-Failed-clause-unknown
returns-in-Err-Failed-clause-unknown g c =
    let words = rw c.deref.ensures.value at c.in-Some.ensures.known in
    λ h. absurd (both_ways _ h (ap is_some words))

pub returns-in-Err-Failed-clause-untouched : goal.returns-in-Err-Failed-clause-untouched
returns-in-Err-Failed-clause-untouched g c =
    let words = rw c.deref.ensures.value at c.in-Some.ensures.known in
    λ h. absurd (both_ways _ h (ap is_some words))

pub returns-in-Err-Failed-clause-read_fault_words : goal.returns-in-Err-Failed-clause-read_fault_words
returns-in-Err-Failed-clause-read_fault_words g c =
    let words = rw c.deref.ensures.value at c.in-Some.ensures.known in
    λ h. ap is_some words

pub returns-in-Err-Failed-clause-silent : goal.returns-in-Err-Failed-clause-silent
returns-in-Err-Failed-clause-silent g c = λ h. refl

pub returns-in-Err-Failed-clause-reads_counted : goal.returns-in-Err-Failed-clause-reads_counted
returns-in-Err-Failed-clause-reads_counted g c = rw c.in-Err-Failed.field-0-is at c.in-Err-Failed.ensures.counted

pub returns-in-Err-Failed-clause-writes_counted : goal.returns-in-Err-Failed-clause-writes_counted
returns-in-Err-Failed-clause-writes_counted g c = refl

pub returns-in-Err-NoMemory-clause-left : goal.returns-in-Err-NoMemory-clause-left
returns-in-Err-NoMemory-clause-left g c = rw c.in-Err-NoMemory.field-0-is at c.in-Err-NoMemory.ensures.stopped

pub returns-in-Err-NoMemory-clause-usage : goal.returns-in-Err-NoMemory-clause-usage
returns-in-Err-NoMemory-clause-usage g c = λ h. absurd (no_memory_is_known h)

pub returns-in-Err-NoMemory-clause-unknown : goal.returns-in-Err-NoMemory-clause-unknown
returns-in-Err-NoMemory-clause-unknown g c =
    let words = rw c.deref.ensures.value at c.in-Some.ensures.known in
    λ h. absurd (both_ways _ h (ap is_some words))

pub returns-in-Err-NoMemory-clause-untouched : goal.returns-in-Err-NoMemory-clause-untouched
returns-in-Err-NoMemory-clause-untouched g c =
    let words = rw c.deref.ensures.value at c.in-Some.ensures.known in
    λ h. absurd (both_ways _ h (ap is_some words))

pub returns-in-Err-NoMemory-clause-read_fault_words : goal.returns-in-Err-NoMemory-clause-read_fault_words
returns-in-Err-NoMemory-clause-read_fault_words g c =
    let words = rw c.deref.ensures.value at c.in-Some.ensures.known in
    λ h. ap is_some words

pub returns-in-Err-NoMemory-clause-silent : goal.returns-in-Err-NoMemory-clause-silent
returns-in-Err-NoMemory-clause-silent g c = λ h. refl

pub returns-in-Err-NoMemory-clause-reads_counted : goal.returns-in-Err-NoMemory-clause-reads_counted
returns-in-Err-NoMemory-clause-reads_counted g c = rw c.in-Err-NoMemory.field-0-is at c.in-Err-NoMemory.ensures.counted

pub returns-in-Err-NoMemory-clause-writes_counted : goal.returns-in-Err-NoMemory-clause-writes_counted
returns-in-Err-NoMemory-clause-writes_counted g c = refl

pub returns-in-Err-TooLong-clause-usage : goal.returns-in-Err-TooLong-clause-usage
returns-in-Err-TooLong-clause-usage g c = λ h. absurd (no_usage_said _ _ c.say-in-Err-TooLong.ensures.ends too_long_is_known h)

pub returns-in-Err-TooLong-clause-unknown : goal.returns-in-Err-TooLong-clause-unknown
returns-in-Err-TooLong-clause-unknown g c =
    let words = rw c.deref.ensures.value at c.in-Some.ensures.known in
    λ h. absurd (both_ways _ h (ap is_some words))

pub returns-in-Err-TooLong-clause-untouched : goal.returns-in-Err-TooLong-clause-untouched
returns-in-Err-TooLong-clause-untouched g c =
    let words = rw c.deref.ensures.value at c.in-Some.ensures.known in
    λ h. absurd (both_ways _ h (ap is_some words))

pub returns-in-Err-TooLong-clause-read_fault_words : goal.returns-in-Err-TooLong-clause-read_fault_words
returns-in-Err-TooLong-clause-read_fault_words g c =
    let words = rw c.deref.ensures.value at c.in-Some.ensures.known in
    λ h. ap is_some words

pub returns-in-Err-TooLong-clause-silent : goal.returns-in-Err-TooLong-clause-silent
returns-in-Err-TooLong-clause-silent g c = λ h. absurd (no_read_fault _ (ends_unread _ _ c.say-in-Err-TooLong.ensures.ends refl) h)

pub returns-in-Err-TooLong-clause-reads_counted : goal.returns-in-Err-TooLong-clause-reads_counted
returns-in-Err-TooLong-clause-reads_counted g c = unread_count _ _ _ (ends_unread _ _ c.say-in-Err-TooLong.ensures.ends refl) (rw c.in-Err-TooLong.field-0-is at c.in-Err-TooLong.ensures.counted)

pub returns-in-Err-TooLong-clause-writes_counted : goal.returns-in-Err-TooLong-clause-writes_counted
returns-in-Err-TooLong-clause-writes_counted g c = c.say-in-Err-TooLong.ensures.counted refl

pub returns-clause-usage : goal.returns-clause-usage
returns-clause-usage g c = λ h. absurd (no_usage_said _ _ c.say-in-Err.ensures.ends not_text_is_known h)

pub returns-clause-unknown : goal.returns-clause-unknown
returns-clause-unknown g c =
    let words = rw c.deref.ensures.value at c.in-Some.ensures.known in
    λ h. absurd (both_ways _ h (ap is_some words))

pub returns-clause-untouched : goal.returns-clause-untouched
returns-clause-untouched g c =
    let words = rw c.deref.ensures.value at c.in-Some.ensures.known in
    λ h. absurd (both_ways _ h (ap is_some words))

pub returns-clause-read_fault_words : goal.returns-clause-read_fault_words
returns-clause-read_fault_words g c =
    let words = rw c.deref.ensures.value at c.in-Some.ensures.known in
    λ h. ap is_some words

pub returns-clause-silent : goal.returns-clause-silent
returns-clause-silent g c = λ h. absurd (no_read_fault _ (ends_unread _ _ c.say-in-Err.ensures.ends refl) h)

pub returns-clause-reads_counted : goal.returns-clause-reads_counted
returns-clause-reads_counted g c = unread_count _ _ _ (ends_unread _ _ c.say-in-Err.ensures.ends refl) c.in-Ok.ensures.counted

pub returns-clause-writes_counted : goal.returns-clause-writes_counted
returns-clause-writes_counted g c = c.say-in-Err.ensures.counted refl

pub returns-in-Ok-from_utf8-clause-usage : goal.returns-in-Ok-from_utf8-clause-usage
returns-in-Ok-from_utf8-clause-usage g c = λ h. absurd (text_is_known _ c.answer_text.ensures.status h)

pub returns-in-Ok-from_utf8-clause-unknown : goal.returns-in-Ok-from_utf8-clause-unknown
returns-in-Ok-from_utf8-clause-unknown g c =
    let words = rw c.deref.ensures.value at c.in-Some.ensures.known in
    λ h. absurd (both_ways _ h (ap is_some words))

pub returns-in-Ok-from_utf8-clause-untouched : goal.returns-in-Ok-from_utf8-clause-untouched
returns-in-Ok-from_utf8-clause-untouched g c =
    let words = rw c.deref.ensures.value at c.in-Some.ensures.known in
    λ h. absurd (both_ways _ h (ap is_some words))

pub returns-in-Ok-from_utf8-clause-read_fault_words : goal.returns-in-Ok-from_utf8-clause-read_fault_words
returns-in-Ok-from_utf8-clause-read_fault_words g c =
    let words = rw c.deref.ensures.value at c.in-Some.ensures.known in
    λ h. ap is_some words

pub returns-in-Ok-from_utf8-clause-silent : goal.returns-in-Ok-from_utf8-clause-silent
returns-in-Ok-from_utf8-clause-silent g c = λ h. absurd (no_read_fault _ (text_is_read _ c.answer_text.ensures.status) h)

pub returns-in-Ok-from_utf8-clause-reads_counted : goal.returns-in-Ok-from_utf8-clause-reads_counted
returns-in-Ok-from_utf8-clause-reads_counted g c = unread_count _ _ _ (text_is_read _ c.answer_text.ensures.status) c.in-Ok.ensures.counted

pub returns-in-Ok-from_utf8-clause-writes_counted : goal.returns-in-Ok-from_utf8-clause-writes_counted
returns-in-Ok-from_utf8-clause-writes_counted g c = c.answer_text.ensures.counted
