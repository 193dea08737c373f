mod AnswersLemmas
mod FoundLemmas
mod PassingLemmas
mod ScriptLemmas
mod UnpackedLemmas
