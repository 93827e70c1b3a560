-- Inside: what functions promise each other on the way to a result. Nobody has to believe this file: the result is said without it.
-- Here: what a walk over the first entries finds: where the bodies end, or that an entry is wrong.
use Rattle.std.specs.Prelude.{ℕ, cond, List, Result, Ok, Err}
use Rattle.refusal.specs.declared.Refusal.{Refusal}
use Rattle.refusal.specs.declared.Refusal.TheVariants as refusal
use Rattle.octets.specs.Count.{any}
use Rattle.capture.specs.File.{head_length, entry_length, body_start, wrong_entry}

abbrev pub surveyed : List ℕ → ℕ → Result ℕ Refusal
surveyed file count =
    cond (any (wrong_entry head_length entry_length file) count) (Err refusal.EntryWrong)
    (Ok (body_start head_length entry_length file count))
