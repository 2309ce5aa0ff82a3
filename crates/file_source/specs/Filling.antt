-- What a read of a real file answers, by how far it came and why it ended there.
-- For contracts and proofs: no promise uses it.
use Rattle.std.specs.Prelude.{⊤, ℕ, Bool, nat_lt, if◌then◌else◌, Option, Some, None, Result, Ok, Err}
use Rattle.std.specs.declared.io.Error.{Error}
use Rattle.std.specs.IoError.{raw_os_error}
use Rattle.real_files.specs.Medium.{is_medium_code}
use Rattle.faulty_source.specs.declared.source.Got.{Got}
use Rattle.faulty_source.specs.declared.source.Got.TheVariants.{Read, End}

-- All that was asked for, or all up to the input's end; or, if the medium doesn't give the next byte, all before it. It
-- answers nothing if the read failed by another error. Which errors are the medium's depends on whether the read went
-- past the kernel's cache.
abbrev pub answer_of : (is_direct : Bool) → (asked got : ℕ) → Result ⊤ Error → Option Got
answer_of is_direct asked got (Ok done) = Some (if nat_lt got asked then End got else Read got)
answer_of is_direct asked got (Err error) =
    if is_medium_code is_direct (raw_os_error error) then Some (Read got) else None

-- how many bytes a read's first call of the system gave
abbrev pub first_count : Result ℕ Error → ℕ
first_count (Ok n) = n
first_count (Err error) = 0
