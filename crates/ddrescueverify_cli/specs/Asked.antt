-- What a command asks for of an input, of an output and of a map.
use Rattle.std.specs.Prelude.{ℕ, Bool, List, nat_eq, unwrap_or, if◌then◌else◌}
use Rattle.block_list.specs.declared.status.Status.{Status}
use Rattle.mapfile_text.specs.declared.heading.Program.TheVariants.{Ddrescuelog}
use Rattle.mapfile_text.specs.declared.state.Current.TheVariants.{Copying}
use Rattle.mapfile_text.specs.declared.state.MapState.{MapState}
use Rattle.mapfile_text.specs.HeadingLines.{HeadingLines}
use Rattle.mapfile_text.specs.Printed.{printed}
use Rattle.rescue_domain.specs.Domain.{whole_domain}
use Rattle.rescue_domain.specs.Places.{IsAnyBeyond}
use Rattle.rescue_verify.specs.Pieces.{compared_in}
use Rattle.rescue_verify.specs.Looks.{Look, differing_bytes}
use Rattle.rescue_verify.specs.Verified.{judged_by}
use Rattle.rescue_verify.specs.Comparing.{Comparison}
use Rattle.ddrescueverify_words.specs.declared.options.VerifyOptions.{VerifyOptions}

-- the positions that are compared of an input with this length: those from the input position on, and no more than the
-- size
abbrev pub domain_asked : VerifyOptions → (end : ℕ) → ℕ → Bool
domain_asked o end = whole_domain o.input_position o.size end

-- one of the positions that are asked for would end in the output at 2^63 or past it
abbrev pub IsBeyond : VerifyOptions → (end : ℕ) → Type 0
IsBeyond o end = IsAnyBeyond (domain_asked o end) o.input_position (unwrap_or o.output_position o.input_position)

-- what is compared, if the mapfile stands for this map: what it calls finished of the positions asked for
abbrev pub comparison_of : VerifyOptions → (end : ℕ) → List Status → Comparison
comparison_of o end statuses = record {
  compared = compared_in (domain_asked o end) statuses;
  sector = o.sector;
  from = o.input_position;
  to = unwrap_or o.output_position o.input_position;
}

-- What a saved map shows, by how many bytes differ: the first position, from which they are copied again, or what it
-- showed before if none does.
abbrev pub shown_for : MapState → (differing : ℕ) → MapState
shown_for loaded differing = if nat_eq differing 0 then loaded else record { pos = 0; current = Copying; pass = 1 }

-- what a saved map shows after the looks at all pieces, by how many bytes differ in them
abbrev pub shown_by : MapState → List Look → MapState
shown_by loaded looks = shown_for loaded (differing_bytes looks)

-- the heading of a saved map, with the command line; such a map has no times
abbrev pub heading_of : (line : List ℕ) → HeadingLines
heading_of line = record { program = Ddrescuelog; line = line; start_s = 0; now_s = 0 }

-- the text that is saved after the looks at all pieces of a map whose mapfile showed this
abbrev pub text_of : (line : List ℕ) → List Status → MapState → List Look → List ℕ
text_of line statuses shown looks = printed (heading_of line) (shown_by shown looks) (judged_by statuses looks)
