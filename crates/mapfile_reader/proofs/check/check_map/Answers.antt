-- A fault of block lines isn't lack of memory.
use Rattle.std.proofs.Common.{Result, Ok, Err}
use Rattle.std.specs.Prelude.{IfErr, ◌≢◌, List}
use Rattle.mapfile_text.specs.declared.read.Mode.{Mode}
use Rattle.mapfile_text.specs.declared.read.MapError.{MapError}
use Rattle.mapfile_text.specs.declared.read.MapError.TheVariants.{NoMemory}
use Rattle.mapfile_reader.specs.declared.check.MapShape.{MapShape}
use Rattle.mapfile_text.specs.Lines.{Line}
use Rattle.mapfile_reader.specs.Cursor.{no_comments}
use Rattle.mapfile_text.specs.MapText.{ListsFault}
use Rattle.mapfile_text.proofs.OneFault.{lists_have_memory}
use Rattle.mapfile_reader.proofs.check.check_map.Goals as goal

has_memory : (mode : Mode) (ls : List Line) (r : Result MapShape MapError) → IfErr r (ListsFault mode ls) → IfErr r (λ e. e ≢ NoMemory)
has_memory mode ls (Ok shape) f = f
has_memory mode ls (Err e) f = lists_have_memory mode ls e f

pub returns-clause-no_memory : goal.returns-clause-no_memory
returns-clause-no_memory c = has_memory c.args.mode (no_comments c.lines_after.result) c.check_blocks.result c.check_blocks.ensures.fault
