use Rattle.std.proofs.Common.{◌∙◌, arith}
use Rattle.std.proofs.lemmas.List.{take_at}
use Rattle.crash_site.proofs.Written.{written_over}
use Rattle.memory_site.proofs.memory.places.write_over.Goals as goal

pub returns-clause-written : goal.returns-clause-written
returns-clause-written c =
    let pasted = rw c.deref_mut.ensures.value at c.paste.ensures in
    take_at c.paste.new.bytes _ c.grow.new.bytes.len (omega (arith, c.deref_mut.ensures.len, c.grow.new.bytes.ok.0))
    ∙ written_over c.args.bytes.now.items c.paste.new.bytes c.args.piece.now c.grow.new.bytes.items c.args.pos
    c.in_ok-grow.ensures.grown pasted
