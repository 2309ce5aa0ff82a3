use Rattle.std.proofs.Common.{length, ◌∙◌, ap}
use Rattle.std.specs.Option.{option_map}
use Rattle.folder_site.proofs.MapReads.{piece_is_read}
use Rattle.folder_site.proofs.folder.mapfile.read_map.Goals as goal

pub returns-clause-read : goal.returns-clause-read
returns-clause-read g c =
    let t = g.K.Kernel.told c.args.kernel.now in
    piece_is_read c.read_piece.result t c.args.place.name.now (g.K.Kernel.number c.in-Some.map.file) c.args.place.pos
    (length c.args.buf.now) c.read_piece.new.buf _ c.requires
    (λ told kept. c.in_ok-keep_map.ensures.there told kept ∙ ap (option_map (λ m. g.K.Kernel.number m.file)) c.in-Some.is)
    c.read_piece.ensures
