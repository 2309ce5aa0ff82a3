use Rattle.std.specs.Prelude.{string_bytes}
use Rattle.folder_site.proofs.MapReads.{kept_named}
use Rattle.folder_site.proofs.folder.mapfile.keep_map.Goals as goal

pub returns-then-is_of-clause-there : goal.returns-then-is_of-clause-there
returns-then-is_of-clause-there g c told kept =
    kept_named _ (λ m. string_bytes m.name) (λ m. g.K.Kernel.number m.file) c.args.kept.now c.args.place.name.now
    (g.K.Kernel.told c.args.kernel.now) (c.is_of.ensures c.if-is_of.true) kept
