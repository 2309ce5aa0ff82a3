-- A created map is read as it was.
use Rattle.std.proofs.Common.{◌≡◌, List, length, not, nat_eq, sym, subst, refl, arith}
use Rattle.map_algebra.proofs.MapLemmas.{length_map_by}
use Rattle.mapfile_text.proofs.ReadPrinted.{printed_is_read}
use Rattle.mapfile_text.specs.declared.heading.Program.TheVariants.{Ddrescuelog}
use Rattle.mapfile_text.specs.declared.state.Current.TheVariants.{Copying}
use Rattle.mapfile_text.specs.declared.state.MapState.{MapState}
use Rattle.mapfile_text.specs.declared.read.Mode.TheVariants.{Tight}
use Rattle.mapfile_text.specs.MapText.{IsMapText}
use Rattle.block_list.specs.declared.status.Status.{Status}
use Rattle.mapfile_save.specs.SaveStops.{text_file}
use Rattle.map_algebra.specs.Create.{created_map}
use Rattle.ddrescuelog_cli.specs.Maps.{shape_of, domain_below}
use Rattle.ddrescuelog_cli.specs.Laws.{CreatedIsRead}

pub created_is_read : CreatedIsRead
created_is_read c listed rest line m numbers text made below within =
    let shown : MapState = record { pos = 0; current = Copying; pass = 1 } in
    let statuses : List Status =
    created_map (shape_of c.options) numbers (domain_below c.options m made.end) listed rest made.end in
    let n : length statuses ≡ made.end = length_map_by _ made.end in
    record {
      there = text_file text;
      is = refl;
      within = within;
      first = 0;
      listed = not (nat_eq (length statuses) 0);
      reads = subst (λ t. IsMapText t Tight shown 0 (not (nat_eq (length statuses) 0)) statuses) (sym made.is)
          (printed_is_read (record { program = Ddrescuelog; line = line; start_s = 0; now_s = 0 }) shown statuses Tight
          (omega arith) (omega arith) (omega arith) (omega arith) (omega arith)
          (omega (arith, below, n)));
    }
