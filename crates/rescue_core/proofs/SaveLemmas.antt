-- A save of a run with a mapfile, by what it prints and what it answers.
use Rattle.std.proofs.Common.{◌≡◌, ℕ, ◌/◌, false, if◌then◌else◌, List, [], Option, Some, is_some, Result, Ok, Err, sym, ap, subst}
use Rattle.mapfile_text.specs.declared.heading.Program.{Program}
use Rattle.mapfile_text.specs.declared.heading.Program.TheVariants.{Ddrescue}
use Rattle.mapfile_text.specs.HeadingLines.{HeadingLines}
use Rattle.crash_site.specs.Calls.{Call}
use Rattle.crash_site.specs.SiteState.{SiteState}
use Rattle.crash_site.specs.SiteChanges.{Makes, Breaks}
use Rattle.mapfile_save.specs.declared.draft.SaveFault.{SaveFault}
use Rattle.mapfile_save.specs.MapNames.{MapNames, names_in}
use Rattle.mapfile_save.specs.Saving.{save_calls, IsNameIn, Saves}
use Rattle.rescue_rules.specs.Snapshots.{heading_at}

pub heading_is : (program : Program) (line : List ℕ) (began now : ℕ) → program ≡ Ddrescue
    → record { program = program; line = line; start_s = began / 1000; now_s = now / 1000 } ≡ heading_at line began now
heading_is program line began now is =
    let of : Program → HeadingLines
    = λ p. record { program = p; line = line; start_s = began / 1000; now_s = now / 1000 } in
    ap of is

-- the calls of a save, if there is a mapfile
abbrev pub calls_if : Option MapNames → List ℕ → List Call
calls_if names text = if is_some names then save_calls (names_in names) text else []

pub calls_named : (names : Option MapNames) (n : MapNames) (text text' : List ℕ) → names ≡ Some n → text ≡ text'
    → save_calls n text ≡ calls_if names text'
calls_named names n text text' is same =
    subst (λ (t : List ℕ). save_calls n text ≡ calls_if names t) same
    (sym (ap (λ (o : Option MapNames). calls_if o text) is))

-- the same answer of another type, of the same calls
pub saves_too : {T U : Type 0} (calls calls' : List Call) (x : T) (y : U) (site site' : SiteState) → calls ≡ calls'
    → Saves calls false (Ok x) site site' → Saves calls' false (Ok y) site site'
saves_too calls calls' x y site site' same s = record {
  keeps = s.keeps;
  made = subst (λ (cs : List Call). Makes cs site site') same s.made;
  broke = tt;
  named = tt;
  image = s.image;
  draft = s.draft;
  draft_left = tt;
}

pub breaks_too : {T U : Type 0} (calls calls' : List Call) (e : SaveFault) (result : Result U SaveFault) (site site' : SiteState)
    → calls ≡ calls' → result ≡ Err e → Saves {T = T} calls false (Err e) site site' → Saves {T = U} calls' false result site site'
breaks_too {U = U} calls calls' e result site site' same is s =
    subst (λ (r : Result U SaveFault). Saves calls' false r site site') (sym is) record {
      keeps = s.keeps;
      made = tt;
      broke = subst (λ (cs : List Call). Breaks e.call cs site site') same s.broke;
      named = subst (λ (cs : List Call). IsNameIn e.call cs) same s.named;
      image = s.image;
      draft = tt;
      draft_left = s.draft_left;
    }
