-- What a site's calls, made or broken, come to.
use Rattle.std.proofs.Common.{◌≡◌, ℕ, ◌-◌, IsTrue, List, [], ◌∷◌, ◌++◌, length, Option, refl, sym, ap, subst, ◌∙◌, arith, append_assoc, append-nil, inl, inr}
use Rattle.crash_site.specs.declared.site.SiteCall.{SiteCall}
use Rattle.crash_site.specs.Files.{File}
use Rattle.crash_site.specs.Calls.{Call, Entry, Done, Failed}
use Rattle.crash_site.specs.CallsMade.{BrokeAt}
use Rattle.crash_site.specs.Disk.{at_rest, disk_after}
use Rattle.crash_site.specs.Folder.{Folder}
use Rattle.crash_site.specs.Left.{Leaves, until, MayBeLeft}
use Rattle.crash_site.specs.SiteState.{SiteState}
use Rattle.crash_site.specs.SiteChanges.{Keeps}
use Rattle.crash_site.proofs.DiskLemmas.{run-append}
use Rattle.crash_site.proofs.LawLemmas.{left_past}
use Rattle.mapfile_save.specs.SaveStops.{disk_of}
use Rattle.rescue_rules.specs.RunStops.{ComesTo}
use Rattle.turn_laws.specs.Laws.{IsLeftWithin}

-- the record grew by calls that come to a part of a list
pub record Grew (calls : List Call) (old new : List Entry) : Type 0 where
  pub more : List Entry
  pub is : new ≡ old ++ more
  pub comes : ComesTo calls more

pub broke_grew : (at : SiteCall) (calls : List Call) (old new : List Entry) → BrokeAt at calls old new → Grew calls old new
broke_grew at [] old new h = absurd h
broke_grew at (c ∷ cs) old new (inl (name, inl is)) =
    record { more = Failed c is.0 ∷ []; is = is.1; comes = (refl, refl) }
broke_grew at (c ∷ cs) old new (inl (name, inr is)) = record { more = []; is = is ∙ sym (append-nil old); comes = tt }
broke_grew at (c ∷ cs) old new (inr h) =
    let g : Grew cs (old ++ Done c ∷ []) new = broke_grew at cs (old ++ Done c ∷ []) new h in
    record { more = Done c ∷ g.more; is = g.is ∙ append_assoc old (Done c ∷ []) g.more; comes = (refl, g.comes) }

-- the disk after more calls of a site
pub grown_disk : (site site' : SiteState) (more : List Entry) → IsTrue site.tells → Keeps site site'
    → site'.calls ≡ site.calls ++ more → disk_of site' ≡ disk_after (disk_of site) more
grown_disk site site' more tells keeps is =
    ap (λ (f : Folder). disk_after (at_rest f) site'.calls) (keeps.start tells)
    ∙ ap (disk_after (at_rest site.start)) is ∙ run-append (at_rest site.start) site.calls more

-- a stop within them
pub left_within : (site site' : SiteState) (more : List Entry) (files : List ℕ → Option File) → IsTrue site.tells
    → Keeps site site' → site'.calls ≡ site.calls ++ more → (l : IsLeftWithin site site' files)
    → Leaves (disk_after (disk_of site) (until (l.moment - length site.calls) more)) files
left_within site site' more files tells keeps is l =
    let here : MayBeLeft site.start (site.calls ++ more) l.moment files
    = subst (λ (es : List Entry). MayBeLeft site.start es l.moment files) is
    (subst (λ (f : Folder). MayBeLeft f site'.calls l.moment files) (keeps.start tells) l.left) in
    left_past site.start site.calls more (l.moment - length site.calls) l.moment files (omega (arith, l.from)) here
