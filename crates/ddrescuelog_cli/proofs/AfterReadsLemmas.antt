-- The calls of some work: reads of maps, and after them what its mode calls.
use Rattle.std.proofs.Common.{◌≡◌, ◌≢◌, ◌⊎◌, ℕ, Bool, true, false, List, [], ◌∷◌, ◌++◌, map, Option, Some, None, refl, sym, ap, ◌∙◌, inl, inr, subst, append_assoc, append-nil}
use Rattle.std.proofs.lemmas.List.Elements.{All-nil, All-cons}
use Rattle.mapfile_text.specs.declared.read.Mode.{Mode}
use Rattle.mapfile_text.specs.declared.read.Mode.TheVariants.{Tight}
use Rattle.crash_site.specs.Files.{File}
use Rattle.crash_site.specs.Calls.{Call, Entry, Done as Returned, map_read}
use Rattle.crash_site.specs.declared.site.SiteCall.TheVariants.{MapRead}
use Rattle.mapfile_save.specs.Loading.{piece_size}
use Rattle.mapfile_resume.specs.Named.{map_mode}
use Rattle.program_promise.specs.Work.{Deeds, WorkStep, Take, Look, Open, Make, Read, Works}
use Rattle.program_promise.proofs.FrontLemmas.{IsMapRead, load_reads}
use Rattle.program_promise.proofs.ReadLemmas.{AreReads, both_are, maps_are, maps_broke, same_reads}
use Rattle.ddrescuelog_words.specs.Modes.{mapfile_mode}
use Rattle.ddrescuelog_words.specs.Command.{Command}
use Rattle.ddrescuelog_cli.specs.declared.ending.Which.{Which}
use Rattle.ddrescuelog_cli.specs.declared.ending.Which.TheVariants.{DomainMap, RunMap, OtherMap}
use Rattle.ddrescuelog_cli.specs.declared.ending.LogEnding.{LogEnding}
use Rattle.ddrescuelog_cli.specs.declared.ending.LogEnding.TheVariants.{Done, SiteFault, NoMemory}
use Rattle.program_promise.specs.Parts.{only_calls}
use Rattle.ddrescuelog_cli.specs.Modes.{log_faults, EndsAs}
use Rattle.ddrescuelog_cli.specs.Maps.{Found, Maps}
use Rattle.ddrescuelog_cli.specs.Refusals.{IfNamed, MapIsRefused, MapIsThere}
use Rattle.ddrescuelog_cli.specs.Work.{PlacesRefused, named_rows, read_rows, WorksOver, UnlessThere, WorksAs}
use Rattle.ddrescuelog_cli.proofs.FoundLemmas.{RowsGive}
use Rattle.ddrescuelog_cli.proofs.ReadLemmas.{OnlyRead}

-- Some calls are reads, and after them come none, if the work stopped by then, or those of a run.
pub record AfterReads (P : LogEnding → Type 0) (run : LogEnding → Deeds → Type 0) (e : LogEnding) (calls : List Entry)
    : Type 0 where
  pub front : List Entry
  pub rest : List Entry
  pub grew : calls ≡ front ++ rest
  pub reads : AreReads front
  pub ends : ((rest ≡ []) × P e) ⊎ run e (only_calls rest)

-- it stopped with these reads
pub stopped_by : (P : LogEnding → Type 0) (run : LogEnding → Deeds → Type 0) (e v : LogEnding) (calls : List Entry)
    → e ≡ v → P v → AreReads calls → AfterReads P run e calls
stopped_by P run e v calls is has reads = record {
  front = calls;
  rest = [];
  grew = sym (append-nil calls);
  reads = reads;
  ends = inl (refl, subst P (sym is) has);
}

-- it went on after these reads
went_by : (P : LogEnding → Type 0) (run : LogEnding → Deeds → Type 0) (e : LogEnding) (front rest calls : List Entry)
    → calls ≡ front ++ rest → AreReads front → AfterReads P run e rest → AfterReads P run e calls
went_by P run e front rest calls grew reads b = record {
  front = front ++ b.front;
  rest = b.rest;
  grew = grew ∙ ap (λ (r : List Entry). front ++ r) b.grew ∙ sym (append_assoc front b.front b.rest);
  reads = both_are front b.front reads b.reads;
  ends = b.ends;
}

pub after_rows : (P : LogEnding → Type 0) (rows : List (WorkStep LogEnding)) (run : LogEnding → Deeds → Type 0)
    → OnlyRead rows → RowsGive P rows → (e : LogEnding) (calls : List Entry)
    → Works log_faults rows run e (only_calls calls) → AfterReads P run e calls
after_rows P [] run only give e calls w =
    record { front = []; rest = calls; grew = refl; reads = tt; ends = inr w }
after_rows P (Take ∷ rows) run only give e calls (inl w) =
    stopped_by P run e NoMemory calls w.0 give.0 (same_reads calls [] w.1.gain.calls tt)
after_rows P (Take ∷ rows) run only give e calls (inr w) = after_rows P rows run only give.1 e calls w
after_rows P (Look refuses ∷ rows) run only give e calls (inl w) =
    stopped_by P run e e calls refl (give.0 e w.0) (same_reads calls [] w.1.gain.calls tt)
after_rows P (Look refuses ∷ rows) run only give e calls (inr w) = after_rows P rows run only give.1 e calls w.1
after_rows P (Open name ∷ rows) run only give e calls w = absurd only
after_rows P (Make made ∷ rows) run only give e calls (inl w) =
    stopped_by P run e (SiteFault w.0) calls w.1 (give.0 w.0 calls w.2)
    (maps_broke w.0 made [] calls only.0 tt w.2)
after_rows P (Make made ∷ rows) run only give e calls (inr w) =
    went_by P run e (map Returned made) w.0 calls w.1 (maps_are made only.0)
    (after_rows P rows run only.1 give.1 e w.0 w.2)
after_rows P (Read None file ∷ rows) run only give e calls (inl w) =
    stopped_by P run e NoMemory calls w.0 give.0 (same_reads calls [] w.1.gain.calls tt)
after_rows P (Read None file ∷ rows) run only give e calls (inr w) = after_rows P rows run only give.2 e calls w.1
after_rows P (Read (Some name) file ∷ rows) run only give e calls (inl w) =
    stopped_by P run e (SiteFault MapRead) calls w.1 give.1
    (maps_broke MapRead w.0 [] calls (load_reads name file w.0 w.2) tt w.3)
after_rows P (Read (Some name) file ∷ rows) run only give e calls (inr (inl w)) =
    stopped_by P run e NoMemory calls w.1 give.0
    (same_reads calls (map Returned w.0) w.3 (maps_are w.0 (load_reads name file w.0 w.2)))
after_rows P (Read (Some name) file ∷ rows) run only give e calls (inr (inr w)) =
    went_by P run e (map Returned w.0) w.1 calls w.3 (maps_are w.0 (load_reads name file w.0 w.2.begins))
    (after_rows P rows run only give.2 e w.1 w.4)

-- work after work
pub after_both : (P : LogEnding → Type 0) (run last : LogEnding → Deeds → Type 0) (e : LogEnding) (calls : List Entry)
    → ((rest : List Entry) → run e (only_calls rest) → AfterReads P last e rest) → AfterReads P run e calls
    → AfterReads P last e calls
after_both P run last e calls more b =
    elim b.ends [
      | inl stopped ↦ record { front = b.front; rest = b.rest; grew = b.grew; reads = b.reads; ends = inl stopped }
      | inr w ↦ went_by P last e b.front b.rest calls b.grew b.reads (more b.rest w)
    ]

-- ---- all of it

-- an answer that isn't that the work was done
abbrev pub IsShort : LogEnding → Type 0
IsShort e = e ≢ Done

map_short : (which : Which) (mode : Mode) (name : Option (List ℕ)) (file : Option File) (e : LogEnding)
    → IfNamed name (MapIsRefused which mode file) e → IsShort e
map_short which mode name file e (named, inl missing) done = cc
map_short which mode name file e (named, inr refused) done = cc

named_short : (c : Command) (found : Found) → RowsGive IsShort (named_rows c found)
named_short c found = (
  (λ is. cc),
  (λ is. cc),
  (
    map_short OtherMap Tight c.other found.other,
    ((λ is. cc), (λ is. cc), (map_short DomainMap (map_mode c.options.loose) c.domain_map found.domain, tt)),
  ),
)

read_short : (c : Command) (found : Found) → RowsGive IsShort (read_rows c found)
read_short c found = (
  (λ is. cc),
  (λ is. cc),
  (
    map_short RunMap (mapfile_mode c.mode) (Some c.mapfile) found.mapfile,
    named_short c found,
  ),
)

over_after : (c : Command) (line list : List ℕ) (m : Maps) (e : LogEnding) (calls : List Entry)
    → WorksOver c line list m e (only_calls calls) → AfterReads IsShort (EndsAs c.mode c line list m) e calls
over_after c line list m =
    after_rows IsShort (Take ∷ Look (PlacesRefused c m) ∷ []) (EndsAs c.mode c line list m) tt
    ((λ is. cc), ((λ v r done. cc), tt))

there_after : (forced : Bool) (name : List ℕ) (file : Option File) (more : LogEnding → Deeds → Type 0) (e : LogEnding)
    (calls : List Entry) → UnlessThere forced name file more e (only_calls calls) → AfterReads IsShort more e calls
there_after true name file more e calls w =
    record { front = []; rest = calls; grew = refl; reads = tt; ends = inr w }
there_after false name file more e calls (inl (is, lost, alone)) =
    let asked : Call = map_read name 0 piece_size None in
    stopped_by IsShort more e (SiteFault MapRead) calls is (λ done. cc)
    (maps_broke MapRead (asked ∷ []) [] calls (All-cons IsMapRead asked [] refl (All-nil IsMapRead)) tt
    (inl (refl, lost)))
there_after false name file more e calls (inr (answer, rest, says, grew, w)) =
    let asked : Call = map_read name 0 piece_size (Some answer) in
    went_by IsShort more e (Returned asked ∷ []) rest calls grew
    (refl, tt)
    (after_rows IsShort (Look (MapIsThere file) ∷ []) more tt ((λ v there done. cc), tt) e rest w)

pub after_works : (new : Bool) (c : Command) (line list : List ℕ) (found : Found) (m : Maps) (e : LogEnding)
    (calls : List Entry) → WorksAs new c line list found m e (only_calls calls)
    → AfterReads IsShort (EndsAs c.mode c line list m) e calls
after_works false c line list found m e calls w =
    after_both IsShort (WorksOver c line list m) (EndsAs c.mode c line list m) e calls (over_after c line list m e)
    (after_rows IsShort (Take ∷ read_rows c found) (WorksOver c line list m) tt ((λ is. cc), read_short c found)
    e calls w)
after_works true c line list found m e calls w =
    let named : LogEnding → Deeds → Type 0 = Works log_faults (named_rows c found) (WorksOver c line list m) in
    after_both IsShort named (EndsAs c.mode c line list m) e calls
    (λ rest x. after_both IsShort (WorksOver c line list m) (EndsAs c.mode c line list m) e rest
    (over_after c line list m e)
    (after_rows IsShort (named_rows c found) (WorksOver c line list m) tt (named_short c found) e rest x))
    (after_both IsShort (UnlessThere c.options.forced c.mapfile found.mapfile named) named e calls
    (there_after c.options.forced c.mapfile found.mapfile named e)
    (after_rows IsShort (Take ∷ []) (UnlessThere c.options.forced c.mapfile found.mapfile named) tt ((λ is. cc), tt)
    e calls w))
