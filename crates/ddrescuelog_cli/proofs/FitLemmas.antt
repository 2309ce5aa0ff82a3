-- An answer comes only where the words ask for what it speaks of.
use Rattle.std.proofs.Common.{◌≡◌, ℕ, Bool, true, false, List, [], ◌∷◌, ◌++◌, map, Option, refl, sym, ap, inl, inr, subst}
use Rattle.std.specs.Prelude.{⊤}
use Rattle.block_list.specs.declared.status.Status.{Status}
use Rattle.mapfile_text.specs.declared.read.Mode.{Mode}
use Rattle.mapfile_text.specs.declared.read.Mode.TheVariants.{Tight}
use Rattle.mapfile_text.specs.Pieces.{pieces_of}
use Rattle.option_words.specs.declared.fault.UsageFault.TheVariants.{PlaceTooLarge}
use Rattle.crash_site.specs.declared.site.SiteCall.{SiteCall}
use Rattle.crash_site.specs.declared.site.SiteCall.TheVariants.{MapRead}
use Rattle.crash_site.specs.Files.{File}
use Rattle.crash_site.specs.Calls.{Call, Entry, draft_append}
use Rattle.crash_site.specs.CallsMade.{call_name, BrokeAt}
use Rattle.mapfile_save.specs.MapNames.{MapNames, names_of}
use Rattle.mapfile_resume.specs.Named.{map_mode}
use Rattle.mapfile_save.specs.Saving.{fill_calls, save_calls}
use Rattle.program_promise.specs.Work.{Deeds, with_calls, Take, Look, Make, Works}
use Rattle.ddrescuelog_words.specs.declared.mode.LogMode.{LogMode}
use Rattle.ddrescuelog_words.specs.declared.mode.LogMode.TheVariants.{Create, Test, Compare}
use Rattle.ddrescuelog_words.specs.Modes.{creates, removes_map, mapfile_mode}
use Rattle.ddrescuelog_words.specs.Command.{Command}
use Rattle.ddrescuelog_cli.specs.declared.ending.Which.{Which}
use Rattle.ddrescuelog_cli.specs.declared.ending.Which.TheVariants.{DomainMap, RunMap, OtherMap}
use Rattle.ddrescuelog_cli.specs.declared.ending.LogEnding.{LogEnding}
use Rattle.ddrescuelog_cli.specs.declared.ending.LogEnding.TheVariants.{Done, NotDone, Differ, Usage, Exists, NoMap, MapRefused, BadNumber, ListTooLong, SiteFault, FeedFault, ConsoleFault}
use Rattle.ddrescuelog_cli.specs.Modes.{compares, prints, tests, log_faults, OnlyAnswers, EndsPrinted, EndsCreated, EndsAs, removal_calls}
use Rattle.ddrescuelog_cli.specs.Maps.{Found, Maps}
use Rattle.ddrescuelog_cli.specs.Refusals.{MapIsRefused, ListRefused}
use Rattle.ddrescuelog_cli.specs.Answers.{IsNamedMap, MayCall, FitsCommand}
use Rattle.ddrescuelog_cli.specs.Work.{PlacesRefused, named_rows, read_rows, WorksOver, UnlessThere, WorksAs}
use Rattle.ddrescuelog_cli.specs.Laws.{AnswersFit}
use Rattle.ddrescuelog_cli.proofs.FoundLemmas.{RowsGive, answers_have}
use Rattle.ddrescuelog_cli.proofs.VerdictLemmas.{Saves}

abbrev Fits : Command → LogEnding → Type 0
Fits c e = FitsCommand e c

fits_as : (c : Command) (e v : LogEnding) → e ≡ v → Fits c v → Fits c e
fits_as c e v is fits = subst (Fits c) (sym is) fits

-- ---- the maps

map_fits : (c : Command) (which : Which) (mode : Mode) (file : Option File) (e : LogEnding) → IsNamedMap which c
    → MapIsRefused which mode file e → Fits c e
map_fits c which mode file e reads (inl missing) = fits_as c e (NoMap which) missing.1 reads
map_fits c which mode file e reads (inr refused) = fits_as c e (MapRefused which refused.0) refused.2 reads

named_fit : (c : Command) (found : Found) → RowsGive (Fits c) (named_rows c found)
named_fit c found = (
  tt,
  tt,
  (
    (λ e r. map_fits c OtherMap Tight found.other e r.0 r.1),
    (tt, tt, ((λ e r. map_fits c DomainMap (map_mode c.options.loose) found.domain e r.0 r.1), tt)),
  ),
)

read_fit : (c : Command) (found : Found) → creates c.mode ≡ false → RowsGive (Fits c) (read_rows c found)
read_fit c found reads =
    (tt, tt, ((λ e r. map_fits c RunMap (mapfile_mode c.mode) found.mapfile e reads r.1), named_fit c found))

-- ---- calls on the files

-- a mode may make these calls
abbrev MayMake : Command → List Call → Type 0
MayMake c [] = ⊤
MayMake c (call ∷ calls) = MayCall (call_name call) c × MayMake c calls

may_both : (c : Command) (front more : List Call) → MayMake c front → MayMake c more → MayMake c (front ++ more)
may_both c [] more may later = later
may_both c (call ∷ front) more may later = (may.0, may_both c front more may.1 later)

broke_fits : (c : Command) (calls : List Call) → MayMake c calls → (at : SiteCall) (old new : List Entry)
    → BrokeAt at calls old new → MayCall at c
broke_fits c [] may at old new broke = absurd broke
broke_fits c (call ∷ calls) may at old new (inl broke) = subst (λ (n : SiteCall). MayCall n c) (sym broke.0) may.0
broke_fits c (call ∷ calls) may at old new (inr broke) = broke_fits c calls may.1 at _ new broke

may_fill : (c : Command) (pieces : List (List ℕ)) → creates c.mode ≡ true → MayMake c (map draft_append pieces)
may_fill c [] new = tt
may_fill c (piece ∷ pieces) new = (new, may_fill c pieces new)

may_save : (c : Command) (names : MapNames) (text : List ℕ) → creates c.mode ≡ true → MayMake c (save_calls names text)
may_save c names text new =
    (new, (new, may_both c (fill_calls text) _ (may_fill c (pieces_of text) new) (new, (new, (inl new, tt)))))

-- ---- what a mode does

printed_fits : (c : Command) (e : LogEnding) (d : Deeds) → prints c.mode ≡ true → EndsPrinted e d → Fits c e
printed_fits c e d prints (inl a) = fits_as c e ConsoleFault a.0 prints
printed_fits c e d prints (inr a) = fits_as c e Done a.0 tt

list_fits : (c : Command) (list : List ℕ) (e : LogEnding) → creates c.mode ≡ true → ListRefused c.options list e
    → Fits c e
list_fits c list e new (inl a) = fits_as c e ListTooLong a.1 new
list_fits c list e new (inr a) = fits_as c e (BadNumber a.0) a.3 new

created_fits : (listed rest : Status) (c : Command) (line list : List ℕ) (m : Maps) (e : LogEnding) (d : Deeds)
    → creates c.mode ≡ true → EndsCreated listed rest c line list m e d → Fits c e
created_fits listed rest c line list m e d new (inl a) = fits_as c e FeedFault a.0 new
created_fits listed rest c line list m e d new (inr w) =
    answers_have (Fits c) (Look (ListRefused c.options list) ∷ []) (Saves listed rest c line list m)
    ((λ x r. list_fits c list x new r), tt)
    (λ x f s. answers_have (Fits c) (Make (save_calls (names_of c.mapfile) s.1) ∷ []) (OnlyAnswers Done) (
      (λ call made b. broke_fits c (save_calls (names_of c.mapfile) s.1) (may_save c (names_of c.mapfile) s.1 new)
          call []
          made b),
      tt,
    )
    (λ y g h. fits_as c y Done h.0 tt) x f s.4)
    e d w

removal_fits : (c : Command) (at : SiteCall) (made : List Entry) → removes_map c.mode ≡ true
    → BrokeAt at (removal_calls c.mapfile) [] made → MayCall at c
removal_fits c at made removes broke =
    broke_fits c (removal_calls c.mapfile) (removes, (inr removes, tt)) at [] made broke

ends_fit : (mode : LogMode) (c : Command) → c.mode ≡ mode → (line list : List ℕ) (m : Maps) (e : LogEnding) (d : Deeds)
    → EndsAs mode c line list m e d → Fits c e
ends_fit (Create listed rest) c is line list m e d w = created_fits listed rest c line list m e d (ap creates is) w
ends_fit (Test true) c is line list m e d (inl (r, idle)) = fits_as c e NotDone r.1 (ap tests is)
ends_fit (Test true) c is line list m e d (inr (passed, inl b)) =
    fits_as c e (SiteFault b.0) b.1 (removal_fits c b.0 d.gain.calls (ap removes_map is) b.2)
ends_fit (Test true) c is line list m e d (inr (passed, inr w)) = fits_as c e Done w.2.0 tt
ends_fit (Test false) c is line list m e d (inl a, idle) = fits_as c e Done a.0 tt
ends_fit (Test false) c is line list m e d (inr a, idle) = fits_as c e NotDone a.0 (ap tests is)
ends_fit (Compare false) c is line list m e d (inl a, idle) = fits_as c e Done a.0 tt
ends_fit (Compare false) c is line list m e d (inr a, idle) = fits_as c e Differ a.0 (ap compares is)
ends_fit (Compare true) c is line list m e d (inl a, idle) = fits_as c e Done a.0 tt
ends_fit (Compare true) c is line list m e d (inr a, idle) = fits_as c e Differ a.0 (ap compares is)
ends_fit _ c is line list m e d w = printed_fits c e d (ap prints is) w

-- ---- all of it

over_fit : (c : Command) (line list : List ℕ) (m : Maps) (e : LogEnding) (d : Deeds) → WorksOver c line list m e d
    → Fits c e
over_fit c line list m =
    answers_have (Fits c) (Take ∷ Look (PlacesRefused c m) ∷ []) (EndsAs c.mode c line list m)
    (tt, ((λ e r. fits_as c e (Usage PlaceTooLarge) r.is r.lists), tt)) (ends_fit c.mode c refl line list m)

there_fits : (c : Command) (forced : Bool) → c.options.forced ≡ forced → creates c.mode ≡ true → (name : List ℕ)
    (file : Option File) (more : LogEnding → Deeds → Type 0) → ((e : LogEnding) (d : Deeds) → more e d → Fits c e)
    → (e : LogEnding) (d : Deeds) → UnlessThere forced name file more e d → Fits c e
there_fits c true is new name file more last e d w = last e d w
there_fits c false is new name file more last e d (inl (at, lost, alone)) = fits_as c e (SiteFault MapRead) at tt
there_fits c false is new name file more last e d (inr (x, rest, s, g, inl p)) = fits_as c e Exists p.0.1 (new, is)
there_fits c false is new name file more last e d (inr (x, rest, s, g, inr w)) = last e (with_calls d rest) w.1

works_fit : (new : Bool) (c : Command) → creates c.mode ≡ new → (line list : List ℕ) (found : Found) (m : Maps)
    (e : LogEnding) (d : Deeds) → WorksAs new c line list found m e d → Fits c e
works_fit false c is line list found m =
    answers_have (Fits c) (Take ∷ read_rows c found) (WorksOver c line list m) (tt, read_fit c found is)
    (over_fit c line list m)
works_fit true c is line list found m =
    answers_have (Fits c) (Take ∷ [])
    (UnlessThere c.options.forced c.mapfile found.mapfile
    (Works log_faults (named_rows c found) (WorksOver c line list m)))
    (tt, tt)
    (there_fits c c.options.forced refl is c.mapfile found.mapfile
    (Works log_faults (named_rows c found) (WorksOver c line list m))
    (answers_have (Fits c) (named_rows c found) (WorksOver c line list m) (named_fit c found) (over_fit c line list m)))

pub answers_fit : AnswersFit
answers_fit c line list found m e d w = works_fit (creates c.mode) c refl line list found m e d w
