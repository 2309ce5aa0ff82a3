-- Words, files and a list have one verdict, whatever maps two calls went by.
use Rattle.std.proofs.Common.{◌≡◌, ◌⊎◌, ℕ, Bool, true, false, List, [], ◌∷◌, length, Option, Some, None, refl, sym, ap, ◌∙◌, inl, inr, subst}
use Rattle.std.proofs.lemmas.Bool.{both_ways, cases_lt}
use Rattle.block_list.specs.declared.status.Status.{Status}
use Rattle.mapfile_text.specs.declared.state.MapState.{MapState}
use Rattle.mapfile_text.specs.declared.read.Mode.{Mode}
use Rattle.mapfile_text.specs.declared.read.Mode.TheVariants.{Tight}
use Rattle.mapfile_text.specs.declared.read.MapError.TheVariants.{TooLong}
use Rattle.mapfile_text.specs.MapText.{text_limit}
use Rattle.mapfile_text.proofs.MapOrFault.{is_map_or_has_fault}
use Rattle.crash_site.specs.Files.{File}
use Rattle.mapfile_resume.specs.Named.{IsMapOf, map_mode}
use Rattle.program_promise.specs.Work.{Deeds, with_calls, WorkStep, Take, Look, Open, Make, Read, Works}
use Rattle.program_promise.specs.Verdicts.{RefuseNothing}
use Rattle.program_promise.proofs.VerdictLemmas.{one_verdict}
use Rattle.ddrescuelog_words.specs.declared.mode.LogMode.{LogMode}
use Rattle.ddrescuelog_words.specs.declared.mode.LogMode.TheVariants.{Create}
use Rattle.ddrescuelog_words.specs.Modes.{creates, mapfile_mode}
use Rattle.ddrescuelog_words.specs.Command.{Command}
use Rattle.ddrescuelog_cli.specs.declared.ending.Which.{Which}
use Rattle.ddrescuelog_cli.specs.declared.ending.Which.TheVariants.{DomainMap, RunMap, OtherMap}
use Rattle.ddrescuelog_cli.specs.declared.ending.LogEnding.{LogEnding}
use Rattle.ddrescuelog_cli.specs.declared.ending.LogEnding.TheVariants.{Done, NoMap, MapRefused}
use Rattle.ddrescuelog_cli.specs.Modes.{looks_at_places, log_faults, EndsCreated, EndsAs}
use Rattle.ddrescuelog_cli.specs.Maps.{Found, Maps, IsShownBy, AreMapsOf, AreAskedFor}
use Rattle.ddrescuelog_cli.specs.Refusals.{IfNamed, MapIsRefused, ListRefused}
use Rattle.ddrescuelog_cli.specs.Work.{named_rows, read_rows, UnlessThere, WorksOver, WorksAs}
use Rattle.ddrescuelog_cli.specs.Laws.{FilesHaveOneVerdict, IsVerdict}
use Rattle.ddrescuelog_cli.proofs.VerdictLemmas.{Once, named_once, one_list, over_once, read_once, saved_done, there_once, verdicts}

-- ---- rows that were passed

-- A run may be said by what follows from it, once all rows were passed.
works_more : (rows : List (WorkStep LogEnding)) (run more : LogEnding → Deeds → Type 0)
    → (RefuseNothing rows → (e : LogEnding) (d : Deeds) → run e d → more e d) → (e : LogEnding) (d : Deeds)
    → Works log_faults rows run e d → Works log_faults rows more e d
works_more [] run more then e d w = then tt e d w
works_more (Take ∷ rows) run more then e d (inl w) = inl w
works_more (Take ∷ rows) run more then e d (inr w) = inr (works_more rows run more then e d w)
works_more (Look refuses ∷ rows) run more then e d (inl w) = inl w
works_more (Look refuses ∷ rows) run more then e d (inr w) =
    inr (w.0, works_more rows run more (λ pass. then (w.0, pass)) e d w.1)
works_more (Open name ∷ rows) run more then e d (inl w) = inl w
works_more (Open name ∷ rows) run more then e d (inr w) = inr (w.0, w.1, works_more rows run more then e _ w.2)
works_more (Make calls ∷ rows) run more then e d (inl w) = inl w
works_more (Make calls ∷ rows) run more then e d (inr w) = inr (w.0, w.1, works_more rows run more then e _ w.2)
works_more (Read None file ∷ rows) run more then e d (inl w) = inl w
works_more (Read None file ∷ rows) run more then e d (inr w) = inr (w.0, works_more rows run more then e d w.1)
works_more (Read (Some name) file ∷ rows) run more then e d (inl w) = inl w
works_more (Read (Some name) file ∷ rows) run more then e d (inr (inl w)) = inr (inl w)
works_more (Read (Some name) file ∷ rows) run more then e d (inr (inr w)) =
    inr (inr (w.0, w.1, w.2, w.3, works_more rows run more then e _ w.4))

-- ---- maps that were read

-- a file shows some map
record IsAnyMap (file : Option File) (mode : Mode) : Type 0 where
  shown : MapState
  statuses : List Status
  is : IsShownBy file mode shown statuses

-- one that isn't refused does
map_there : (which : Which) (mode : Mode) (file : Option File)
    → ((v : LogEnding) → MapIsRefused which mode file v → ⊥) → IsAnyMap file mode
map_there which mode None pass = absurd (pass (NoMap which) (inl (refl, refl)))
map_there which mode (Some f) pass =
    elim (cases_lt text_limit (length f.bytes)) [
      | inl long ↦ absurd (pass (MapRefused which TooLong)
          (inr (TooLong, record { there = f; is = refl; why = inl (refl, long) }, refl)))
      | inr short ↦
          elim (is_map_or_has_fault f.bytes mode) [
            | inl m ↦ record {
              shown = m.0;
              statuses = m.3;
              is = record { there = f; is = refl; within = short; first = m.1; listed = m.2; reads = m.4 };
            }
            | inr fault ↦ absurd (pass (MapRefused which fault.0)
                (inr (fault.0, record { there = f; is = refl; why = inr (short, fault.1) }, refl)))
          ]
    ]

-- so what two calls have of it is one, if it is what the file has, and nothing unless it is named
abbrev IsOf : {T : Type 0} → Option (List ℕ) → Mode → Option File → (none : T) → (List Status → T) → T → Type 0
IsOf name mode file none some x =
    ((n : List ℕ) (s : List Status) → name ≡ Some n → IsMapOf file mode s → x ≡ some s) × (name ≡ None → x ≡ none)

one_named : {T : Type 0} (which : Which) (name : Option (List ℕ)) (mode : Mode) (file : Option File) (none : T)
    (some : List Status → T) (x y : T) → IsOf name mode file none some x → IsOf name mode file none some y
    → ((v : LogEnding) → IfNamed name (MapIsRefused which mode file) v → ⊥) → x ≡ y
one_named which None mode file none some x y a b pass = a.1 refl ∙ sym (b.1 refl)
one_named which (Some n) mode file none some x y a b pass =
    let m : IsAnyMap file mode = map_there which mode file (λ v r. pass v (refl, r)) in
    let of : IsMapOf file mode m.statuses = record {
      there = m.is.there;
      is = m.is.is;
      within = m.is.within;
      shown = m.shown;
      first = m.is.first;
      listed = m.is.listed;
      reads = m.is.reads;
    } in
    a.0 n m.statuses refl of ∙ sym (b.0 n m.statuses refl of)

-- the maps that a command goes by, all of them read
record AreRead (c : Command) (found : Found) (m : Maps) : Type 0 where
  are : AreMapsOf c found m
  asked : AreAskedFor c m
  pass : RefuseNothing (read_rows c found)

one_mapfile : (c : Command) (found : Found) (m m' : Maps) → creates c.mode ≡ false → AreRead c found m
    → AreRead c found m' → (m.shown ≡ m'.shown) × (m.statuses ≡ m'.statuses)
one_mapfile c found m m' reads a b =
    let file : IsAnyMap found.mapfile (mapfile_mode c.mode) =
    map_there RunMap (mapfile_mode c.mode) found.mapfile (λ v r. a.pass.0 v (refl, r)) in
    let is : (m.shown ≡ file.shown) × (m.statuses ≡ file.statuses) =
    a.are.mapfile file.shown file.statuses reads file.is in
    let is' : (m'.shown ≡ file.shown) × (m'.statuses ≡ file.statuses) =
    b.are.mapfile file.shown file.statuses reads file.is in
    (is.0 ∙ sym is'.0, is.1 ∙ sym is'.1)

maps_by : (m m' : Maps) → m.shown ≡ m'.shown → m.statuses ≡ m'.statuses → m.other ≡ m'.other → m.domain ≡ m'.domain
    → m' ≡ m
maps_by m m' shown statuses other domain =
    ap (λ (x : MapState). record { shown = x; statuses = m'.statuses; other = m'.other; domain = m'.domain })
    (sym shown)
    ∙ ap (λ (x : List Status). record { shown = m.shown; statuses = x; other = m'.other; domain = m'.domain })
    (sym statuses)
    ∙ ap (λ (x : List Status). record { shown = m.shown; statuses = m.statuses; other = x; domain = m'.domain })
    (sym other)
    ∙ ap (λ (x : Option (List Status)). record { shown = m.shown; statuses = m.statuses; other = m.other; domain = x })
    (sym domain)

one_maps : (c : Command) (found : Found) (m m' : Maps) → creates c.mode ≡ false → AreRead c found m
    → AreRead c found m' → m' ≡ m
one_maps c found m m' reads a b =
    let first : (m.shown ≡ m'.shown) × (m.statuses ≡ m'.statuses) = one_mapfile c found m m' reads a b in
    maps_by m m' first.0 first.1
    (one_named OtherMap c.other Tight found.other [] (λ s. s) m.other m'.other (a.are.other, a.asked.other)
    (b.are.other, b.asked.other) a.pass.1.0)
    (one_named DomainMap c.domain_map (map_mode c.options.loose) found.domain None (λ s. Some s) m.domain m'.domain
    (a.are.domain, a.asked.domain) (b.are.domain, b.asked.domain) a.pass.1.1.0)

-- what is done over maps that were read
abbrev OverRead : Command → (line list : List ℕ) → Found → LogEnding → Deeds → Type 0
OverRead c line list found e d = (m : Maps) × AreRead c found m × WorksOver c line list m e d

over_read_once : (c : Command) (line list : List ℕ) (found : Found) → creates c.mode ≡ false
    → Once (OverRead c line list found)
over_read_once c line list found reads e e' d d' (m, a, w) (m', b, w') v v' =
    over_once c line list m e e' d d' w
    (subst (λ (x : Maps). WorksOver c line list x e' d') (one_maps c found m m' reads a b) w') v v'

-- ---- a map that is created

-- a verdict by the list alone
abbrev IsByList : Command → (list : List ℕ) → LogEnding → Type 0
IsByList c list e =
    ListRefused c.options list e ⊎ (((v : LogEnding) → ListRefused c.options list v → ⊥) × (e ≡ Done))

by_list_once : (c : Command) (list : List ℕ) (e e' : LogEnding) → IsByList c list e → IsByList c list e' → e ≡ e'
by_list_once c list e e' (inl a) (inl b) = one_list c.options list e e' a b
by_list_once c list e e' (inl a) (inr b) = absurd (b.0 e a)
by_list_once c list e e' (inr a) (inl b) = absurd (a.0 e' b)
by_list_once c list e e' (inr a) (inr b) = a.1 ∙ sym b.1

created_by_list : (listed rest : Status) (c : Command) (line list : List ℕ) (m : Maps) (e : LogEnding) (d : Deeds)
    → EndsCreated listed rest c line list m e d → IsVerdict e → IsByList c list e
created_by_list listed rest c line list m e d (inl a) v = absurd (subst IsVerdict a.0 v)
created_by_list listed rest c line list m e d (inr (inl a)) v = inl a.0
created_by_list listed rest c line list m e d (inr (inr (pass, saved))) v =
    inr (pass, saved_done c saved.1 e d saved.4 v)

ends_by_list : (mode : LogMode) (c : Command) (line list : List ℕ) (m : Maps) (e : LogEnding) (d : Deeds)
    → creates mode ≡ true → EndsAs mode c line list m e d → IsVerdict e → IsByList c list e
ends_by_list (Create listed rest) c line list m e d new w v = created_by_list listed rest c line list m e d w v
ends_by_list _ c line list m e d new w v = absurd (cc)

no_places : (mode : LogMode) → creates mode ≡ true → looks_at_places mode ≡ false
no_places (Create listed rest) new = refl
no_places _ new = absurd (cc)

-- what is done over some maps for a map that is created
abbrev OverNew : Command → (line list : List ℕ) → LogEnding → Deeds → Type 0
OverNew c line list e d = (m : Maps) × WorksOver c line list m e d

over_by_list : (c : Command) (line list : List ℕ) (m : Maps) (e : LogEnding) (d : Deeds) → creates c.mode ≡ true
    → WorksOver c line list m e d → IsVerdict e → IsByList c list e
over_by_list c line list m e d new (inl w) v = absurd (subst IsVerdict w.0 v)
over_by_list c line list m e d new (inr (inl w)) v =
    absurd (both_ways (looks_at_places c.mode) (no_places c.mode new) w.0.lists)
over_by_list c line list m e d new (inr (inr w)) v = ends_by_list c.mode c line list m e d new w.1 v

over_new_once : (c : Command) (line list : List ℕ) → creates c.mode ≡ true → Once (OverNew c line list)
over_new_once c line list new e e' d d' (m, w) (m', w') v v' =
    by_list_once c list e e' (over_by_list c line list m e d new w v) (over_by_list c line list m' e' d' new w' v')

there_more : (forced : Bool) (name : List ℕ) (file : Option File) (run more : LogEnding → Deeds → Type 0)
    → ((e : LogEnding) (d : Deeds) → run e d → more e d) → (e : LogEnding) (d : Deeds)
    → UnlessThere forced name file run e d → UnlessThere forced name file more e d
there_more true name file run more then e d w = then e d w
there_more false name file run more then e d (inl w) = inl w
there_more false name file run more then e d (inr (x, r, s, i, inl p)) = inr (x, r, s, i, inl p)
there_more false name file run more then e d (inr (x, r, s, i, inr w)) =
    inr (x, r, s, i, inr (w.0, then e (with_calls d r) w.1))

-- ---- all of it

abbrev AreMaps : Command → Found → Maps → Type 0
AreMaps c found m = AreMapsOf c found m × AreAskedFor c m

-- the work, whatever maps it goes by
abbrev AnyWork : (new : Bool) → Command → (line list : List ℕ) → Found → LogEnding → Deeds → Type 0
AnyWork false c line list found = Works log_faults (Take ∷ read_rows c found) (OverRead c line list found)
AnyWork true c line list found =
    Works log_faults (Take ∷ [])
    (UnlessThere c.options.forced c.mapfile found.mapfile
    (Works log_faults (named_rows c found) (OverNew c line list)))

any_work : (new : Bool) (c : Command) (line list : List ℕ) (found : Found) (m : Maps) → AreMaps c found m
    → (e : LogEnding) (d : Deeds) → WorksAs new c line list found m e d → AnyWork new c line list found e d
any_work false c line list found m maps e d w =
    works_more (Take ∷ read_rows c found) (WorksOver c line list m) (OverRead c line list found)
    (λ pass v x over. (m, record { are = maps.0; asked = maps.1; pass = pass }, over)) e d w
any_work true c line list found m maps e d w =
    let named : LogEnding → Deeds → Type 0 = Works log_faults (named_rows c found) (WorksOver c line list m) in
    let any : LogEnding → Deeds → Type 0 = Works log_faults (named_rows c found) (OverNew c line list) in
    works_more (Take ∷ []) (UnlessThere c.options.forced c.mapfile found.mapfile named)
    (UnlessThere c.options.forced c.mapfile found.mapfile any)
    (λ pass. there_more c.options.forced c.mapfile found.mapfile named any
    (works_more (named_rows c found) (WorksOver c line list m) (OverNew c line list) (λ passed v x over. (m, over))))
    e d w

any_once : (new : Bool) (c : Command) (line list : List ℕ) (found : Found) → creates c.mode ≡ new
    → Once (AnyWork new c line list found)
any_once false c line list found is =
    one_verdict LogEnding log_faults IsVerdict verdicts (Take ∷ read_rows c found) (OverRead c line list found)
    (read_once c found) (over_read_once c line list found is)
any_once true c line list found is =
    let any : LogEnding → Deeds → Type 0 = Works log_faults (named_rows c found) (OverNew c line list) in
    one_verdict LogEnding log_faults IsVerdict verdicts (Take ∷ [])
    (UnlessThere c.options.forced c.mapfile found.mapfile any) tt
    (there_once c.options.forced c.mapfile found.mapfile any
    (one_verdict LogEnding log_faults IsVerdict verdicts (named_rows c found) (OverNew c line list)
    (named_once c found) (over_new_once c line list is)))

pub files_have_one_verdict : FilesHaveOneVerdict
files_have_one_verdict c line list found m m' e e' d d' are asked are' asked' w w' v v' =
    any_once (creates c.mode) c line list found refl e e' d d'
    (any_work (creates c.mode) c line list found m (are, asked) e d w)
    (any_work (creates c.mode) c line list found m' (are', asked') e' d' w') v v'
