-- A map that is created, from the first step to its save.
use Rattle.std.proofs.Common.{◌≡◌, ◌⊎◌, ℕ, ◌≤◌, true, false, IsTrue, List, [], ◌∷◌, ◌++◌, map, length, Option, Some, None, Ok, Err, refl, sym, ap, ◌∙◌, inl, inr, subst, append_assoc, append-nil, arith}
use Rattle.std.proofs.lemmas.Bool.{both_ways}
use Rattle.block_list.specs.declared.status.Status.{Status}
use Rattle.block_list.specs.Tiled.{Tiled, statuses_in}
use Rattle.mapfile_text.specs.declared.read.Mode.{Mode}
use Rattle.mapfile_text.specs.declared.heading.Program.TheVariants.{Ddrescuelog}
use Rattle.mapfile_text.specs.HeadingLines.{HeadingLines}
use Rattle.mapfile_text.specs.Printed.{printed}
use Rattle.mapfile_text.specs.Pieces.{pieces_of}
use Rattle.crash_site.specs.declared.site.SiteCall.{SiteCall}
use Rattle.crash_site.specs.Files.{File}
use Rattle.crash_site.specs.Calls.{Call, draft_append, draft_sync}
use Rattle.crash_site.specs.SiteState.{SiteState, files_in}
use Rattle.rescue_console.specs.FeedState.{FeedState}
use Rattle.mapfile_save.specs.declared.draft.SaveFault.{SaveFault}
use Rattle.mapfile_save.specs.MapNames.{MapNames, names_of}
use Rattle.mapfile_resume.specs.Named.{IsMapOf, map_mode, HasStatuses}
use Rattle.mapfile_save.specs.Saving.{save_calls, publish_calls, IsNameIn, Saves}
use Rattle.map_algebra.specs.Numbers.{list_limit, numbers_in}
use Rattle.rescue_rules.specs.Beginning.{nothing_shown}
use Rattle.program_promise.specs.Work.{Deeds, Works, Make}
use Rattle.ddrescuelog_words.specs.declared.mode.LogMode.TheVariants.{Create}
use Rattle.ddrescuelog_words.specs.Modes.{creates, has_other}
use Rattle.ddrescuelog_words.specs.Command.{Command, AreInLimits}
use Rattle.mapfile_resume.proofs.NamedLemmas.{map_is_one}
use Rattle.program_promise.proofs.LoadLemmas.{by_tells}
use Rattle.program_promise.proofs.GainLemmas.{GainsBroken, broke_gains, broke_named}
use Rattle.ddrescuelog_cli.specs.declared.ending.LogEnding.{LogEnding}
use Rattle.ddrescuelog_cli.specs.declared.ending.LogEnding.TheVariants.{Done, SiteFault, FeedFault, NoMemory}
use Rattle.ddrescuelog_cli.specs.Maps.{Found, Maps, AreMapsOf, AreAskedFor, found_in, shape_of}
use Rattle.ddrescuelog_cli.specs.Modes.{looks_at_places, log_faults, OnlyAnswers, EndsCreated, EndsAs}
use Rattle.ddrescuelog_cli.specs.Refusals.{ListRefused}
use Rattle.ddrescuelog_cli.specs.Results.{IsCreated, map_text}
use Rattle.program_promise.specs.Parts.{only_calls}
use Rattle.ddrescuelog_cli.specs.Work.{WorksOver}
use Rattle.ddrescuelog_cli.specs.Answers.{TakenBefore, AllTaken}
use Rattle.ddrescuelog_cli.specs.After.{FeedLeft}
use Rattle.ddrescuelog_cli.specs.Creating.{Looks, MakesList, AreOfList, SavesText, CreatesMap}
use Rattle.ddrescuelog_cli.proofs.CallLemmas.{Broken, broken_at}

-- ---- the save

pub broke_text : {T : Type 0} (names : MapNames) (text : List ℕ) (f : SaveFault) (old new : SiteState)
    → Saves {T = T} (save_calls names text) false (Err f) old new → SavesText names text (SiteFault f.call) old new
broke_text names text f old new s =
    let all : List Call = save_calls names text in
    by_tells old.tells (SavesText names text (SiteFault f.call) old new)
    (λ t.
    let g : GainsBroken f.call all old.calls new.calls = broke_gains f.call all old.calls new.calls (s.broke.broke t) in
    record {
      calls = g.more;
      gained = λ u. g.grew;
      did = inl (f.call, refl, g.broke, record { opens = refl; reads = refl; times = refl });
    })
    (λ n.
    let b : Broken f.call all [] = broken_at f.call all [] s.named in
    record {
      calls = b.new;
      gained = λ u. absurd (n u);
      did = inl (f.call, refl, b.broke, record { opens = refl; reads = refl; times = refl });
    })

-- ---- what a save finds of the feed

-- this call comes after the whole list
abbrev ComesAfter : SiteCall → Type 0
ComesAfter call = (old new : FeedState) → AllTaken old new → TakenBefore call old new

publish_after : (call : SiteCall) (names : MapNames) → IsNameIn call (publish_calls names) → ComesAfter call
publish_after call names (inl is) = subst ComesAfter (sym is) (λ old new all. all)
publish_after call names (inr (inl is)) = subst ComesAfter (sym is) (λ old new all. all)
publish_after call names (inr (inr none)) = absurd none

pieces_after : (call : SiteCall) (names : MapNames) (pieces : List (List ℕ))
    → IsNameIn call (map draft_append pieces ++ draft_sync ∷ publish_calls names) → ComesAfter call
pieces_after call names [] (inl is) = subst ComesAfter (sym is) (λ old new all. all)
pieces_after call names [] (inr h) = publish_after call names h
pieces_after call names (p ∷ ps) (inl is) = subst ComesAfter (sym is) (λ old new all. all)
pieces_after call names (p ∷ ps) (inr h) = pieces_after call names ps h

save_after : (call : SiteCall) (names : MapNames) (text : List ℕ) → IsNameIn call (save_calls names text)
    → ComesAfter call
save_after call names text (inl is) = subst ComesAfter (sym is) (λ old new all. all)
save_after call names text (inr (inl is)) = subst ComesAfter (sym is) (λ old new all. all)
save_after call names text (inr (inr h)) = pieces_after call names (pieces_of text) h

feed_saved : (names : MapNames) (text : List ℕ) (e : LogEnding) (d : Deeds) (old new : FeedState)
    → Works log_faults (Make (save_calls names text) ∷ []) (OnlyAnswers Done) e d → FeedLeft Done old new
    → FeedLeft e old new
feed_saved names text e d old new (inl (call, is, broke, only)) b =
    subst (λ v. FeedLeft v old new) (sym is)
    (record {
      keeps = b.keeps;
      counts = b.counts;
      takes = save_after call names text
          (broke_named call (save_calls names text) [] d.gain.calls broke) old new b.takes;
    })
feed_saved names text e d old new (inr (rest, all, (is, idle))) b =
    subst (λ v. FeedLeft v old new) (sym is) b

pub feed_after_save : (names : MapNames) (text : List ℕ) (e : LogEnding) (site site' : SiteState)
    (old new : FeedState) → SavesText names text e site site' → FeedLeft Done old new → FeedLeft e old new
feed_after_save names text e site site' old new s b =
    feed_saved names text e (only_calls s.calls) old new s.did b

-- ---- the maps

abbrev maps_made : Option Tiled → Maps
maps_made tiles = record { shown = nothing_shown; statuses = []; other = []; domain = statuses_in tiles }

domain_is : (asked : Option (List ℕ)) (mode : Mode) (file : Option File) (have : Option (List Status))
    → HasStatuses asked mode file have → (name : List ℕ) (statuses : List Status) → asked ≡ Some name
    → IsMapOf file mode statuses → have ≡ Some statuses
domain_is None mode file have h name statuses is of = absurd (cc)
domain_is (Some n) mode file None h name statuses is of = absurd h
domain_is (Some n) mode file (Some have) h name statuses is of =
    ap (λ (s : List Status). Some s) (map_is_one file mode have statuses h of)

none_asked : (asked : Option (List ℕ)) (mode : Mode) (file : Option File) (have : Option (List Status))
    → HasStatuses asked mode file have → asked ≡ None → have ≡ None
none_asked None mode file have h none = h
none_asked (Some n) mode file have h none = absurd (cc)

made_are : (c : Command) (found : Found) (tiles : Option Tiled) → creates c.mode ≡ true → c.other ≡ None
    → HasStatuses c.domain_map (map_mode c.options.loose) found.domain (statuses_in tiles)
    → AreMapsOf c found (maps_made tiles)
made_are c found tiles created alone has = record {
  mapfile = λ shown statuses read is. absurd (both_ways (creates c.mode) read created);
  other = λ name statuses named is. let no : None ≡ Some name = sym alone ∙ named in absurd (cc);
  domain = λ name statuses named is.
      domain_is c.domain_map (map_mode c.options.loose) found.domain (statuses_in tiles) has name statuses named is;
}

made_asked : (c : Command) (found : Found) (tiles : Option Tiled)
    → HasStatuses c.domain_map (map_mode c.options.loose) found.domain (statuses_in tiles)
    → AreAskedFor c (maps_made tiles)
made_asked c found tiles has = record {
  mapfile = λ created. refl;
  other = λ none. refl;
  domain = λ none.
      none_asked c.domain_map (map_mode c.options.loose) found.domain (statuses_in tiles) has none;
}

-- ---- the work over maps

over_create : (listed rest : Status) (c : Command) (line list : List ℕ) (m : Maps) (e : LogEnding) (d : Deeds)
    → c.mode ≡ Create listed rest → EndsCreated listed rest c line list m e d → WorksOver c line list m e d
over_create listed rest c line list m e d mode w = inr (inr (
  λ v r. both_ways (looks_at_places c.mode) (ap looks_at_places mode) r.lists,
  subst (λ mode. EndsAs mode c line list m e d) (sym mode) w,
))

over_refused : (listed rest : Status) (c : Command) (line list : List ℕ) (m : Maps) (e : LogEnding)
    → c.mode ≡ Create listed rest → (e ≡ NoMemory) ⊎ (e ≡ FeedFault) ⊎ ListRefused c.options list e
    → WorksOver c line list m e (only_calls [])
over_refused listed rest c line list m e mode (inl starved) =
    inl (starved, record { opens = refl; gain = record { calls = refl; reads = refl; times = refl } })
over_refused listed rest c line list m e mode (inr (inl failed)) =
    over_create listed rest c line list m e (only_calls []) mode
    (inl (failed, record { opens = refl; gain = record { calls = refl; reads = refl; times = refl } }))
over_refused listed rest c line list m e mode (inr (inr refused)) =
    over_create listed rest c line list m e (only_calls []) mode
    (inr (inl (refused, record { opens = refl; gain = record { calls = refl; reads = refl; times = refl } })))

list_passes : (c : Command) (list numbers : List ℕ) (e : LogEnding) → numbers_in (shape_of c.options) list ≡ Ok numbers
    → length list ≤ list_limit → ListRefused c.options list e → ⊥
list_passes c list numbers e read short (inl long) = omega (arith, long.0, short)
list_passes c list numbers e read short (inr (line, within, bad, is)) =
    let no : Ok numbers ≡ Err line = sym read ∙ bad in cc

-- ---- by the outcome

pub is_alone : (c : Command) (listed rest : Status) → AreInLimits c → c.mode ≡ Create listed rest → c.other ≡ None
is_alone c listed rest limits mode = limits.no_other (ap has_other mode)

pub created_starved : (c : Command) (line : List ℕ) (site : SiteState) (feed : FeedState)
    → CreatesMap c line NoMemory site site feed
created_starved c line site feed = record {
  found = found_in c (files_in site);
  list = feed.left;
  calls = [];
  is_own = λ t. refl;
  is_feeds = λ t. refl;
  gained = λ t. sym (append-nil site.calls);
  did = inl (λ m. inl (refl, record { opens = refl; gain = record { calls = refl; reads = refl; times = refl } }));
}

pub created_stopped : (c : Command) (line : List ℕ) (e : LogEnding) (old new : SiteState) (feed : FeedState)
    → Looks c (Err e) old new → CreatesMap c line e old new feed
created_stopped c line e old new feed l = record {
  found = l.found;
  list = feed.left;
  calls = l.calls;
  is_own = l.is_own;
  is_feeds = λ t. refl;
  gained = l.gained;
  did = inl (λ m. l.did line feed.left m);
}

pub created_refused : (c : Command) (line : List ℕ) (listed rest : Status) (tiles : Option Tiled) (e : LogEnding)
    (old new : SiteState) (feed feed' : FeedState) → c.mode ≡ Create listed rest → c.other ≡ None
    → Looks c (Ok tiles) old new → MakesList c.options listed rest (statuses_in tiles) (Err e) feed feed'
    → CreatesMap c line e old new feed
created_refused c line listed rest tiles e old new feed feed' mode alone l w = record {
  found = l.found;
  list = w.list;
  calls = l.calls ++ [];
  is_own = l.is_own;
  is_feeds = w.is_own;
  gained = λ t. l.gained t ∙ ap (λ r. old.calls ++ r) (sym (append-nil l.calls));
  did = inr (
    maps_made tiles,
    made_are c l.found tiles (ap creates mode) alone l.did.0,
    made_asked c l.found tiles l.did.0,
    l.did.1 line w.list (maps_made tiles) e []
        (over_refused listed rest c line w.list (maps_made tiles) e mode w.did),
  );
}

-- the map that was made is that which was asked for
is_created : (c : Command) (line : List ℕ) (h : HeadingLines) (listed rest : Status) (tiles : Option Tiled)
    (list text : List ℕ) (statuses : List Status)
    → h ≡ record { program = Ddrescuelog; line = line; start_s = 0; now_s = 0 }
    → text ≡ printed h nothing_shown statuses
    → (a : AreOfList c.options listed rest (statuses_in tiles) list statuses)
    → IsCreated c listed rest line (maps_made tiles) a.numbers text
is_created c line h listed rest tiles list text statuses heading is a = record {
  end = a.end;
  ends = a.ends;
  is =
      is ∙ ap (λ (g : HeadingLines). printed g nothing_shown statuses) heading
      ∙ ap (λ (s : List Status). map_text line nothing_shown s) a.is;
}

pub created : (c : Command) (line : List ℕ) (h : HeadingLines) (names : MapNames) (listed rest : Status)
    (tiles : Option Tiled) (made : Tiled) (e : LogEnding) (old mid new : SiteState) (feed feed' : FeedState)
    → c.mode ≡ Create listed rest → c.other ≡ None → names ≡ names_of c.mapfile → mid.tells ≡ old.tells
    → h ≡ record { program = Ddrescuelog; line = line; start_s = 0; now_s = 0 }
    → Looks c (Ok tiles) old mid → MakesList c.options listed rest (statuses_in tiles) (Ok made) feed feed'
    → SavesText names (printed h nothing_shown made.statuses) e mid new → CreatesMap c line e old new feed
created c line h names listed rest tiles made e old mid new feed feed' mode alone named same heading l w s =
    let text : List ℕ = printed h nothing_shown made.statuses in
    let m : Maps = maps_made tiles in
    record {
      found = l.found;
      list = w.list;
      calls = l.calls ++ s.calls;
      is_own = l.is_own;
      is_feeds = w.is_own;
      gained = λ t.
          s.gained (subst IsTrue (sym same) t) ∙ ap (λ r. r ++ s.calls) (l.gained t)
          ∙ append_assoc old.calls l.calls s.calls;
      did = inr (
        m,
        made_are c l.found tiles (ap creates mode) alone l.did.0,
        made_asked c l.found tiles l.did.0,
        l.did.1 line w.list m e s.calls
            (over_create listed rest c line w.list m e (only_calls s.calls) mode
            (inr (inr (
              λ v r. list_passes c w.list w.did.0.numbers v w.did.0.read w.did.1 r,
              (
                w.did.0.numbers,
                text,
                w.did.0.read,
                is_created c line h listed rest tiles w.list text made.statuses heading refl w.did.0,
                subst (λ n. Works log_faults (Make (save_calls n text) ∷ []) (OnlyAnswers Done) e (only_calls s.calls)) named
                    s.did,
              ),
            )))),
      );
    }
